-- Of a player whom it has not given up, a node has nothing that the player made after it decided without the node:
-- who hands commands on to the node had not given it up, and so had not heard of such a decision's reports.
use Rattle.std.proofs.Common.{◌≡◌, ℕ, ◌<◌, ◌≤◌, refl, sym, ◌∙◌, ap, subst, arith, inl, inr, List, [], ◌∷◌, true, false}
use Rattle.std.proofs.lemmas.Bool.{both_ways, cases_eq, cases_Bool}
use Rattle.dn_machine.proofs.Put.{put_at, put_off}
use Rattle.dn_machine.specs.Node.{put}
use Rattle.dn_remain.specs.Vanished.Node.{Node, Was}
use Rattle.dn_remain.specs.Vanished.Steps.{Act, Make, Take, Learn, Run, GiveUp, Leave, Decide, Acts, IsRun, HandsOn}
use Rattle.dn_remain.proofs.{Vanished.Invariant.IsDecision, Vanished.Invariant.IsKept, Vanished.Deciding.got_out, Vanished.Stepping.each_was, Vanished.Always.always, Vanished.Views.outside}

-- all states of the one history are states of the other
abbrev IsPast : List (ℕ → Node) → List (ℕ → Node) → Type 0
IsPast history all = (x : ℕ) (u : Node) → Was history x u → Was all x u

module _ (players ahead : ℕ) (all : List (ℕ → Node)) (whole : IsKept players all) (p : ℕ) (d : Node)
    (decides : IsDecision players all p d) where
  -- a state of the player in which it had not given up a node
  pub own_behind : (q : ℕ) (sent : Node) → Was all p sent → sent.gone q ≡ false → d.gone q ≡ true
      → sent.got p ≤ d.got p
  own_behind q sent w o t = grind (arith, both_ways)

  -- a state of another, who was heard by the decision
  heard_behind : (r q : ℕ) (sent : Node) → r < players → Was all r sent → sent.gone q ≡ false → d.gone q ≡ true
      → d.gone r ≡ false → sent.got p ≤ d.got p
  heard_behind r q sent l w o t h = grind (arith, both_ways)

  module _ (nodes : ℕ → Node) (older : List (ℕ → Node)) (past : IsPast (nodes ∷ older) all)
      (before : (x : ℕ) (u : Node) → x < players → (x ≡ p → ⊥) → Was (nodes ∷ older) x u → u.gone p ≡ false
      → d.gone x ≡ true → u.got p ≤ d.got p) where
    -- what is handed on
    pub handed_behind : (q : ℕ) (node sent : Node) → HandsOn players (nodes ∷ older) node p sent → sent.gone q ≡ false
        → node.gone p ≡ false → d.gone q ≡ true → sent.got p ≤ d.got p
    handed_behind q node sent hands o f t = elim hands.2 [
      | inl e ↦ own_behind q sent (past p sent (subst (λ (i : ℕ). Was (nodes ∷ older) i sent) e hands.1)) o t
      | inr k ↦ elim (cases_eq hands.0 p) [
        | inl e ↦ own_behind q sent (past p sent (subst (λ (i : ℕ). Was (nodes ∷ older) i sent) e hands.1)) o t
        | inr n ↦ elim (cases_Bool (d.gone hands.0)) [
          | inl g ↦ before hands.0 sent k.0 n hands.1 (outside sent.gone node.gone p k.1 f) g
          | inr g ↦ heard_behind hands.0 q sent k.0 (past hands.0 sent hands.1) o t g
        ]
      ]
    ]

    module _ (q : ℕ) (l : q < players) (here : (nodes q).left ≡ false) (kept : IsKept players (nodes ∷ older))
        (apart : (q ≡ p → ⊥)) (t : d.gone q ≡ true) where
      stays : (new : Node) → (nodes q).gone p ≡ false → new.got p ≡ (nodes q).got p → new.got p ≤ d.got p
      stays new g e = let a = before q (nodes q) l apart (inl refl) g t in omega arith

      raised : (new : Node) (a end : ℕ) → (nodes q).gone p ≡ false → new.got ≡ put (nodes q).got a end
          → (p ≡ a → end ≤ d.got p) → new.got p ≤ d.got p
      raised new a end g s h = grind (arith, stays, put_off, put_at)

      was_in : (new next : Node) → next ≡ new → next.gone p ≡ false → new.gone p ≡ false
      was_in new next e g = sym (ap (λ (n : Node). n.gone p) e) ∙ g

      pub new_behind : (act : Act) (new : Node) → Acts players ahead (nodes ∷ older) q act new → new.gone p ≡ false
          → new.got p ≤ d.got p
      new_behind Make new a g = grind (arith, stays, was_in, put_off)
      new_behind Take new a g = raised new a.0 a.1 (was_in _ new a.8 g) (ap (λ (m : Node). m.got) a.8) (λ e.
          let b : a.2.got p ≤ d.got p = handed_behind q (nodes q) a.2
          (subst (λ (i : ℕ). HandsOn players (nodes ∷ older) (nodes q) i a.2) (sym e) a.3) a.4 (was_in _ new a.8 g) t in
          let c : a.1 ≤ a.2.got a.0 = a.7 in
          let f : a.2.got p ≡ a.2.got a.0 = ap a.2.got e in
          omega arith)
      new_behind Learn new a g = raised new a.0 ((nodes a.0).got a.0) (was_in _ new a.5 g)
          (ap (λ (m : Node). m.got) a.5) (λ e.
          let b : (nodes p).got p ≤ d.got p = own_behind q (nodes p) (past p (nodes p) (inl refl))
          (ap (λ (i : ℕ). (nodes i).gone q) e ∙ a.4) t in
          let f : (nodes p).got p ≡ (nodes a.0).got a.0 = ap (λ (i : ℕ). (nodes i).got i) e in
          omega arith)
      new_behind Run new a g = stays new (was_in _ new a.1 g) (ap (λ (m : Node). m.got p) a.1)
      new_behind GiveUp new a g = grind (arith, stays, both_ways, was_in, put_at, put_off)
      new_behind Leave new a g = stays new (was_in _ new a g) (ap (λ (m : Node). m.got p) a)
      new_behind Decide new a g = grind (arith, stays, was_in, got_out)

  pub behind : (history : List (ℕ → Node)) → IsRun players ahead history → IsPast history all → (x : ℕ) (u : Node)
      → x < players → (x ≡ p → ⊥) → Was history x u → u.gone p ≡ false → d.gone x ≡ true → u.got p ≤ d.got p
  behind [] run past x u l n w g t = absurd run
  behind (nodes ∷ []) run past x u l n w g t = grind arith
  behind (next ∷ (nodes ∷ older)) run past x u l n w g t =
      let step = run.0 in
      let late : IsPast (nodes ∷ older) all = λ y v k. past y v (inr k) in
      let before = behind (nodes ∷ older) run.1 late in
      each_was nodes older step.q step.new
      (λ x u. x < players → (x ≡ p → ⊥) → u.gone p ≡ false → d.gone x ≡ true → u.got p ≤ d.got p)
      (λ l n g t. new_behind nodes older late before step.q step.player step.here
      (always players ahead (nodes ∷ older) run.1) n t step.act step.new step.acts g)
      (λ x u o l n g t. before x u l n o g t) x u
      (subst (λ (s : ℕ → Node). Was (s ∷ nodes ∷ older) x u) step.next_is w) l n g t
