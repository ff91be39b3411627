-- What the tests of a node say, and what a node lacks that cannot decide. The tests ask for no more than
-- they need.
use Rattle.std.proofs.Common.{◌≡◌, ℕ, ◌<◌, ◌≤◌, eqb, zero, suc, refl, sym, ◌∙◌, ap, subst, arith, inl, inr, List, [], ◌∷◌, Bool, true, false, not, ◌||◌, Option, Some, ◌&&◌}
use Rattle.std.proofs.lemmas.Bool.{both_ways, cases_eq, cases_lt, and_parts, or_cases, not-true, eqb-true, true≢false, cases_Bool, eq-eqb, cond-true}
use Rattle.dn_machine.proofs.Put.{put_at, put_off}
use Rattle.dn_machine.specs.Node.{put}
use Rattle.dn_remain.specs.Vanished.Calls.{every, is_within_at, is_report, is_report_in, is_heard, can_decide}
use Rattle.dn_remain.specs.Vanished.{Calls.{report_or, Keeper, after_news, is_newer}, Steps.{Act, Acts, IsRun}}
use Rattle.dn_remain.specs.Vanished.{Node.{Node, now, Was, Within, Stands, HasHeard}, Promise.Steady}
use Rattle.dn_remain.proofs.{Vanished.Views.both_within, Vanished.Stepping.cases_Option, Vanished.Invariant.IsLater, Vanished.Invariant.IsKept, Vanished.Views.same_within, Vanished.Views.same_turned}

both : (a b : Bool) → a ≡ true → b ≡ true → (a && b) ≡ true
both a b e f = ap (λ (x : Bool). x && b) e ∙ f

first : (a b : Bool) → a ≡ true → (a || b) ≡ true
first a b e = ap (λ (x : Bool). x || b) e

second : (a b : Bool) → b ≡ true → (a || b) ≡ true
second a b f = grind (arith, first)

neither : (a b : Bool) → (a || b) ≡ false → (a ≡ false) × (b ≡ false)
neither a b h = grind (arith, both_ways, first)

every_from : (bound : ℕ) (test : ℕ → Bool) → ((i : ℕ) → i < bound → test i ≡ true) → every bound test ≡ true
unfolding every
every_from zero test h = refl
every_from (suc bound) test h =
    both (every bound test) (test bound) (every_from bound test (λ i l. h i (omega arith))) (h bound (omega arith))

every_fails : (bound : ℕ) (test : ℕ → Bool) → every bound test ≡ false → (i : ℕ) × (i < bound) × (test i ≡ false)
unfolding every
every_fails zero test h = absurd (true≢false h)
every_fails (suc bound) test h = elim (cases_Bool (test bound)) [
  | inr f ↦ (bound, omega arith, f)
  | inl t ↦ elim (cases_Bool (every bound test)) [
    | inl e ↦ absurd (both_ways (every bound test && test bound) h (both (every bound test) (test bound) e t))
    | inr f ↦ let k = every_fails bound test f in (k.0, omega (arith, k.1), k.2)
  ]
]

within_at : (one other : ℕ → Bool) (p : ℕ) → Within one other → is_within_at one other p ≡ true
within_at one other p h = grind (arith, second, first)

within_every : (players : ℕ) (one other : ℕ → Bool) → Within one other
    → every players (is_within_at one other) ≡ true
within_every players one other h = every_from players (is_within_at one other) (λ i l. within_at one other i h)

stands_is : (players : ℕ) (gone : ℕ → Bool) (report : Node) → Stands gone report
    → is_report players gone report ≡ true
stands_is players gone report h = grind (arith, both, within_every, same_within, second, same_turned, first)

module _ (players q : ℕ) (node : Node) (newest : ℕ → Option Node) where
  -- whoever has what it needs can decide
  pub can : ((r : ℕ) → r < players → (r ≡ q → ⊥) → node.gone r ≡ false
      → (report : Node) × (newest r ≡ Some report) × Stands node.gone report)
      → can_decide players q node newest ≡ true
  can h = grind (arith, every_from, first, eq-eqb, second, stands_is)

  -- whoever cannot lacks a report of one whom it has not given up
  pub lacking : can_decide players q node newest ≡ false
      → (r : ℕ) × (r < players) × (r ≡ q → ⊥) × (node.gone r ≡ false)
      × ((report : Node) → newest r ≡ Some report → Stands node.gone report → ⊥)
  lacking h = grind (arith, every_fails, neither, both_ways, eq-eqb, stands_is)

-- whoever can decide has decided, once it has heard the news
pub decided_now : (players q : ℕ) (keeper : Keeper) (p : ℕ)
    → can_decide players q keeper.node keeper.newest ≡ true → keeper.node.gone p ≡ true
    → (after_news players q keeper).node.ends p ≡ Some ((after_news players q keeper).node.got p)
decided_now players q keeper p h t = grind (arith, cond-true)

module _ (players : ℕ) (history : List (ℕ → Node)) (kept : IsKept players history) where
  -- a later state is a newer report
  newer : (r : ℕ) (old report : Node) → IsLater players history r old report
      → is_newer players (Some old) report ≡ true
  newer r old report h = grind (arith, both, within_every)

  older : (r : ℕ) (old report : Node) → Was history r old → Was history r report
      → is_newer players (Some old) report ≡ false → IsLater players history r report old
  older r old report w y h = elim (kept.pairs r old report w y) [
    | inl l ↦ absurd (both_ways (is_newer players (Some old) report) h (newer r old report l))
    | inr l ↦ l
  ]

  pub steady : Steady players history
  steady = grind (arith, older)

pub every_at : (bound : ℕ) (test : ℕ → Bool) (i : ℕ) → every bound test ≡ true → i < bound → test i ≡ true
unfolding every
every_at zero test i h l = absurd (omega arith)
every_at (suc bound) test i h l =
    let a = and_parts (every bound test) (test bound) h in
    elim (cases_lt i bound) [
      | inl m ↦ every_at bound test i a.0 m
      | inr m ↦ let e : i ≡ bound = omega arith in ap test e ∙ a.1
    ]

module _ (players ahead : ℕ) (nodes : ℕ → Node) (older : List (ℕ → Node)) (q : ℕ) where
  next_bounded : (act : Act) (new : Node) → Acts players ahead (nodes ∷ older) q act new
      → ((p : ℕ) → players ≤ p → (nodes q).gone p ≡ false) → (p : ℕ) → players ≤ p → new.gone p ≡ false
  next_bounded act new a h p l = grind (arith, put_off)

pub bounded : (players ahead : ℕ) (history : List (ℕ → Node)) → IsRun players ahead history → (x : ℕ) (u : Node)
    → Was history x u → (p : ℕ) → players ≤ p → u.gone p ≡ false
bounded players ahead [] run x u w p l = absurd run
bounded players ahead (nodes ∷ []) run x u w p l = grind arith
bounded players ahead (next ∷ (nodes ∷ older)) run x u w p l = elim w [
  | inr o ↦ bounded players ahead (nodes ∷ older) run.1 x u o p l
  | inl e ↦
      let step = run.0 in
      let d : u ≡ put nodes step.q step.new x = e ∙ ap (λ (f : ℕ → Node). f x) step.next_is in
      elim (cases_eq x step.q) [
        | inl i ↦ ap (λ (n : Node). n.gone p) (d ∙ put_at nodes step.q x step.new i)
            ∙ next_bounded players ahead nodes older step.q step.act step.new step.acts
            (λ r m. bounded players ahead (nodes ∷ older) run.1 step.q (nodes step.q) (inl refl) r m) p l
        | inr i ↦ ap (λ (n : Node). n.gone p) (d ∙ put_off nodes step.q x step.new i)
            ∙ bounded players ahead (nodes ∷ older) run.1 x (nodes x) (inl refl) p l
      ]
]

within_from : (players : ℕ) (a b : ℕ → Bool) → ((p : ℕ) → players ≤ p → a p ≡ false)
    → every players (is_within_at a b) ≡ true → Within a b
within_from players a b out h p t = elim (cases_lt p players) [
  | inr m ↦ absurd (both_ways (a p) (out p m) t)
  | inl m ↦ elim (or_cases (not (a p)) (b p) (every_at players (is_within_at a b) p h m)) [
    | inl n ↦ absurd (both_ways (a p) (not-true (a p) n) t)
    | inr y ↦ y
  ]
]

stands_from : (players : ℕ) (gone : ℕ → Bool) (report : Node) → ((p : ℕ) → players ≤ p → gone p ≡ false)
    → ((p : ℕ) → players ≤ p → report.gone p ≡ false) → is_report players gone report ≡ true → Stands gone report
stands_from players gone report out out' h =
    let a = and_parts (every players (is_within_at report.gone gone))
    (report.left || every players (is_within_at gone report.gone)) h in
    let b = within_from players report.gone gone out' a.0 in
    elim (or_cases report.left (every players (is_within_at gone report.gone)) a.1) [
      | inl left ↦ inr (left, b)
      | inr c ↦ inl (both_within report.gone gone b (within_from players gone report.gone out c))
    ]

now_was : (players ahead : ℕ) (history : List (ℕ → Node)) → IsRun players ahead history → (x : ℕ) → Was history x (now history x)
now_was players ahead [] run x = absurd run
now_was players ahead (nodes ∷ older) run x = inl refl

pub heard_from : (players ahead : ℕ) (history : List (ℕ → Node)) (q : ℕ) (newest : ℕ → Option Node)
    → IsRun players ahead history → ((r : ℕ) (report : Node) → newest r ≡ Some report → Was history r report)
    → can_decide players q (now history q) newest ≡ true
    → HasHeard players history q (now history q) (λ r. report_or (newest r))
heard_from players ahead history q newest run true_ h r l n o =
    elim (or_cases (eqb r q) _ (every_at players (is_heard players q (now history q) newest) r h l)) [
      | inl e ↦ absurd (n (eqb-true r q e))
      | inr a ↦ elim (or_cases ((now history q).gone r) _ a) [
        | inl e ↦ absurd (both_ways ((now history q).gone r) o e)
        | inr b ↦ elim (cases_Option (newest r)) [
          | inl e ↦ absurd (true≢false (sym (sym (ap (λ (i : Option Node).
              is_report_in players (now history q).gone i) e) ∙ b)))
          | inr e ↦
              let w : Was history r e.0 = true_ r e.0 e.1 in
              let s : Stands (now history q).gone e.0 = stands_from players (now history q).gone e.0
              (bounded players ahead history run q (now history q) (now_was players ahead history run q))
              (bounded players ahead history run r e.0 w)
              (sym (ap (λ (i : Option Node). is_report_in players (now history q).gone i) e.1) ∙ b) in
              subst (λ (i : Option Node). Was history r (report_or i) × Stands (now history q).gone (report_or i))
              (sym e.1) (w, s)
        ]
      ]
    ]
