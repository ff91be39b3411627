-- The opening has what every step keeps, and so has every run. What every step keeps says what is promised.
use Rattle.std.proofs.Common.{◌≡◌, ℕ, ◌+◌, ◌<◌, ◌≤◌, refl, arith, inl, List, [], ◌∷◌, ◌++◌, sym, subst, ◌⊎◌, Bool, true}
use Rattle.std.proofs.{Common.{false, Some, None}, lemmas.Bool.{both_ways, cases_lt, lt-leb, leb-false}}
use Rattle.std.proofs.lemmas.{Option.{same_Some, none-some}, List.{get_or_push, get_or_append_left, length_push}}
use Rattle.dn_machine.proofs.Put.{put_at, put_off}
use Rattle.dn_machine.specs.{Running.is_over, Node.put}
use Rattle.dn_remain.specs.Vanished.{Node.{Node, ran, fresh, Was, decided}, Promise.{Agree, Lasts, lacks_at}}
use Rattle.dn_remain.specs.Vanished.Steps.{Act, Make, Take, Learn, Run, GiveUp, Leave, Decide, Acts, Step, IsRun}
use Rattle.dn_remain.proofs.Vanished.{Invariant.{IsGrown, IsSound, IsKept, IsLater}, Views.later_self}
use Rattle.dn_remain.proofs.Vanished.Stepping.{IsTold, told_still, told_of, IsMild, IsGood, kept_after, mild_good}
use Rattle.dn_remain.proofs.Vanished.{Stepping.cases_Option, Deciding.decided_good}

module _ (players : ℕ) (history : List (ℕ → Node)) (kept : IsKept players history) where
  ends_same : (x z p a b : ℕ) (u v : Node) → x < players → z < players → (x ≡ z → ⊥) → Was history x u
      → Was history z v → u.gone z ≡ false → v.gone x ≡ false → u.ends p ≡ Some a → v.ends p ≡ Some b → a ≡ b
  ends_same x z p a b u v l m n w y f g s t =
      let c : v.got p ≤ a = kept.met x z u v l m n w y f g p a s in
      let d : u.got p ≤ b = kept.met z x v u m l (λ e. n (sym e)) y w g f p b t in
      let e : u.got p ≡ a = (kept.sound x u w).full p a s in
      let h : v.got p ≡ b = (kept.sound z v y).full p b t in
      omega arith

  -- one knows the end, and the other ran the tic with the player
  one_knows : (x z p tic a : ℕ) (u v : Node) → x < players → z < players → p < players → (x ≡ z → ⊥)
      → Was history x u → Was history z v → u.gone z ≡ false → v.gone x ≡ false
      → tic < ran v → u.ends p ≡ Some a → v.ends p ≡ None → is_over (u.ends p) tic ≡ is_over (v.ends p) tic
  one_knows x z p tic a u v l m i n w y f g k s t = grind (arith, lt-leb)

  within_same : (x z p tic : ℕ) (u v : Node) → x < players → z < players → p < players → (x ≡ z → ⊥)
      → Was history x u → Was history z v → u.gone z ≡ false → v.gone x ≡ false
      → tic < ran u → tic < ran v → is_over (u.ends p) tic ≡ is_over (v.ends p) tic
  within_same x z p tic u v l m i n w y f g j k = grind (arith, cases_Option, one_knows, ends_same)

  -- of whoever takes part there is a command
  held : (x p tic : ℕ) (u : Node) → Was history x u → p < players → tic < ran u
      → lacks_at u tic p ≡ false → tic < u.got p
  held x p tic u w i l t = grind (arith, cases_Option, leb-false)

  pub agree : Agree players history
  agree = grind (arith, ends_same, within_same, held)

  pub lasts : Lasts history
  lasts = grind arith

-- Each step that decides nothing is mild.

module _ (players : ℕ) (nodes : ℕ → Node) (older : List (ℕ → Node)) (q : ℕ) (l : q < players)
    (here : (nodes q).left ≡ false) (kept : IsKept players (nodes ∷ older)) where
  sound : IsSound players (nodes ∷ older) q (nodes q)
  sound = kept.sound q (nodes q) (inl refl)

  told : IsTold players (nodes q)
  told = told_of players (nodes ∷ older) q (nodes q) sound

  -- it gives up another
  gives_up : (p : ℕ) → (p ≡ q → ⊥) → IsMild players nodes q (record (nodes q) { gone = put (nodes q).gone p true })
  gives_up p n = grind (arith, put_off, sound, put_at, told, told_still)

  -- its counts, ends and given-up players stay
  still : (left : Bool) (rows : List (ℕ → Bool)) → IsTold players (record (nodes q) { left = left; rows = rows })
      → IsGrown (nodes q) (record (nodes q) { left = left; rows = rows })
      → IsMild players nodes q (record (nodes q) { left = left; rows = rows })
  still left rows rows_told grown = grind (arith, sound, told)

  -- it leaves
  leaves : IsMild players nodes q (record (nodes q) { left = true })
  leaves = grind (arith, still, told_still, told, sound)

  -- a node that has not left has no end of its own
  no_own_end : (e : ℕ) → (nodes q).ends q ≡ Some e → ⊥
  no_own_end e s = grind (arith, sound, both_ways)

  -- counts of one player rise, and no end of that player is known
  raised_got : (p end : ℕ) → (nodes q).gone p ≡ false → (nodes q).got p ≤ end
      → ((p ≡ q) ⊎ ((p ≡ q → ⊥) × (end ≤ (nodes p).got p))) → (r : ℕ)
      → (put (nodes q).got p end r ≡ (nodes q).got r)
      ⊎ (((nodes q).gone r ≡ false) × ((nodes q).got r ≤ put (nodes q).got p end r)
      × ((r ≡ q) ⊎ ((r ≡ q → ⊥) × (put (nodes q).got p end r ≤ (nodes r).got r))))
  raised_got p end f m h r = grind (arith, put_at, put_off)

  raised_up : (p end : ℕ) → (nodes q).got p ≤ end → (r : ℕ) → (nodes q).got r ≤ put (nodes q).got p end r
  raised_up p end m r = grind (arith, put_at, put_off)

  -- an end that is known does not let the count rise
  held_there : (p end : ℕ) → ((e : ℕ) → (nodes q).ends p ≡ Some e → end ≡ e) → (r e : ℕ)
      → (nodes q).ends r ≡ Some e → put (nodes q).got p end r ≡ (nodes q).got r
  held_there p end h r e s = grind (arith, put_at, sound, put_off)

  -- an end of a player who is not given up is by EXIT, and no more commands of that player come
  exit_end : (p end e : ℕ) → (nodes q).gone p ≡ false → (nodes q).got p ≤ end → end ≤ (nodes p).got p
      → (nodes q).ends p ≡ Some e → end ≡ e
  exit_end p end e f m n s = grind (arith, sound, both_ways)

  raises : (p end : ℕ) → (nodes q).gone p ≡ false → (nodes q).got p ≤ end
      → ((p ≡ q) ⊎ ((p ≡ q → ⊥) × (end ≤ (nodes p).got p))) → ((e : ℕ) → (nodes q).ends p ≡ Some e → end ≡ e)
      → IsMild players nodes q (record (nodes q) { got = put (nodes q).got p end })
  raises p end f m h k = grind (arith, sound, raised_got, held_there, told, told_still, raised_up)

  makes : IsMild players nodes q (record (nodes q) { got = put (nodes q).got q ((nodes q).got q + 1) })
  makes = raises q ((nodes q).got q + 1) sound.own (omega arith) (inl refl) (λ e s. absurd (no_own_end e s))

  takes : (p end : ℕ) → (nodes q).gone p ≡ false → (nodes q).got p ≤ end → end ≤ (nodes p).got p
      → IsMild players nodes q (record (nodes q) { got = put (nodes q).got p end })
  takes p end f m n = grind (arith, raises, exit_end)

  learnt_old : (p : ℕ) → (nodes q).gone p ≡ false → (r e : ℕ) → (nodes q).ends r ≡ Some e
      → put (nodes q).ends p (Some ((nodes p).got p)) r ≡ Some e
  learnt_old p f r e s = grind (arith, put_at, exit_end, sound, put_off)

  learnt_new : (p : ℕ) → (p ≡ q → ⊥) → (nodes p).left ≡ true → (r e : ℕ)
      → put (nodes q).ends p (Some ((nodes p).got p)) r ≡ Some e
      → (((nodes q).ends r ≡ Some e) × (put (nodes q).got p ((nodes p).got p) r ≡ (nodes q).got r))
      ⊎ ((r ≡ q → ⊥) × ((nodes r).left ≡ true) × (e ≡ (nodes r).got r)
      × (put (nodes q).got p ((nodes p).got p) r ≡ e))
  learnt_new p m g r e s = grind (arith, same_Some, put_at, put_off)

  learnt_full : (p : ℕ) → (p ≡ q → ⊥) → (nodes p).left ≡ true → (r e : ℕ)
      → put (nodes q).ends p (Some ((nodes p).got p)) r ≡ Some e → put (nodes q).got p ((nodes p).got p) r ≡ e
  learnt_full p m g r e s = grind (arith, learnt_new, sound)

  learns : (p : ℕ) → (p ≡ q → ⊥) → (nodes q).gone p ≡ false → (nodes p).left ≡ true
      → IsMild players nodes q (record (nodes q) {
        got = put (nodes q).got p ((nodes p).got p);
        ends = put (nodes q).ends p (Some ((nodes p).got p));
      })
  learns p n f g = grind (arith, sound, raised_got, learnt_old, learnt_new, told, told_still, raised_up, learnt_full)

  -- it runs a tic
  runs : ((p : ℕ) → p < players → is_over ((nodes q).ends p) (ran (nodes q)) ≡ false → ran (nodes q) < (nodes q).got p)
      → IsMild players nodes q
      (record (nodes q) { rows = (nodes q).rows ++ (λ p. is_over ((nodes q).ends p) (ran (nodes q))) ∷ [] })
  runs h = grind (arith, length_push, still, cases_lt, get_or_append_left, sound, get_or_push)

fresh_sound : (players x : ℕ) → IsSound players ((λ node. fresh) ∷ []) x fresh
fresh_sound players x = grind (arith, none-some)

only_fresh : (x : ℕ) (u : Node) → Was ((λ node. fresh) ∷ []) x u → u ≡ fresh
only_fresh x u w = grind arith

opening_later : (players x : ℕ) (u v : Node) → u ≡ fresh → v ≡ fresh → IsLater players ((λ node. fresh) ∷ []) x u v
opening_later players x u v d e = grind (arith, IsLater, later_self)

opens : (players : ℕ) → IsKept players ((λ node. fresh) ∷ [])
opens players = grind (arith, opening_later, only_fresh, IsSound, fresh_sound, none-some)

module _ (players ahead : ℕ) (nodes : ℕ → Node) (older : List (ℕ → Node)) (q : ℕ) (l : q < players)
    (here : (nodes q).left ≡ false) (kept : IsKept players (nodes ∷ older)) where
  same_good : (new next : Node) → next ≡ new → IsGood players nodes older q new → IsGood players nodes older q next
  same_good new next e h = subst (λ (n : Node). IsGood players nodes older q n) (sym e) h

  mild : (new next : Node) → next ≡ new → IsMild players nodes q new → IsGood players nodes older q next
  mild new next e h = same_good new next e (mild_good players nodes older q new l kept h)

  good : (act : Act) (new : Node) → Acts players ahead (nodes ∷ older) q act new → IsGood players nodes older q new
  good Make new a = mild _ new a.1 (makes players nodes older q l here kept)
  good Take new a = mild _ new a.8 (takes players nodes older q l here kept a.0 a.1 a.5 a.6
      (let b : a.2.got a.0 ≤ (nodes a.0).got a.0 = (kept.sound a.3.0 a.2 a.3.1).made a.0 in
      let c = a.7 in omega arith))
  good Learn new a = mild _ new a.5 (learns players nodes older q l here kept a.0 a.1 a.2 a.3)
  good Run new a = mild _ new a.1 (runs players nodes older q l here kept a.0)
  good GiveUp new a = mild _ new a.3 (gives_up players nodes older q l here kept a.0 a.2)
  good Leave new a = mild _ new a (leaves players nodes older q l here kept)
  good Decide new a = same_good (decided players q (nodes q) a.0) new a.2
      (decided_good players nodes older q l here kept a.0 a.1)

steps : (players ahead : ℕ) (nodes : ℕ → Node) (older : List (ℕ → Node)) (next : ℕ → Node)
    → Step players ahead (nodes ∷ older) next → IsKept players (nodes ∷ older) → IsKept players (next ∷ nodes ∷ older)
steps players ahead nodes older next step kept = grind (arith, IsKept, kept_after, good)

pub always : (players ahead : ℕ) (history : List (ℕ → Node)) → IsRun players ahead history → IsKept players history
always players ahead [] run = absurd run
always players ahead (nodes ∷ []) run = subst (λ (n : ℕ → Node). IsKept players (n ∷ [])) (sym run) (opens players)
always players ahead (next ∷ (nodes ∷ older)) run =
    steps players ahead nodes older next run.0 (always players ahead (nodes ∷ older) run.1)
