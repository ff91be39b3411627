-- When one node steps and its new state meets what is asked of it, all is kept. So the steps that decide
-- nothing keep all.
use Rattle.std.proofs.Common.{◌≡◌, ℕ, ◌<◌, ◌≤◌, refl, sym, subst, arith, inl, inr, List, ◌∷◌, ◌⊎◌, true, false, Option}
use Rattle.std.proofs.{Common.{Some, None}, lemmas.{Bool.{both_ways, lt-leb}, Option.none-some}}
use Rattle.dn_machine.proofs.Put.{put_at, put_off}
use Rattle.dn_machine.specs.{Node.put, Running.is_over}
use Rattle.dn_remain.specs.Vanished.{Node.{Node, Was, ran, now, Within}, Promise.lacks_at}
use Rattle.dn_remain.proofs.Vanished.{Put.at_put, Invariant.{IsLater, IsSound, IsMet, IsKept, IsGrown, HasSource}}
use Rattle.dn_remain.proofs.Vanished.Views.{later_self, later_joined, later_kept, sound_kept, outside, source_kept}

-- what is asked of the new state of node `q`
pub record IsGood (players : ℕ) (nodes : ℕ → Node) (older : List (ℕ → Node)) (q : ℕ) (new : Node) : Type 0 where
  pub here : (nodes q).left ≡ false
  pub later : IsLater players (put nodes q new ∷ nodes ∷ older) q (nodes q) new
  pub sound : IsSound players (put nodes q new ∷ nodes ∷ older) q new
  pub met_left : (z : ℕ) (v : Node) → z < players → (z ≡ q → ⊥) → Was (nodes ∷ older) z v → IsMet q z new v
  pub met_right : (z : ℕ) (u : Node) → z < players → (z ≡ q → ⊥) → Was (nodes ∷ older) z u → IsMet z q u new

pub was_q : (nodes : ℕ → Node) (older : List (ℕ → Node)) (q : ℕ) (new u : Node)
    → Was (put nodes q new ∷ nodes ∷ older) q u → (u ≡ new) ⊎ Was (nodes ∷ older) q u
was_q nodes older q new u h = grind (arith, put_at)

pub was_other : (nodes : ℕ → Node) (older : List (ℕ → Node)) (q : ℕ) (new : Node) (x : ℕ) (u : Node)
    → (x ≡ q → ⊥) → Was (put nodes q new ∷ nodes ∷ older) x u → Was (nodes ∷ older) x u
was_other nodes older q new x u n h = grind (arith, put_off)

-- what holds of the new state, and of every old one, holds of every state after the step
pub each_was : (nodes : ℕ → Node) (older : List (ℕ → Node)) (q : ℕ) (new : Node) (P : ℕ → Node → Type 0) → P q new
    → ((x : ℕ) (u : Node) → Was (nodes ∷ older) x u → P x u) → (x : ℕ) (u : Node)
    → Was (put nodes q new ∷ nodes ∷ older) x u → P x u
each_was nodes older q new P here rest x u is = grind (arith, at_put)

-- counts do not fall
pub grows : (nodes : ℕ → Node) (q : ℕ) (new : Node) → ((p : ℕ) → (nodes q).got p ≤ new.got p) → (r p : ℕ)
    → (nodes r).got p ≤ (put nodes q new r).got p
grows nodes q new h r p = grind (arith, put_at, put_off)

-- whoever has left stays
pub stays : (nodes : ℕ → Node) (q : ℕ) (new : Node) → (nodes q).left ≡ false → (p : ℕ) → (nodes p).left ≡ true
    → put nodes q new p ≡ nodes p
stays nodes q new h p l = grind (arith, put_off, both_ways)

module _ (players : ℕ) (nodes : ℕ → Node) (older : List (ℕ → Node)) (q : ℕ) (new : Node)
    (kept : IsKept players (nodes ∷ older)) (good : IsGood players nodes older q new) where
  abbrev past : List (ℕ → Node)
  past = nodes ∷ older

  abbrev after : List (ℕ → Node)
  after = put nodes q new ∷ nodes ∷ older

  each : (P : ℕ → Node → Type 0) → P q new → ((x : ℕ) (u : Node) → Was past x u → P x u) → (x : ℕ) (u : Node)
      → Was after x u → P x u
  each = each_was nodes older q new

  up : (x : ℕ) (u v : Node) → IsLater players past x u v → IsLater players after x u v
  up = later_kept players past (put nodes q new) (grows nodes q new good.later.got) kept

  -- up to the new state of the node that steps
  order_q : (u : Node) → Was past q u → IsLater players after q u new
  order_q u w = later_joined players after q u (nodes q) new (up q u (nodes q) (kept.order q u w)) good.later

  order_after : (x : ℕ) (u : Node) → Was after x u → IsLater players after x u (put nodes q new x)
  order_after = each (λ x u. IsLater players after x u (put nodes q new x))
      (subst (λ (n : Node). IsLater players after q new n) (sym (put_at nodes q q new refl)) (later_self players after q new))
      (λ x u w. at_put (λ x n. (u : Node) → Was past x u → IsLater players after x u n) nodes q new order_q
      (λ x n u w. up x u (nodes x) (kept.order x u w)) x u w)

  order_new : (u : Node) → Was after q u → IsLater players after q u new
  order_new u w = subst (λ (n : Node). IsLater players after q u n) (put_at nodes q q new refl) (order_after q u w)

  abbrev Ordered : ℕ → Node → Node → Type 0
  Ordered x u v = IsLater players after x u v ⊎ IsLater players after x v u

  pairs_old : (x : ℕ) (v : Node) → Was after x v → (u : Node) → Was past x u → Ordered x u v
  pairs_old = each (λ x v. (u : Node) → Was past x u → Ordered x u v) (λ u w. inl (order_q u w))
      (λ x v y u w. elim (kept.pairs x u v w y) [ inl l ↦ inl (up x u v l) | inr l ↦ inr (up x v u l) ])

  pairs_after : (x : ℕ) (u v : Node) → Was after x u → Was after x v → Ordered x u v
  pairs_after x u v w = each (λ x u. Was after x v → Ordered x u v) (λ y. inr (order_new v y))
      (λ x u w y. pairs_old x v y u w) x u w

  sound_after : (x : ℕ) (u : Node) → Was after x u → IsSound players after x u
  sound_after = each (λ x u. IsSound players after x u) good.sound
      (λ x u w. sound_kept players past (put nodes q new) (grows nodes q new good.later.got) kept
      (stays nodes q new good.here) x u (kept.sound x u w))

  met_after : (x z : ℕ) (u v : Node) → x < players → z < players → (x ≡ z → ⊥) → Was after x u → Was after z v
      → IsMet x z u v
  met_after x z u v l m n w y = grind (arith, each, was_other)

  pub kept_after : IsKept players after
  kept_after = record { order = order_after; pairs = pairs_after; sound = sound_after; met = met_after }

pub cases_Option : {A : Type 0} (o : Option A) → (o ≡ None) ⊎ ((x : A) × (o ≡ Some x))
cases_Option None = inl refl
cases_Option (Some x) = inr (x, refl)

-- what is told of the rows of a state
pub record IsTold (players : ℕ) (u : Node) : Type 0 where
  pub rows : (p tic : ℕ) → p < players → tic < ran u → lacks_at u tic p ≡ is_over (u.ends p) tic
  pub ahead : (p : ℕ) → p < players → u.ends p ≡ None → ran u ≤ u.got p

-- a step that runs nothing leaves it so
pub told_still : (players : ℕ) (node new : Node) → IsTold players node → new.rows ≡ node.rows
    → ((p : ℕ) → node.got p ≤ new.got p) → ((p e : ℕ) → node.ends p ≡ Some e → new.ends p ≡ Some e)
    → ((p e : ℕ) → new.ends p ≡ Some e → new.got p ≡ e) → IsTold players new
told_still players node new h same got old full = grind (arith, cases_Option, lt-leb, none-some)

pub told_of : (players : ℕ) (history : List (ℕ → Node)) (x : ℕ) (u : Node) → IsSound players history x u
    → IsTold players u
told_of players history x u h = record { rows = h.rows; ahead = h.ahead }

-- a state is sound by its counts and ends, and by what is told of its rows
pub sound_by : (players : ℕ) (history : List (ℕ → Node)) (x : ℕ) (u : Node) → u.gone x ≡ false
    → ((p e : ℕ) → u.ends p ≡ Some e → u.got p ≡ e) → ((p : ℕ) → u.got p ≤ (now history p).got p)
    → ((p e : ℕ) → u.ends p ≡ Some e → HasSource players history x u p e) → IsTold players u
    → IsSound players history x u
sound_by players history x u own full made source told = grind arith

-- what those steps have in common
pub record IsMild (players : ℕ) (nodes : ℕ → Node) (q : ℕ) (new : Node) : Type 0 where
  pub here : (nodes q).left ≡ false
  pub own : new.gone q ≡ false
  pub gone : Within (nodes q).gone new.gone
  pub got : (p : ℕ) → (new.got p ≡ (nodes q).got p)
      ⊎ (((nodes q).gone p ≡ false) × ((nodes q).got p ≤ new.got p)
      × ((p ≡ q) ⊎ ((p ≡ q → ⊥) × (new.got p ≤ (nodes p).got p))))
  pub old_ends : (p e : ℕ) → (nodes q).ends p ≡ Some e → new.ends p ≡ Some e
  pub new_ends : (p e : ℕ) → new.ends p ≡ Some e → (((nodes q).ends p ≡ Some e) × (new.got p ≡ (nodes q).got p))
      ⊎ ((p ≡ q → ⊥) × ((nodes p).left ≡ true) × (e ≡ (nodes p).got p) × (new.got p ≡ e))
  pub told : IsTold players new
  pub grown : IsGrown (nodes q) new

module _ (players : ℕ) (nodes : ℕ → Node) (older : List (ℕ → Node)) (q : ℕ) (new : Node) (l : q < players)
    (kept : IsKept players (nodes ∷ older)) (mild : IsMild players nodes q new) where
  no_fewer : (p : ℕ) → (nodes q).got p ≤ new.got p
  no_fewer p = grind arith

  later : IsLater players (put nodes q new ∷ nodes ∷ older) q (nodes q) new
  later = grind (arith, no_fewer, both_ways)

  full : (p e : ℕ) → new.ends p ≡ Some e → new.got p ≡ e
  full p e s = grind arith

  made : (p : ℕ) → new.got p ≤ (put nodes q new p).got p
  made p = grind (arith, put_at, put_off)

  source : (p e : ℕ) → new.ends p ≡ Some e → HasSource players (put nodes q new ∷ nodes ∷ older) q new p e
  source p e s = elim (mild.new_ends p e s) [
    | inl h ↦ elim (source_kept players (nodes ∷ older) (put nodes q new) (grows nodes q new no_fewer) kept
        (stays nodes q new mild.here) q (nodes q) p e ((kept.sound q (nodes q) (inl refl)).source p e h.0)) [
          | inl k ↦ inl k
          | inr d ↦ grind (arith, no_fewer)
        ]
    | inr h ↦ grind (arith, put_off)
  ]

  met_left : (z : ℕ) (v : Node) → z < players → (z ≡ q → ⊥) → Was (nodes ∷ older) z v → IsMet q z new v
  met_left z v m n w a b p e s = grind (arith, outside, made)

  met_right : (z : ℕ) (u : Node) → z < players → (z ≡ q → ⊥) → Was (nodes ∷ older) z u → IsMet z q u new
  met_right z u m n w a b p e s = elim (mild.got p) [
    | inl h ↦ grind (arith, outside)
    | inr h ↦ elim ((kept.sound z u w).source p e s) [
      | inl k ↦ grind (arith, both_ways)
      | inr d ↦ grind (arith, outside, both_ways)
    ]
  ]

  pub mild_good : IsGood players nodes older q new
  mild_good = grind (arith, later, sound_by, full, made, source, met_left, met_right)
