-- What holds at each place of a function after one of its values is another, and the largest of some numbers.
use Rattle.std.proofs.{Common.{◌≡◌, ℕ, ◌<◌, ◌≤◌, refl, ◌∙◌, arith, inl, inr, suc, zero}, lemmas.Bool.cases_lt}
use Rattle.std.proofs.Math.Nat.{le-max_left, le-max_right, max-eq_left, max-eq_right}
use Rattle.dn_machine.specs.Node.{put}
use Rattle.dn_machine.proofs.Put.{put_at, put_off, same_functions}
use Rattle.dn_remain.specs.Vanished.Node.{highest}

-- what holds of the new value in its place, and of each other in its own, holds in every place
pub at_put : {A : Type 0} (P : ℕ → A → Type 0) (f : ℕ → A) (i : ℕ) (new : A) → P i new
    → ((j : ℕ) → (j ≡ i → ⊥) → P j (f j)) → (j : ℕ) → P j (put f i new j)
at_put P f i new here rest j = grind (arith, put_at, put_off)

-- the same of two functions
pub at_both : {A B : Type 0} (P : ℕ → A → B → Type 0) (f : ℕ → A) (g : ℕ → B) (i : ℕ) (a : A) (b : B) → P i a b
    → ((j : ℕ) → (j ≡ i → ⊥) → P j (f j) (g j)) → (j : ℕ) → P j (put f i a j) (put g i b j)
at_both P f g i a b here rest = grind (arith, at_put, put_at, put_off)

pub own_put : {A : Type 0} (f : ℕ → A) (q : ℕ) → put f q (f q) ≡ f
own_put f q = same_functions (at_put (λ j x. x ≡ f j) f q (f q) refl (λ j n. refl))

pub twice_put : {A : Type 0} (f : ℕ → A) (q : ℕ) (a b : A) → put (put f q a) q b ≡ put f q b
twice_put f q a b = grind (arith, same_functions, at_put, put_at, put_off)

pub highest_bounds : (n : ℕ) (f : ℕ → ℕ) (r : ℕ) → r < n → f r ≤ highest n f
unfolding highest
highest_bounds zero f r h = absurd (omega arith)
highest_bounds (suc n) f r h = elim (cases_lt r n) [
  | inl l ↦
      let k : f r ≤ highest n f = highest_bounds n f r l in
      omega (arith, le-max_left (highest n f) (f n))
  | inr l ↦ grind (arith, le-max_right)
]

pub highest_reached : (n : ℕ) (f : ℕ → ℕ) → 0 < n → (r : ℕ) × (r < n) × (highest n f ≡ f r)
unfolding highest
highest_reached zero f h = absurd (omega arith)
highest_reached (suc zero) f h = (0, omega arith, omega arith)
highest_reached (suc (suc n)) f h = elim (cases_lt (highest (suc n) f) (f (suc n))) [
  | inl l ↦ (suc n, omega arith, max-eq_right (omega arith))
  | inr l ↦ let k = highest_reached (suc n) f (omega arith) in (k.0, omega (arith, k.1), max-eq_left l ∙ k.2)
]
