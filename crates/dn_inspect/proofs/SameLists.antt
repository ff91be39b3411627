-- Lists with the same element at each place.
use native.Mathlib.Omega.{arith}
use Rattle.std.proofs.Common.{◌≡◌, ◌<◌, refl, ℕ, suc, List, [], ◌∷◌, length, max, Some, None}
use Rattle.std.specs.Prelude.{slice_get}

pub same_lists : {X : Type 0} (xs ys : List X)
    → ((t : ℕ) → t < max (length xs) (length ys) → slice_get xs t ≡ slice_get ys t) → xs ≡ ys
same_lists [] [] same = refl
same_lists [] (y ∷ ys) same = let e : None ≡ Some y = same 0 (omega arith) in grind arith
same_lists (x ∷ xs) [] same = let e : Some x ≡ None = same 0 (omega arith) in grind arith
same_lists (x ∷ xs) (y ∷ ys) same =
    let first : Some x ≡ Some y = same 0 (omega arith) in
    let rest : xs ≡ ys = same_lists xs ys (λ t h. same (suc t) (omega (arith, h))) in
    grind arith
