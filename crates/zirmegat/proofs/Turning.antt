-- For how many commands a turn key was down.
use Rattle.std.proofs.Common.{◌≡◌, ◌+◌, ◌≤◌, ℕ, suc, zero, List, [], ◌∷◌, ◌++◌, refl, ap, arith}
use Rattle.dn_tic.specs.{declared.input.Input.Input, declared.input.Input.TheVariants.Pressed, Inputs.hold_of}

-- the key for the left was down so often
abbrev pub turns : ℕ → List Input
turns zero = []
turns (suc n) = turns n ++ Pressed 4 ∷ []

pub one_more : (n : ℕ) → turns (n + 1) ≡ turns n ++ Pressed 4 ∷ []
one_more n = let e : n + 1 ≡ suc n = omega arith in ap turns e

pub held_after : (n : ℕ) → n ≤ 6 → hold_of (turns n) ≡ n
held_after zero few = refl
held_after (suc zero) few = refl
held_after (suc (suc zero)) few = refl
held_after (suc (suc (suc zero))) few = refl
held_after (suc (suc (suc (suc zero)))) few = refl
held_after (suc (suc (suc (suc (suc zero))))) few = refl
held_after (suc (suc (suc (suc (suc (suc zero)))))) few = refl
held_after (suc (suc (suc (suc (suc (suc (suc n))))))) few = absurd (omega arith)
