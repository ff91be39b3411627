-- Where nothing is found.
use native.Mathlib.Omega.{arith}
use Rattle.std.specs.Prelude.{◌≡◌, Option, Some, None}
use Rattle.dn_program.specs.OptionValues.{Finds}

-- nothing is right where something is not found that all that is right has
pub finds_none : {A B : Type 0} {P : A → Type 0} {Q : B → Type 0} (o : Option A) (r : Option B)
    → Finds P o → o ≡ None → r ≡ None → ((b : B) → Q b → (a : A) × P a) → Finds Q r
finds_none None None found gone none has = λ b right. found (has b right).0 (has b right).1
finds_none (Some a) r found gone none has = grind arith
finds_none None (Some b) found gone none has = grind arith
