-- Labelled numbers, as the printed lines have them, here and in the crates above.
use Rattle.std.specs.Prelude.{ℕ, ℤ, ◌+◌, ◌/◌, ◌%◌, List, [], ◌∷◌, ◌++◌, map, Option, Some, None, codes}
use Rattle.std.specs.Fmt.{decimal, signed_decimal}
use Rattle.std.specs.Borrow.{Bor}

-- each label and, behind it, its number in decimal
abbrev pub labelled : List (List ℕ × ℤ) → List ℕ
labelled [] = []
labelled (f ∷ fs) = f.0 ++ (signed_decimal f.1 ++ labelled fs)

-- the fields, with the labels that they point to
abbrev pub fields_of : List (Bor (List ℕ) × ℤ) → List (List ℕ × ℤ)
fields_of fields = map (λ f. (f.0.now, f.1)) fields

-- a label and, behind it, a number of tenths as a decimal fraction
unfoldable pub with_tenth : List ℕ → ℕ → List ℕ
with_tenth label tenths = label ++ (decimal (tenths / 10) ++ (codes "." ++ decimal (tenths % 10)))

-- what is said of a player who is there, and nothing of another
abbrev pub if_there : {A : Type 0} → (ℕ → A → List ℕ) → ℕ → Option A → List ℕ
if_there text player None = []
if_there text player (Some peer) = text player peer

-- the same of each player, from this one on
abbrev pub of_each : {A : Type 0} → (ℕ → A → List ℕ) → ℕ → List (Option A) → List ℕ
of_each text player [] = []
of_each text player (peer ∷ peers) = if_there text player peer ++ of_each text (player + 1) peers
