-- Where two demos first differ. Their versions, their views and what follows their tics do not count.
use Rattle.std.specs.Prelude.{◌≡◌, ◌≢◌, ◌<◌, ℕ, slice_get, Option, Some, None}
use Rattle.dn_demo.specs.Reading.{Recording}
use Rattle.dn_inspect.specs.declared.difference.Difference.{Difference}
use Rattle.dn_inspect.specs.declared.difference.Difference.TheVariants.{Start, Players, Tic}

-- they begin alike
abbrev pub BeginAlike : (one other : Recording) → Type 0
BeginAlike one other = (one.start ≡ other.start) × (one.present ≡ other.present)

-- they have the same row in a tic, or neither has one
abbrev pub IsSameTic : (one other : Recording) → ℕ → Type 0
IsSameTic one other tic = slice_get one.rows tic ≡ slice_get other.rows tic

-- the first of these that is so: the games start from something else; they have other players; or a tic differs,
-- as it does where one demo has ended
abbrev pub IsFirstDifference : (one other : Recording) → Option Difference → Type 0
IsFirstDifference one other (Some Start) = one.start ≢ other.start
IsFirstDifference one other (Some Players) =
    (one.start ≡ other.start) × (one.present ≢ other.present)
IsFirstDifference one other (Some (Tic tic)) =
    BeginAlike one other × ((t : ℕ) → t < tic → IsSameTic one other t) × ¬ IsSameTic one other tic
IsFirstDifference one other None = BeginAlike one other × (one.rows ≡ other.rows)
