-- A name that is one's own, or else another's.
use Rattle.std.proofs.Common.{◌≡◌, Option, Some, None, refl}
use Rattle.std.specs.Option.{option_map, option_or}

pub map_or : {A B : Type 0} (f : A → B) (one other : Option A)
    → option_map f (option_or one other) ≡ option_or (option_map f one) (option_map f other)
map_or f None other = refl
map_or f (Some a) other = refl
