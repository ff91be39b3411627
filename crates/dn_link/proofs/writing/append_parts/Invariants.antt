use Rattle.std.proofs.Common.{◌≡◌, ◌++◌, ◌∷◌, length}
use Rattle.std.specs.List.{flat_map}
use Rattle.dn_link.specs.Text.{part_bytes}
use Rattle.dn_link.proofs.writing.append_parts.Given as goal

abbrev pub invariant-parts : goal.invariant-parts
invariant-parts l = l.bytes.items ++ flat_map part_bytes l.rest ≡ l.fn.bytes.items ++ length l.fn.parts ∷ flat_map part_bytes l.fn.parts

abbrev pub decreases-parts : goal.decreases-parts
decreases-parts l = length l.rest
