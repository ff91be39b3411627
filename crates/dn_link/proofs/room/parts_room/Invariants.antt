use Rattle.std.proofs.Common.{◌≡◌, ◌+◌, length}
use Rattle.dn_link.specs.Packing.{parts_room}
use Rattle.dn_link.proofs.room.parts_room.Given as goal

abbrev pub invariant-parts : goal.invariant-parts
invariant-parts l = l.size + parts_room l.rest ≡ 1 + parts_room l.fn.parts

abbrev pub decreases-parts : goal.decreases-parts
decreases-parts l = length l.rest
