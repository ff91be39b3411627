use Rattle.std.proofs.{Common.arith, lemmas.Int.{ints, to_z-of_z}}
use Rattle.dn_tic.specs.Pressed.{opposed}
use Rattle.dn_tic.proofs.Making.{IsKept, is_kept}
use Rattle.dn_tic.proofs.moves.strafed.Goals as goal

side_is : (c : goal.After-opposed) → IsKept c.is_down.result c.from.result c.opposed.result
side_is c = grind (arith, to_z-of_z, is_kept, ints)

pub overflow_mul-result : goal.overflow_mul-result
overflow_mul-result c = (side_is c).fits

pub returns : goal.returns
returns c = grind (arith, to_z-of_z, side_is)
