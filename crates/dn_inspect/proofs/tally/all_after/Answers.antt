use native.Mathlib.Omega.{arith}
use Rattle.dn_inspect.proofs.Cells.{seats_after}
use Rattle.dn_inspect.proofs.tally.all_after.Goals as goal

pub returns : goal.returns
returns c = grind (arith, seats_after)
