use Rattle.std.proofs.Common.{[], arith}
use Rattle.dn_demo.proofs.reading.row.Goals as goal

pub returns : goal.returns
returns c = c.row_at.ensures [] c.args.command (omega (arith, c.place.ensures))
