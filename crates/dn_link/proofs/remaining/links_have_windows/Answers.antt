use Rattle.std.proofs.Common.{arith}
use Rattle.dn_link.proofs.remaining.links_have_windows.Goals as goal

pub returns : goal.returns
returns c = λ config ahead can. (c.windows_hold.ensures.window config ahead can, omega (arith, can.1))
