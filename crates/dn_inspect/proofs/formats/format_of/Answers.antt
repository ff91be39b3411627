use native.Mathlib.Omega.{arith}
use Rattle.dn_inspect.specs.Formats.{format_of}
use Rattle.dn_inspect.proofs.Named.{map_or}
use Rattle.dn_inspect.proofs.formats.format_of.Goals as goal

pub returns : goal.returns
unfolding format_of
returns c = grind (arith, map_or)
