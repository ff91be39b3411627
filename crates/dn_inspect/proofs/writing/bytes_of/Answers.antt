use Rattle.std.proofs.Common.{rules, append_assoc}
use Rattle.dn_demo.specs.Text.{demo_text}
use Rattle.dn_inspect.proofs.writing.bytes_of.Goals as goal

pub returns : goal.returns
unfolding demo_text
returns c = search (rules, append_assoc)
