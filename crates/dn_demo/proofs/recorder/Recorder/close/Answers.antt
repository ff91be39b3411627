use Rattle.std.proofs.Common.{rules}
use Rattle.dn_demo.proofs.Text.{text-closed}
use Rattle.dn_demo.proofs.recorder.Recorder.close.Goals as goal

pub returns-clause-text : goal.returns-clause-text
returns-clause-text c = text-closed _ _ (search rules)
