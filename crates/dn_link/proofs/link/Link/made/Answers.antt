use Rattle.std.proofs.Common.{ap, ◌∙◌}
use Rattle.dn_lockstep.specs.Told.{made}
use Rattle.dn_link.proofs.link.Link.made.Goals as goal

pub returns : goal.returns
returns c = c.made.ensures ∙ ap made c.lockstep.ensures
