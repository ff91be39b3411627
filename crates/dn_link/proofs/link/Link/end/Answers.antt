use Rattle.std.proofs.Common.{ap, ◌∙◌}
use Rattle.dn_lockstep.specs.Contents.{Contents}
use Rattle.dn_link.specs.Linked.{end_known}
use Rattle.dn_link.proofs.link.Link.end.Goals as goal

pub returns : goal.returns
returns c = c.end.ensures.value ∙ ap (λ (n : Contents). end_known n c.args.player) c.lockstep.ensures
