use Rattle.std.proofs.Common.{ap, ◌∙◌}
use Rattle.std.specs.Prelude.{is_some}
use Rattle.dn_link.specs.Linked.{end_known}
use Rattle.dn_lockstep.specs.Contents.{Contents}
use Rattle.dn_host.proofs.others.has_ended.Goals as goal

pub returns : goal.returns
returns c =
    c.is_some.ensures ∙ ap is_some (c.end.ensures.value
    ∙ ap (λ (n : Contents). end_known n c.args.player) c.lockstep.ensures)
