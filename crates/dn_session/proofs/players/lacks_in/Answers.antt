use Rattle.std.proofs.Common.{ap, ◌∙◌}
use Rattle.dn_lockstep.specs.Contents.{Contents}
use Rattle.dn_session.specs.Players.{lacks}
use Rattle.dn_session.proofs.players.lacks_in.Goals as goal

pub returns : goal.returns
returns c = c.lacks.ensures ∙ ap (λ (n : Contents). lacks n c.args.player) c.lockstep.ensures
