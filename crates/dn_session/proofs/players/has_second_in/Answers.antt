use Rattle.std.proofs.Common.{◌∙◌, ap}
use Rattle.dn_lockstep.specs.Contents.{Contents}
use Rattle.dn_session.specs.Players.{has_second}
use Rattle.dn_session.proofs.players.has_second_in.Goals as goal

pub returns : goal.returns
returns c = c.has_second.ensures ∙ ap (λ (n : Contents). has_second n c.args.player) c.lockstep.ensures
