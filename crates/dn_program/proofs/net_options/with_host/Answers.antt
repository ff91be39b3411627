use Rattle.dn_program.proofs.More.{at_last, more}
use Rattle.dn_program.proofs.net_options.with_host.Goals as goal

pub returns : goal.returns
returns c =
    at_last _ _ _ _ _ (more _ _ _ _ _ (more _ _ _ _ _ c.in_ok-game.ensures c.in_ok-port.ensures) c.in_ok-rate.ensures) c.with_session.ensures
