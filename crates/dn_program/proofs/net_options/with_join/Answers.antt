use Rattle.dn_program.proofs.More.{at_last, more}
use Rattle.dn_program.proofs.net_options.with_join.Goals as goal

pub returns : goal.returns
returns c =
    at_last _ _ _ _ _ (more _ _ _ _ _ (more _ _ _ _ _ (more _ _ _ _ _ c.in_ok-address.ensures c.in_ok-me.ensures) c.in_ok-players.ensures) c.in_ok-port.ensures) c.with_session.ensures
