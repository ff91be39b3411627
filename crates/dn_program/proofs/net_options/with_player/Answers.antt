use Rattle.dn_program.proofs.More.{at_last, more}
use Rattle.dn_program.proofs.net_options.with_player.Goals as goal

pub returns : goal.returns
returns c =
    at_last _ _ _ _ _ (more _ _ _ _ _ c.in_ok-rounds.ensures c.in_ok-me.ensures) c.with_raw.ensures
