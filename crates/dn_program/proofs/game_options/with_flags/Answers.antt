use Rattle.dn_program.proofs.More.{at_last, more}
use Rattle.dn_program.proofs.game_options.with_flags.Goals as goal

pub returns : goal.returns
returns c =
    at_last _ _ _ _ _ (more _ _ _ _ _ c.in_ok-respawn.ensures c.in_ok-no_monsters.ensures) c.with_flag-3.ensures
