use Rattle.dn_program.proofs.More.{at_last, more}
use Rattle.dn_program.proofs.game_options.with_sim.Goals as goal

pub returns : goal.returns
returns c =
    at_last _ _ _ _ _ (more _ _ _ _ _ c.in_ok-game.ensures c.in_ok-trace.ensures) c.with_files.ensures
