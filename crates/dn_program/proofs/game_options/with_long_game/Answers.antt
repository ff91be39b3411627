use Rattle.dn_program.proofs.More.{at_last, more}
use Rattle.dn_program.proofs.game_options.with_long_game.Goals as goal

pub returns : goal.returns
returns c =
    at_last _ _ _ _ _ (more _ _ _ _ _ c.in_ok-choice.ensures c.in_ok-limited.ensures) c.with_flags.ensures
