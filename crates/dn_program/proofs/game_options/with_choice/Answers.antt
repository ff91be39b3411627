use Rattle.dn_program.proofs.More.{at_last, more}
use Rattle.dn_program.proofs.game_options.with_choice.Goals as goal

pub returns : goal.returns
returns c =
    at_last _ _ _ _ _ (more _ _ _ _ _ (more _ _ _ _ _ (more _ _ _ _ _ c.in_ok-players.ensures c.in_ok-skill.ensures) c.in_ok-episode.ensures) c.in_ok-map.ensures) c.with_number-5.ensures
