use Rattle.dn_program.proofs.More.{at_last}
use Rattle.dn_program.proofs.game_options.with_diff.Goals as goal

pub returns : goal.returns
returns c =
    at_last _ _ _ _ _ c.in_ok-one.ensures c.with_word-2.ensures
