use Rattle.dn_program.proofs.More.{at_last}
use Rattle.dn_program.proofs.game_options.with_upgrade.Goals as goal

pub returns : goal.returns
returns c =
    at_last _ _ _ _ _ c.in_ok-limit.ensures c.with_paths.ensures
