use Rattle.dn_program.proofs.More.{at_last}
use Rattle.dn_program.proofs.game_options.with_reader.Goals as goal

pub returns : goal.returns
returns c =
    at_last _ _ _ _ _ c.in_ok-with_json.ensures c.with_files.ensures
