use Rattle.dn_open.proofs.Keeping.{letters_keep}
use Rattle.dn_open.proofs.laws.letters_keep_one_game.Goals as goal

pub returns : goal.returns
returns c = letters_keep
