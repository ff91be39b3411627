use Rattle.dn_survivor.proofs.OneGame.{starts}
use Rattle.dn_survivor.proofs.game.remaining_game_starts.Goals as goal

pub returns : goal.returns
returns c = starts
