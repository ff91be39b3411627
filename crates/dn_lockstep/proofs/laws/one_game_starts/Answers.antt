use Rattle.dn_lockstep.proofs.OneGame.{starts}
use Rattle.dn_lockstep.proofs.laws.one_game_starts.Goals as goal

pub returns : goal.returns
returns c = starts
