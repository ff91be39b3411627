use Rattle.dn_lockstep.proofs.OneGame.{steady, not_playing}
use Rattle.dn_lockstep.proofs.laws.given_packets_are_heard.Goals as goal

pub returns-clause-not_playing : goal.returns-clause-not_playing
returns-clause-not_playing c marking limits settings session which flight new heard game at near by =
    not_playing marking limits settings game which flight new heard at near by

pub returns-clause-dropped : goal.returns-clause-dropped
returns-clause-dropped c marking limits settings session which flight new heard number game at near by =
    steady marking limits settings game which flight new heard at near by number
