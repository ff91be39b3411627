use Rattle.dn_lockstep.proofs.OneGame.{numbered_near, asks_close}
use Rattle.dn_lockstep.proofs.laws.numbered_packets_are_near.Goals as goal

pub returns-clause-near : goal.returns-clause-near
returns-clause-near c marking limits settings session which flight game at =
    numbered_near marking limits settings game which flight at

pub returns-clause-asks : goal.returns-clause-asks
returns-clause-asks c marking limits settings session which flight tic game at =
    asks_close marking limits settings game which flight at tic
