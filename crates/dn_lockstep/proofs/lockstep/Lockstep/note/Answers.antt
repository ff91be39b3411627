use Rattle.std.proofs.Common.{arith}
use Rattle.dn_lockstep.specs.Contents.{contents}
use Rattle.dn_lockstep.proofs.Gathering.{noted_next, plays_on}
use Rattle.dn_lockstep.proofs.lockstep.Lockstep.note.Goals as goal

pub returns-then-player-self-clause-noted : goal.returns-then-player-self-clause-noted
returns-then-player-self-clause-noted c limits choice r =
    plays_on limits choice c.args.player (contents c.args.self.now) c.requires.0 (λ gathers. grind arith) r

pub returns-in-Gathering-clause-noted : goal.returns-in-Gathering-clause-noted
returns-in-Gathering-clause-noted c limits choice r =
    noted_next limits choice c.args.player (contents c.args.self.now) c.requires.0 (omega arith) r
    (contents c.hear_gathering.new.self) _ c.hear_gathering.ensures.step
