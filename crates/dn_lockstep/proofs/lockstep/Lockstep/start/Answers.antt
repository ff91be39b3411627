use Rattle.std.proofs.Common.{arith}
use Rattle.dn_demo.proofs.RecordedAnew.{length-none}
use Rattle.dn_lockstep.specs.Contents.{contents}
use Rattle.dn_lockstep.proofs.{After.becomes, Changing.shows_start}
use Rattle.dn_lockstep.proofs.lockstep.Lockstep.start.Goals as goal

pub invariant_of-self-clause-size : goal.invariant_of-self-clause-size
invariant_of-self-clause-size c plays = grind (arith, length-none)

pub returns : goal.returns
returns c =
    becomes (grind (arith, c.head.ensures.written)) (λ limits me m r.
    shows_start limits me (contents c.args.self.now) m c.args.settings c.head.new.self r
    (c.args.self.now.unrun (c.args.self.now.waits c.requires)) (grind arith) (grind arith))
