use Rattle.std.proofs.Common.{arith}
use Rattle.dn_lockstep.specs.{Contents.contents}
use Rattle.dn_lockstep.proofs.{Gathering.{last_noted, other_starts}}
use Rattle.dn_lockstep.proofs.lockstep.Lockstep.begin.Goals as goal

pub returns-then-self-gt0-clause-begun : goal.returns-then-self-gt0-clause-begun
returns-then-self-gt0-clause-begun c limits me few r =
    other_starts limits c.args.settings me (contents c.args.self.now) (contents c.start.new.self) (grind arith) r
    c.start.ensures

pub returns-clause-begun : goal.returns-clause-begun
returns-clause-begun c limits me few r =
    last_noted limits c.args.settings me few (contents c.args.self.now) (contents c.note-3.new.self) (grind arith) r
    (λ first. c.note-3.ensures.noted limits c.args.settings (c.note-2.ensures.noted limits c.args.settings
    (c.note.ensures.noted limits c.args.settings first)))
