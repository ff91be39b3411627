use Rattle.std.proofs.Common.{subst, Bool}
use Rattle.dn_session.specs.{Playing.GivesWhen, Playing.playing}
use Rattle.dn_session.proofs.part.Part.give.Goals as goal

pub returns-clause-gives : goal.returns-clause-gives
returns-clause-gives c = subst (λ (wanted : Bool). GivesWhen wanted c.args.now c.args.input (playing c.args.self.now)
    (playing c.give_when.new.self)) c.wants_input-wanted.ensures c.give_when.ensures

pub returns-clause-is : goal.returns-clause-is
returns-clause-is c = c.wants_input-wanted.ensures
