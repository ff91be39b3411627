use Rattle.std.proofs.Common.{subst, sym, Option}
use Rattle.dn_session.specs.{Playing.PlaysOn, Playing.playing, declared.ending.Ending.Ending}
use Rattle.dn_session.proofs.part.Part.play_on.Goals as goal

pub returns-in-Some : goal.returns-in-Some
returns-in-Some c = subst (λ (ending : Option Ending). PlaysOn ending c.args.now (playing c.args.self.now) (playing c.end.new.self))
    (sym c.in-Some.is) c.end.ensures

pub returns-in-None : goal.returns-in-None
returns-in-None c = subst (λ (ending : Option Ending). PlaysOn ending c.args.now (playing c.args.self.now) (playing c.give_up_due.new.self))
    (sym c.in-None.is) c.give_up_due.ensures
