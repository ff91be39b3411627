use Rattle.std.proofs.Common.{subst, sym, refl}
use Rattle.dn_session.specs.{Playing.PassesTime, Playing.playing, declared.ending.Progress.Progress}
use Rattle.dn_session.proofs.part.Part.pass.Goals as goal

pub returns-in-Playing : goal.returns-in-Playing
returns-in-Playing c = subst (λ (p : Progress). PassesTime p c.args.now (playing c.args.self.now) (playing c.play.new.self))
    (sym c.in-Playing.is) c.play.ensures

pub returns-in-Leaving : goal.returns-in-Leaving
returns-in-Leaving c = subst (λ (p : Progress). PassesTime p c.args.now (playing c.args.self.now) (playing c.wait.new.self))
    (sym c.in-Leaving.is) c.wait.ensures

pub returns-in-Over : goal.returns-in-Over
returns-in-Over c = subst (λ (p : Progress). PassesTime p c.args.now (playing c.args.self.now) (playing c.args.self.now))
    (sym c.in-Over.is) refl
