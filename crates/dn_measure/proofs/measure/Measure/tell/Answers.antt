use Rattle.std.proofs.Common.{[], ◌∷◌, ◌++◌, sym, subst}
use Rattle.dn_measure.specs.{declared.measure.Told.Told, Measure.IsMeasureOf}
use Rattle.dn_measure.proofs.measure.Measure.tell.Goals as goal

pub returns-in-Built : goal.returns-in-Built
returns-in-Built c = λ start before h.
    subst (λ (t : Told). IsMeasureOf c.build.new.self start (before ++ t ∷ [])) (sym c.in-Built.is)
    (c.build.ensures start before h)

pub returns-in-Ran : goal.returns-in-Ran
returns-in-Ran c = λ start before h.
    subst (λ (t : Told). IsMeasureOf c.run.new.self start (before ++ t ∷ [])) (sym c.in-Ran.is)
    (c.run.ensures start before h)
