use Rattle.std.proofs.Common.{refl, sym, ◌∙◌}
use Rattle.dn_lockstep.specs.Contents.{contents}
use Rattle.dn_lockstep.proofs.{After.steps, Gathering.{shows_noted, noted_shows, started_shows}}
use Rattle.dn_lockstep.proofs.lockstep.Lockstep.hear_gathering.Goals as goal

pub returns-then-not-hear-clause-step : goal.returns-then-not-hear-clause-step
returns-then-not-hear-clause-step c = steps refl (λ limits me m r.
    noted_shows limits me (contents c.args.self.now) m r c.args.from
    c.hear.new.self c.hear.ensures.players c.hear.ensures.noted (sym c.if-not-hear.true ∙ c.hear.ensures.complete))

pub returns-in-Some-clause-step : goal.returns-in-Some-clause-step
returns-in-Some-clause-step c = steps c.start.ensures.same (λ limits me m r.
    started_shows limits me (contents c.args.self.now) m r c.args.from
    c.hear.new.self c.hear.ensures.players c.hear.ensures.noted c.in-Some.settings (contents c.start.new.self)
    (sym c.if-not-hear.false ∙ c.hear.ensures.complete) c.in-Some.is (c.start.ensures.step limits me _
    (shows_noted limits me (contents c.args.self.now) m r c.args.from
    c.hear.new.self c.hear.ensures.players c.hear.ensures.noted)).node)
