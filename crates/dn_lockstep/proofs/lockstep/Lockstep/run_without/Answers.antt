use Rattle.std.proofs.{Common.{◌∙◌, ap, refl, sym, rules, w16}, lemmas.Int.to_z-of_z}
use Rattle.dn_lockstep.specs.Steps.{with_row}
use Rattle.dn_lockstep.proofs.{After.{after, steps}, Running.{run_not, run_waits, run_off, run_on}}
use Rattle.dn_lockstep.proofs.Seats.{finds_awaited, finds_off, off_present, mark_is, should_is, fits}
use Rattle.dn_lockstep.proofs.lockstep.Lockstep.run_without.Goals as goal

pub returns-in_default-clause-step : goal.returns-in_default-clause-step
returns-in_default-clause-step c = steps refl (λ limits me m r.
    after _ _ (ap (with_row limits m) (run_not _ _ m _ (λ e. c.in_default.not-Playing (r.stands.phase ∙ e)))) r (refl, refl))

pub returns-in-Some-clause-step : goal.returns-in-Some-clause-step
returns-in-Some-clause-step c = steps refl (λ limits me m r.
    after _ _ (ap (with_row limits m) (run_waits _ _ m _ _ (sym r.stands.phase ∙ c.in-Playing.is)
    (finds_awaited r _ c.in-Some.ensures))) r (refl, refl))

pub returns-in-Some-first_off-clause-step : goal.returns-in-Some-first_off-clause-step
returns-in-Some-first_off-clause-step c = steps c.finish.ensures.same (λ limits me m r.
    let n = c.args.self.now in
    let p = c.in-Some-first_off.player in
    let inside = c.in-Some-first_off.ensures.below in
    let found = finds_off r (fits n) _ _ c.in-Some-first_off.ensures.lowest in
    let present = off_present r (fits n) _ p found in
    let was = to_z-of_z w16 c.mark_of-was.result (search rules) ∙ c.mark_of-was.ensures
    ∙ mark_is r (fits n) p inside in
    let should = to_z-of_z w16 c.get-should.result (search rules) ∙ c.get-should.ensures
    ∙ should_is r (fits n) p inside present in
    after _ _ (ap (with_row limits m) (run_off _ _ m _ p _ _ (sym r.stands.phase ∙ c.in-Playing.is)
    (finds_awaited r _ c.in_default-awaited.ensures) found was should))
    (c.finish.ensures.step limits me m r).node (refl, refl))

pub returns-clause-step : goal.returns-clause-step
returns-clause-step c = steps c.run_row.ensures.step.same (λ limits me m r.
    let n = c.args.self.now in
    let on = run_on limits _ m _ (sym r.stands.phase ∙ c.in-Playing.is)
    (finds_awaited r _ c.in_default-awaited.ensures)
    (finds_off r (fits n) _ _ c.in_default-first_off.ensures.lowest) in
    let ran = c.run_row.ensures.step.step limits me m r in
    after _ _ (ap (with_row limits m) on) ran.node ran.answer)
