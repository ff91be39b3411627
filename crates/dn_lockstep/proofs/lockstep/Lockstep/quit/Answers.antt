use Rattle.std.proofs.Common.{refl, sym, ◌∙◌, arith}
use Rattle.dn_lockstep.proofs.{After.{after, steps}, Changing.{quit_ended, quit_playing, quit_waiting}}
use Rattle.dn_lockstep.proofs.lockstep.Lockstep.quit.Goals as goal

pub returns-in-Ended-clause-step : goal.returns-in-Ended-clause-step
returns-in-Ended-clause-step c = steps refl (λ limits me m r.
    after _ _ (quit_ended m _ (sym r.stands.phase ∙ c.in-Ended.is)) r refl)

pub returns-in-Playing-clause-step : goal.returns-in-Playing-clause-step
returns-in-Playing-clause-step c = steps c.finish.ensures.same (λ limits me m r.
    after _ _ (quit_playing m (sym r.stands.phase ∙ c.in-Playing.is))
    (c.finish.ensures.step limits me m r).node refl)

pub returns-in-Listening-clause-step : goal.returns-in-Listening-clause-step
returns-in-Listening-clause-step c = grind (arith, steps, after, quit_waiting)
