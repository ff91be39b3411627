use Rattle.std.proofs.Common.{ap, sym}
use Rattle.dn_lockstep.specs.Steps.{with_row}
use Rattle.dn_lockstep.proofs.{After.after, After.steps, Running.run_all}
use Rattle.dn_link.proofs.link.Link.run_into.Goals as goal

-- where nobody is given up, the marks of all are compared
pub returns-clause-step : goal.returns-clause-step
returns-clause-step c = λ whole. steps c.run_into.ensures.step.same (λ limits me m r.
    let ran = c.run_into.ensures.step.step limits me m r in
    after _ _ (ap (with_row limits m) (sym (run_all limits _ m _ (λ p l. whole p)))) ran.node ran.answer)
