use Rattle.std.proofs.Common.{◌∙◌}
use Rattle.dn_lockstep.proofs.After.{steps}
use Rattle.dn_link.proofs.link.Link.run.Goals as goal

pub returns-clause-step : goal.returns-clause-step
returns-clause-step c = λ whole. steps (c.run_into-ran.ensures.step whole).same (λ limits me m r.
    let ran = (c.run_into-ran.ensures.step whole).step limits me m r in
    record { node = ran.node; answer = (ran.answer.0, c.told_by.ensures.row ∙ ran.answer.1) })
