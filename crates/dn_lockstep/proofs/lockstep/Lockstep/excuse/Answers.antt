use Rattle.std.proofs.Common.{refl, sym, ◌∙◌}
use Rattle.dn_lockstep.specs.Contents.{contents}
use Rattle.dn_lockstep.proofs.{After.steps, Gathering.{stranger_excused, other_excused, gathering_excused}}
use Rattle.dn_lockstep.proofs.lockstep.Lockstep.excuse.Goals as goal

pub returns-then-is_no_peer-clause-step : goal.returns-then-is_no_peer-clause-step
returns-then-is_no_peer-clause-step c = steps refl (λ limits me m r.
    stranger_excused r _ (sym c.is_no_peer.ensures ∙ c.if-is_no_peer.true))

pub returns-in_default-clause-step : goal.returns-in_default-clause-step
returns-in_default-clause-step c = steps refl (λ limits me m r.
    other_excused r _ (sym c.is_no_peer.ensures ∙ c.if-is_no_peer.false) c.in_default.not-Gathering)

pub returns-clause-step : goal.returns-clause-step
returns-clause-step c = steps c.hear_gathering.ensures.step.same (λ limits me m r.
    let shown = gathering_excused r _ (sym c.is_no_peer.ensures ∙ c.if-is_no_peer.false) c.in-Gathering.is
    c.hear_gathering.result (contents c.hear_gathering.new.self)
    (c.hear_gathering.ensures.step.step limits me m r) in
    record { node = shown.node; answer = c.is_start.ensures ∙ shown.answer })
