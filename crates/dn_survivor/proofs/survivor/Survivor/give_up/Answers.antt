use Rattle.std.proofs.Common.{◌≡◌, ◌∙◌, Option, None, ap, sym, subst, Bool}
use Rattle.dn_lockstep.specs.{Contents.contents, Settling.on_excuse, Steps.Steps}
use Rattle.dn_lockstep.proofs.After.{steps}
use Rattle.dn_survivor.specs.{declared.others.Others.Others, Calls.GivesUpUnless, Calls.given_up_as, Calls.refused_give_up, Calls.with_gone, Calls.decided_by, Surviving.surviving, declared.answers.GivenUp.GivenUp}
use Rattle.dn_survivor.proofs.Ends.{chain}
use Rattle.dn_survivor.proofs.survivor.Survivor.give_up.Goals as goal

pub returns-clause-gives : goal.returns-clause-gives
returns-clause-gives c =
    let player = c.args.player in
    let old = surviving c.args.self.now in
    let new = surviving c.decide.new.self in
    let none : refused_give_up old player ≡ None = sym c.refused_give_up.ensures ∙ c.in_default.is in
    let two = subst (λ (o : Others). Steps (contents c.excuse.new.self) new.lockstep
    (λ limits me m. decided_by limits me o m) (λ ends. c.decide.result ≡ ends)) c.give_up.ensures
    c.decide.ensures.step in
    let both = chain {A = Bool} (λ limits me m. on_excuse limits me m player)
    (λ limits me before. decided_by limits me (with_gone old.others player) before.0) c.excuse.ensures.step two in
    subst (λ (o : Option GivenUp). GivesUpUnless o player old new c.given_up_as.result) (sym none) (
      c.decide.ensures.others ∙ c.give_up.ensures,
      steps both.same (λ limits me m r.
          let step = both.step limits me m r in
          record { node = step.node; answer = c.given_up_as.ensures.is ∙ ap given_up_as step.answer }),
    )
