use Rattle.std.proofs.Common.{◌≡◌, ◌∙◌, sym, ap, refl}
use Rattle.dn_lockstep.proofs.After.{after, steps}
use Rattle.dn_survivor.specs.Calls.{ends_with, settled_by, settled_with}
use Rattle.dn_survivor.proofs.survivor.Survivor.settle_next.Goals as goal

pub returns-then-not-has_given_up-clause-step : goal.returns-then-not-has_given_up-clause-step
returns-then-not-has_given_up-clause-step c = steps refl (λ limits me m r.
    let stays = sym c.has_given_up.ensures ∙ c.if-not-has_given_up.true in
    let is : settled_with limits me c.args.self.now.others c.args.player (m, c.args.ends) ≡ (m, c.args.ends) =
    rw stays refl in
    after m c.args.ends is r refl)

pub returns-clause-step : goal.returns-clause-step
returns-clause-step c = steps c.settle-settled.ensures.step.same (λ limits me m r.
    let gone = sym c.has_given_up.ensures ∙ c.if-not-has_given_up.false in
    let step = c.settle-settled.ensures.step.step limits me m r in
    let others = c.args.self.now.others in
    let is : settled_with limits me others c.args.player (m, c.args.ends) ≡ (
      (settled_by limits me others c.args.player m).0,
      ends_with c.args.ends c.args.player (settled_by limits me others c.args.player m).1,
    ) = rw gone refl in
    after (settled_by limits me others c.args.player m).0
    (ends_with c.args.ends c.args.player (settled_by limits me others c.args.player m).1) is step.node
    (c.with.ensures.next ∙ ap (ends_with c.args.ends c.args.player) step.answer))
