use Rattle.std.proofs.{Common.{◌≡◌, ◌∙◌, sym, subst, true}, lemmas.Bool.cond-true}
use Rattle.dn_lockstep.specs.{Contents.contents, Steps.IsAfter}
use Rattle.dn_lockstep.proofs.After.{steps}
use Rattle.dn_remain.specs.Vanished.Calls.{can_decide}
use Rattle.dn_survivor.specs.{OfOthers.nodes_of, OfOthers.own_of, Calls.decided_by, Calls.settled_below, declared.answers.Ends.Ends}
use Rattle.dn_machine.specs.Node as machine
use Rattle.dn_survivor.proofs.survivor.Survivor.decide.Goals as goal

pub returns-then-can_decide-clause-step : goal.returns-then-can_decide-clause-step
returns-then-can_decide-clause-step c = steps c.settle_all.ensures.step.same (λ limits me m r.
    let others = c.args.self.now.others in
    let test : can_decide limits.players me (own_of others (λ player. 0)) (nodes_of others) ≡ true =
    (λ i. can_decide (sym r.whose.players i) (sym r.whose.number i) (own_of others (λ player. 0)) (nodes_of others))
    ∙ ((λ i. can_decide (sym c.players.ensures i) (sym c.me.ensures i) (own_of others (λ player. 0)) (nodes_of others))
    ∙ (sym (c.can_decide-can_decide.ensures (λ player. 0)) ∙ c.if-can_decide.true)) in
    let is : decided_by limits me others m ≡ settled_below limits me others limits.players m =
    cond-true (can_decide limits.players me (own_of others (λ player. 0)) (nodes_of others)) _ _ test in
    subst (λ (x : machine.Node × Ends). IsAfter limits me (contents c.settle_all.new.self.lockstep) x
    (λ ends. c.settle_all.result ≡ ends)) (sym is) (c.settle_all.ensures.step.step limits me m r))
