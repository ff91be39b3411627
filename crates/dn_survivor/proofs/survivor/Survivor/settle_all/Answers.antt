use Rattle.std.proofs.Common.{◌≡◌, ◌∙◌, ℕ, sym, ap, subst, refl, arith}
use Rattle.dn_lockstep.specs.{Contents.{contents}, Steps.{IsAfter, Steps}}
use Rattle.dn_lockstep.proofs.After.{after, steps}
use Rattle.dn_survivor.specs.{declared.others.Others.Others, Calls.settled_below, Calls.settled_with, Surviving.Surviving, Surviving.has_given_up, declared.answers.Ends.Ends}
use Rattle.dn_survivor.proofs.Ends.{below_next, below_zero, chain}
use Rattle.dn_machine.specs.Node as machine
use Rattle.dn_survivor.proofs.survivor.Survivor.settle_all.Goals as goal

pub loop-player-init : goal.loop-player-init
loop-player-init c = record {
  step = steps refl (λ limits me m r. after m Ends.Taken (below_zero limits me _ m) r refl);
  others = refl;
  decides = λ e. cc;
  quiet = λ none. refl;
}

pub settle_next-ends-requires : goal.settle_next-ends-requires
settle_next-ends-requires c = grind arith

pub loop-player-preserved : goal.loop-player-preserved
loop-player-preserved c = record {
  step =
      let others = c.args.self.now.others in
      let player = c.loop-player.player in
      let two = subst (λ (o : Others). Steps (contents c.loop-player.self.lockstep) (contents c.settle_next-ends.new.self.lockstep)
      (λ limits me m. settled_with limits me o player (m, c.loop-player.ends)) (λ ends. c.settle_next-ends.result ≡ ends))
      c.loop-player.invariant.others c.settle_next-ends.ensures.step in
      let both = chain (λ limits me m. settled_below limits me others player m)
      (λ limits me before. settled_with limits me others player before) c.loop-player.invariant.step two in
      steps both.same (λ limits me m r. subst (λ (x : machine.Node × Ends). IsAfter limits me
      (contents c.settle_next-ends.new.self.lockstep) x (λ ends. c.settle_next-ends.result ≡ ends))
      (sym (below_next limits me others m player)) (both.step limits me m r));
  others = c.settle_next-ends.ensures.others ∙ c.loop-player.invariant.others;
  decides = c.settle_next-ends.ensures.decides c.loop-player.invariant.decides;
  quiet = λ none.
      let same = c.loop-player.invariant.quiet none in
      c.settle_next-ends.ensures.quiet
      (ap (λ (s : Surviving). has_given_up s c.loop-player.player) same ∙ none c.loop-player.player) ∙ same;
}

pub returns-clause-step : goal.returns-clause-step
returns-clause-step c = steps c.loop-player.invariant.step.same (λ limits me m r.
    let done : c.loop-player.player ≡ limits.players =
    omega (arith, c.players-player-end.ensures, c.loop-player-test.false, r.whose.players) in
    subst (λ (k : ℕ). IsAfter limits me (contents c.loop-player.self.lockstep)
    (settled_below limits me c.args.self.now.others k m) (λ ends. c.loop-player.ends ≡ ends)) done
    (c.loop-player.invariant.step.step limits me m r))
