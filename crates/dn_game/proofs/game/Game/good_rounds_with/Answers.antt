use Rattle.std.proofs.Common.{refl, rules, ◌≡◌, ◌<◌, Err, arith}
use Rattle.dn_machine.specs.{Progress.{in_order, good_round, good_rounds}, Worlds.rules_of}
use Rattle.dn_game.specs.{Contents.contents, Rounds.round_events}
use Rattle.dn_tic.specs.Inputs.{input_of}
use Rattle.dn_game.proofs.{Rounding.{after_round, continues_on, continues_same}, Arriving.{goes_on, ends, ended}}
use Rattle.dn_game.proofs.game.Game.good_rounds_with.Goals as goal

pub loop-init : goal.loop-init
unfolding in_order
loop-init g c = (
  λ players extra capacity m r. (r, λ i never. refl),
  continues_same _,
  λ none. refl,
)

pub loop-preserved : goal.loop-preserved
loop-preserved g c = (
  λ players extra capacity m r.
      let rules = rules_of g.W.World.physics players extra capacity in
      let inputs = input_of c.args.inputs.now in
      let taken = c.loop.invariant.0 players extra capacity m r in
      goes_on _ rules (λ before round. good_round rules inputs before)
      (λ before round. round_events rules inputs before) (λ before round. after_round rules inputs before) m
      (contents c.args.self.now) (contents c.loop.self) (contents c.good_round_with.new.self) c.loop.counter
      c.good_round_with.result taken c.good_round_with.ensures.continues.more
      (c.good_round_with.ensures.good players extra capacity _ taken.0) _ c.in_ok-good_round_with.was,
  continues_on _ _ _ c.loop.invariant.1 c.good_round_with.ensures.continues,
  λ none. absurd (omega (arith, none)),
)

pub returns-in_err-good_round_with-clause-good : goal.returns-in_err-good_round_with-clause-good
returns-in_err-good_round_with-clause-good g c players extra capacity m r =
    let same : c.from_residual.result ≡ Err c.in_err-good_round_with.field-0.0 = search rules in
    let rules = rules_of g.W.World.physics players extra capacity in
    let inputs = input_of c.args.inputs.now in
    let taken = c.loop.invariant.0 players extra capacity m r in
    let below : c.loop.counter < c.args.count = omega (arith, c.loop-test.true, c.loop.auto.counter-end) in
    ended _ rules _ m _ (contents c.args.self.now) (contents c.good_round_with.new.self) _ _ same
    (ends _ rules (λ before round. good_round rules inputs before)
    (λ before round. round_events rules inputs before) (λ before round. after_round rules inputs before) m
    (contents c.args.self.now) (contents c.loop.self) (contents c.good_round_with.new.self) c.loop.counter
    c.good_round_with.result taken c.good_round_with.ensures.continues.more
    (c.good_round_with.ensures.good players extra capacity _ taken.0) c.args.count below _ c.in_err-good_round_with.was)

pub returns-clause-good : goal.returns-clause-good
unfolding good_rounds
returns-clause-good g c players extra capacity m r =
    let all : c.loop.counter ≡ c.args.count = omega (arith, c.loop-test.false, c.loop.auto.counter-end) in
    rw all at (c.loop.invariant.0 players extra capacity m r)

pub returns-in_err-good_round_with-clause-continues : goal.returns-in_err-good_round_with-clause-continues
returns-in_err-good_round_with-clause-continues g c =
    continues_on _ _ _ c.loop.invariant.1 c.good_round_with.ensures.continues
