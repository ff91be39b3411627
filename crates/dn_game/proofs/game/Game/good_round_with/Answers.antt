use Rattle.std.proofs.Common.{refl, ◌∙◌, rules, ◌≡◌, ◌<◌, Err, arith}
use Rattle.dn_machine.specs.{Progress.{in_order, turn, good_round}, Worlds.rules_of}
use Rattle.dn_game.specs.{Contents.contents, Rounds.turn_events}
use Rattle.dn_tic.specs.Inputs.{input_of}
use Rattle.dn_game.proofs.{Rounding.{after_turn, continues_on, continues_same}, Arriving.{by_own_input, goes_on, ends, ended}}
use Rattle.dn_game.proofs.game.Game.good_round_with.Goals as goal

pub loop-node-init : goal.loop-node-init
unfolding in_order
loop-node-init g c = (
  λ players extra capacity m r. (r, λ i never. refl),
  continues_same _,
)

pub loop-node-preserved : goal.loop-node-preserved
loop-node-preserved g c = (
  λ players extra capacity m r.
      let rules = rules_of g.W.World.physics players extra capacity in
      let inputs = input_of c.args.inputs.now in
      let taken = c.loop-node.invariant.0 players extra capacity m r in
      goes_on _ rules (turn rules inputs) (turn_events rules inputs) (after_turn rules inputs) m
      (contents c.args.self.now) (contents c.loop-node.self) (contents c.turn.new.self) c.loop-node.node
      c.turn.result taken c.turn.ensures.continues.more
      (by_own_input _ rules _ inputs _ c.loop-node.node (contents c.loop-node.self) (contents c.turn.new.self)
      c.turn.result c.input_of.ensures (c.turn.ensures.good players extra capacity _ taken.0)) _
      c.in_ok-turn.was,
  continues_on _ _ _ c.loop-node.invariant.1 c.turn.ensures.continues,
)

pub returns-in_err-turn-clause-good : goal.returns-in_err-turn-clause-good
returns-in_err-turn-clause-good g c players extra capacity m r =
    let same : c.from_residual.result ≡ Err c.in_err-turn.field-0.0 = search rules in
    let rules = rules_of g.W.World.physics players extra capacity in
    let inputs = input_of c.args.inputs.now in
    let taken = c.loop-node.invariant.0 players extra capacity m r in
    let count = c.players-node-end.ensures.value ∙ r.players in
    let below : c.loop-node.node < players = omega (arith, c.loop-node-test.true, c.loop-node.auto.node-end, count) in
    ended _ rules _ m _ (contents c.args.self.now) (contents c.turn.new.self) _ _ same
    (ends _ rules (turn rules inputs) (turn_events rules inputs) (after_turn rules inputs) m
    (contents c.args.self.now) (contents c.loop-node.self) (contents c.turn.new.self) c.loop-node.node
    c.turn.result taken c.turn.ensures.continues.more
    (by_own_input _ rules _ inputs _ c.loop-node.node (contents c.loop-node.self) (contents c.turn.new.self)
    c.turn.result c.input_of.ensures (c.turn.ensures.good players extra capacity _ taken.0)) players below _
    c.in_err-turn.was)

pub returns-clause-good : goal.returns-clause-good
unfolding good_round
returns-clause-good g c players extra capacity m r =
    let count = c.players-node-end.ensures.value ∙ r.players in
    let all : c.loop-node.node ≡ players = omega (arith, c.loop-node-test.false, c.loop-node.auto.node-end, count) in
    rw all at (c.loop-node.invariant.0 players extra capacity m r)

pub returns-in_err-turn-clause-continues : goal.returns-in_err-turn-clause-continues
returns-in_err-turn-clause-continues g c = continues_on _ _ _ c.loop-node.invariant.1 c.turn.ensures.continues
