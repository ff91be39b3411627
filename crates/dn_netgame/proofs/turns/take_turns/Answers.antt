use Rattle.std.proofs.{Common.{◌≡◌, ◌<◌, ◌+◌, ℕ, suc, length, refl, ap, ◌∙◌, subst, arith}, lemmas.List.length-set}
use Rattle.std.proofs.lemmas.Option.{slice_get_read}
use Rattle.dn_tic.specs.{declared.input.Input.Input, Inputs.input_of}
use Rattle.dn_machine.specs.Node.{put}
use Rattle.dn_node.specs.{declared.node.Node.Node, Contents.{contents, Represents}}
use Rattle.dn_node.proofs.Stepping.{whose_set}
use Rattle.dn_netgame.specs.Turning.{Seat, rules_at, TakeTurns, IsTurn}
use Rattle.dn_netgame.proofs.Turning.{seated_with}
use Rattle.dn_netgame.proofs.turns.take_turns.Goals as goal

pub loop-place-preserved : goal.loop-place-preserved
loop-place-preserved g c =
    let before = c.loop-place.invariant in
    let nodes = c.loop-place.nodes in
    let place = c.loop-place.place in (
      length-set nodes place c.turn_with.new.node ∙ before.0,
      λ by of seats seated.
          let so_far = before.1 by of seats seated in
          let seat : Seat = so_far.after place in
          let below : place < length nodes = omega (arith, c.loop-place-test.true, before.0) in
          let same : length nodes ≡ length nodes = refl in
          let Shown : Node _ → Type 0 = λ n. Represents g.W.World.state (rules_at g.W.World.physics seat)
          seat.me (contents n) seat.node in
          let shown = subst Shown c.index-nodes-place.is (so_far.seated place c.index-nodes-place.result
          (slice_get_read nodes (length nodes) place c.index-nodes-place.result same below
          c.index-nodes-place.is)) in
          let mine : c.me.result ≡ seat.me = c.me.ensures.number ∙ shown.lockstep.whose.number in
          let few : c.me.result < 4 = c.me.ensures.four in
          let told : c.input_of-input.result ≡ by c.me.result =
          c.input_of-input.ensures ∙ ap (input_of c.args.inputs.now) c.from.ensures ∙ of c.me.result few in
          let own : c.input_of-input.result ≡ by seat.me = told ∙ ap by mine in
          let one = c.turn_with.ensures.turned seat.limits seat.me seat.node shown in
          let then : ℕ → Seat = put so_far.after place (record seat { node = one.after }) in
          let K : Input → Type 0 = λ k. IsTurn g.L.Line.sends g.L.Line.polls (rules_at g.W.World.physics seat)
          seat.me k (seat.node, c.loop-place.line) (one.after, c.turn_with.new.line) c.turn_with.result in
          let P : ℕ → Type 0 = λ k. TakeTurns g.L.Line.sends g.L.Line.polls g.L.Line.failed g.W.World.physics
          by k (seats, c.args.line.now) (then, c.turn_with.new.line) in
          let next : suc place ≡ place + 1 = omega arith in
          record {
            after = then;
            seated = seated_with g.W.World.state g.W.World.physics nodes so_far.after place c.turn_with.new.node
                (record seat { node = one.after }) so_far.seated below one.node;
            leads = subst P next (
              (so_far.after, c.loop-place.line),
              so_far.leads,
              record {
                after = one.after;
                turned = c.turn_with.result;
                turn = subst K own one.leads;
                seats = refl;
                counted = c.turn_with.ensures.counted;
              },
            );
          },
      whose_set nodes place c.index-nodes-place.result c.turn_with.new.node c.turn_with.ensures.whose ∙ before.2,
    )

pub returns-clause-turns : goal.returns-clause-turns
returns-clause-turns g c =
    λ by of seats seated.
    let so_far = c.loop-place.invariant.1 by of seats seated in
    let P : ℕ → Type 0 = λ k. TakeTurns g.L.Line.sends g.L.Line.polls g.L.Line.failed g.W.World.physics
    by k (seats, c.args.line.now) (so_far.after, c.loop-place.line) in
    grind arith

pub returns-clause-whose : goal.returns-clause-whose
returns-clause-whose g c = c.loop-place.invariant.2
