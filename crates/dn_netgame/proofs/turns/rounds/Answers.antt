use Rattle.std.proofs.Common.{◌≡◌, ◌+◌, ℕ, suc, length, ◌∙◌, subst, arith}
use Rattle.dn_netgame.specs.Turning.{TakeTurns, TakeRounds, drawn_in}
use Rattle.dn_netgame.proofs.turns.rounds.Goals as goal

pub loop-preserved : goal.loop-preserved
loop-preserved g c =
    let before = c.loop.invariant in
    let round = c.loop.counter in
    let drawn = c.draw-inputs.ensures.keys c.args.seed round before.1 in (
      c.take_turns.ensures.nodes ∙ before.0,
      c.draw-inputs.ensures.next c.args.seed round before.1,
      λ seats seated.
          let so_far = before.2 seats seated in
          let one = c.take_turns.ensures.turns (drawn_in c.args.seed round) drawn so_far.after so_far.seated in
          let N : ℕ → Type 0 = λ n. TakeTurns g.L.Line.sends g.L.Line.polls g.L.Line.failed g.W.World.physics
          (drawn_in c.args.seed round) n (so_far.after, c.loop.line) (one.after, c.take_turns.new.line) in
          let P : ℕ → Type 0 = λ k. TakeRounds g.L.Line.sends g.L.Line.polls g.L.Line.failed g.W.World.physics
          c.args.seed (length c.args.nodes.now) k (seats, c.args.line.now) (one.after, c.take_turns.new.line) in
          let next : suc round ≡ round + 1 = omega arith in
          record {
            after = one.after;
            seated = one.seated;
            leads = subst P next ((so_far.after, c.loop.line), so_far.leads, subst N before.0 one.leads);
          },
      c.take_turns.ensures.whose ∙ before.3,
    )

pub returns-clause-rounds : goal.returns-clause-rounds
returns-clause-rounds g c seats seated =
    let so_far = c.loop.invariant.2 seats seated in
    let P : ℕ → Type 0 = λ k. TakeRounds g.L.Line.sends g.L.Line.polls g.L.Line.failed g.W.World.physics
    c.args.seed (length c.args.nodes.now) k (seats, c.args.line.now) (so_far.after, c.loop.line) in
    grind arith

pub returns-clause-whose : goal.returns-clause-whose
returns-clause-whose g c = c.loop.invariant.3
