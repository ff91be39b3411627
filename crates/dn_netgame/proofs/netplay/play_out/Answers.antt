use Rattle.std.proofs.{Common.{◌≡◌, ◌<◌, ℕ, length, refl, ◌∙◌, subst, arith}, lemmas.List.length-set}
use Rattle.std.proofs.lemmas.Option.{slice_get_read}
use Rattle.dn_machine.specs.{Node.put, Running.on_quit}
use Rattle.dn_node.specs.{declared.node.Node.Node, Contents.{contents, Represents}}
use Rattle.dn_netgame.specs.{Turning.{Seat, TakeRounds, rules_at}, PlayShown.with_quit}
use Rattle.dn_netgame.proofs.Turning.{seated_with}
use Rattle.dn_netgame.proofs.netplay.play_out.Goals as goal

pub returns : goal.returns
returns g c = record {
  played = λ seats seated.
      let first = c.rounds.ensures.rounds seats seated in
      let nodes = c.rounds.new.nodes in
      let seat : Seat = first.after 0 in
      let one : length nodes ≡ 1 = c.rounds.ensures.nodes ∙ c.requires in
      let below : 0 < length nodes = omega (arith, one) in
      let same : length nodes ≡ length nodes = refl in
      let Shown : Node _ → Type 0 = λ n. Represents g.W.World.state (rules_at g.W.World.physics seat)
      seat.me (contents n) seat.node in
      let shown = subst Shown c.index-nodes-0.is (first.seated 0 c.index-nodes-0.result
      (slice_get_read nodes (length nodes) 0 c.index-nodes-0.result same below c.index-nodes-0.is)) in
      let ended = c.quit.ensures.step.step _ seat.me seat.node shown in
      let left : Seat = record seat { node = (on_quit seat.node).0 } in
      let last = c.rounds-2.ensures.rounds (put first.after 0 left)
      (seated_with g.W.World.state g.W.World.physics nodes first.after 0 c.quit.new.self left first.seated
      below ended.node) in
      let N : ℕ → Type 0 = λ n. TakeRounds g.L.Line.sends g.L.Line.polls g.L.Line.failed g.W.World.physics
      c.args.seed n c.args.count (seats, c.args.line.now) (first.after, c.rounds.new.line) in
      let M : ℕ → Type 0 = λ n. TakeRounds g.L.Line.sends g.L.Line.polls g.L.Line.failed g.W.World.physics
      c.args.seed n 4 (with_quit 0 (first.after, c.rounds.new.line)) (last.after, c.rounds-2.new.line) in
      record {
        after = last.after;
        seated = last.seated;
        leads = record {
          mid = (first.after, c.rounds.new.line);
          rounds = subst N c.requires first.leads;
          farewells = subst M (length-set nodes 0 c.quit.new.self ∙ one) last.leads;
        };
      };
}
