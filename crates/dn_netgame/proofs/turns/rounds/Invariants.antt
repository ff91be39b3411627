use Rattle.std.proofs.Common.{◌≡◌, length}
use Rattle.dn_netgame.specs.Turning.{LeadAll, TakeRounds, AreAt}
use Rattle.dn_node.specs.Contents.{whose_of}
use Rattle.dn_netgame.proofs.turns.rounds.Given as goal

abbrev pub invariant-loop : goal.invariant-loop
invariant-loop g l =
    (length l.nodes ≡ length l.fn.nodes)
    × AreAt l.seed l.counter l.streams
    × LeadAll g.W.World.state g.W.World.physics l.fn.nodes l.nodes
    (λ seats after. TakeRounds g.L.Line.sends g.L.Line.polls g.L.Line.failed g.W.World.physics l.seed
    (length l.fn.nodes) l.counter (seats, l.fn.line) (after, l.line))
    × (whose_of l.nodes ≡ whose_of l.fn.nodes)
