use Rattle.std.proofs.Common.{◌≡◌, ℕ, length}
use Rattle.dn_tic.specs.declared.input.Input.{Input}
use Rattle.dn_netgame.specs.Turning.{AreOf, LeadAll, TakeTurns}
use Rattle.dn_node.specs.Contents.{whose_of}
use Rattle.dn_netgame.proofs.turns.take_turns.Given as goal

abbrev pub invariant-loop-place : goal.invariant-loop-place
invariant-loop-place g l =
    (length l.nodes ≡ length l.fn.nodes)
    × ((by : ℕ → Input) → AreOf by l.inputs
    → LeadAll g.W.World.state g.W.World.physics l.fn.nodes l.nodes
    (λ seats after. TakeTurns g.L.Line.sends g.L.Line.polls g.L.Line.failed g.W.World.physics by l.place
    (seats, l.fn.line) (after, l.line)))
    × (whose_of l.nodes ≡ whose_of l.fn.nodes)
