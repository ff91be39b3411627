use Rattle.dn_machine.specs.Progress.{turn}
use Rattle.dn_game.specs.{Applied.Tells, Contents.contents, Room.Continues, Rounds.turn_events}
use Rattle.dn_tic.specs.Inputs.{input_of}
use Rattle.dn_game.proofs.Arriving.{HasTaken}
use Rattle.dn_game.proofs.game.Game.good_round_with.Given as goal

abbrev pub invariant-loop-node : goal.invariant-loop-node
invariant-loop-node g l = (Tells g.W.World.state g.W.World.physics (contents l.fn.self) (λ rules m.
    HasTaken g.W.World.state rules (turn rules (input_of l.fn.inputs))
    (turn_events rules (input_of l.fn.inputs)) m l.node (contents l.fn.self) (contents l.self)))
    × Continues l.fn.self l.self
