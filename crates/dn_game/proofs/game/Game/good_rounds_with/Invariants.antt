use Rattle.std.proofs.Common.{◌≡◌}
use Rattle.dn_machine.specs.Progress.{good_round}
use Rattle.dn_game.specs.{Applied.Tells, Contents.contents, Room.Continues, Rounds.round_events}
use Rattle.dn_tic.specs.Inputs.{input_of}
use Rattle.dn_game.proofs.Arriving.{HasTaken}
use Rattle.dn_game.proofs.game.Game.good_rounds_with.Given as goal

abbrev pub invariant-loop : goal.invariant-loop
invariant-loop g l = (Tells g.W.World.state g.W.World.physics (contents l.fn.self) (λ rules m.
    HasTaken g.W.World.state rules (λ before round. good_round rules (input_of l.fn.inputs) before)
    (λ before round. round_events rules (input_of l.fn.inputs) before) m l.counter (contents l.fn.self)
    (contents l.self)))
    × Continues l.fn.self l.self × (l.counter ≡ 0 → l.self ≡ l.fn.self)
