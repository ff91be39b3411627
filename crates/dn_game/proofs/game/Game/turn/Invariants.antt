use Rattle.dn_machine.specs.Progress.{after, build_of, exchange}
use Rattle.dn_game.specs.{Applied.Tells, Contents.contents, Room.Continues, Rounds.exchange_events}
use Rattle.dn_game.proofs.Arriving.{HasTaken}
use Rattle.dn_game.proofs.game.Game.turn.Given as goal

abbrev pub invariant-loop-to : goal.invariant-loop-to
invariant-loop-to g l = (Tells g.W.World.state g.W.World.physics (contents l.fn.self) (λ rules m.
    HasTaken g.W.World.state rules (exchange rules l.fn.node) (exchange_events l.fn.node)
    (after rules (build_of l.fn.node l.fn.input) m) l.to (contents l.initial.self) (contents l.self)))
    × Continues l.initial.self l.self
