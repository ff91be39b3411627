use Rattle.std.proofs.Common.{◌≡◌, ◌≤◌, true, [], length}
use Rattle.dn_demo.specs.Feeding.{TellsFront}
use Rattle.dn_demo.proofs.feed.Feed.next_row.Given as goal

abbrev pub invariant-loop-byte : goal.invariant-loop-byte
invariant-loop-byte g l =
    TellsFront g.W.World.state g.W.World.physics l.initial.self l.fn.piece l.rest l.self []
    × (length l.rest ≤ length l.fn.piece)
    × (l.initial.self.marked ≡ true → l.self.marked ≡ true)
    × (l.fn.piece ≡ [] → (l.rest ≡ []) × (l.self ≡ l.initial.self))

abbrev pub decreases-loop-byte : goal.decreases-loop-byte
decreases-loop-byte g l = length l.rest
