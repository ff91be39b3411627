use Rattle.std.proofs.Common.{◌≡◌, ◌<◌, ◌⊎◌, false, length}
use Rattle.dn_demo.specs.{Layout.layout_of, Reading.HasHeader, Feeding.TakesFront}
use Rattle.dn_demo.proofs.feed.Feed.take_row.Given as goal

abbrev pub invariant-loop-byte : goal.invariant-loop-byte
invariant-loop-byte g l =
    TakesFront g.W.World.state g.W.World.physics l.initial.self l.fn.piece l.rest l.self
    × HasHeader (layout_of l.fn.layout) l.self.header × (l.self.marked ≡ false)
    × ((l.rest ≡ l.fn.piece) ⊎ (length l.rest < length l.fn.piece))

abbrev pub decreases-loop-byte : goal.decreases-loop-byte
decreases-loop-byte g l = length l.rest
