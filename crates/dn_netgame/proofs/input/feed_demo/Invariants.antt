use Rattle.std.proofs.Common.{ℕ, List, length, ◌-◌, ◌≤◌}
use Rattle.std.specs.Io.KnownBytes.{Consumes}
use Rattle.dn_world.specs.Plane.{walking}
use Rattle.dn_demo.specs.Feeding.{Shows}
use Rattle.dn_netgame.proofs.input.feed_demo.Given as goal

abbrev pub invariant-loop-piece : goal.invariant-loop-piece
invariant-loop-piece g l =
    (bytes : List ℕ) × (length bytes ≤ 33554433)
    × Consumes (g.R.Read.remaining l.initial.input) (g.R.Read.remaining l.input) bytes
    × Shows (λ w. w) walking bytes l.feed

abbrev pub decreases-loop-piece : goal.decreases-loop-piece
decreases-loop-piece g l = 33554433 - l.feed.taken
