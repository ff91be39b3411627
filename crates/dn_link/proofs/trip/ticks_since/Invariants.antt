use Rattle.std.proofs.Common.{◌≡◌, ◌≤◌, ◌+◌, length}
use Rattle.dn_link.specs.Congestion.{ticks_since}
use Rattle.dn_link.proofs.trip.ticks_since.Given as goal

abbrev pub invariant-ticks : goal.invariant-ticks
invariant-ticks l =
    (l.ticks + ticks_since l.count l.rest ≡ ticks_since l.fn.count l.fn.made) × (l.ticks + length l.rest ≤ 32)
    × (l.count ≡ l.fn.count)

abbrev pub decreases-ticks : goal.decreases-ticks
decreases-ticks l = length l.rest
