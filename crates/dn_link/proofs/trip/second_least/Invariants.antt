use Rattle.std.proofs.Common.{◌≡◌, ◌≤◌, length, max, min}
use Rattle.dn_link.specs.Congestion.{least, second_least}
use Rattle.dn_link.proofs.trip.second_least.Given as goal

abbrev pub invariant-trips : goal.invariant-trips
invariant-trips l =
    (min (max l.least (least l.rest)) (min l.second (second_least l.rest)) ≡ second_least l.fn.trips)
    × (l.least ≤ l.second) × (l.second ≤ 32)

abbrev pub decreases-trips : goal.decreases-trips
decreases-trips l = length l.rest
