use Rattle.std.proofs.Common.{◌≡◌, ◌≤◌, length, min}
use Rattle.dn_link.specs.Congestion.{least}
use Rattle.dn_link.proofs.trip.least.Given as goal

abbrev pub invariant-trips : goal.invariant-trips
invariant-trips l = (min l.least (least l.rest) ≡ least l.fn.trips) × (l.least ≤ 32)

abbrev pub decreases-trips : goal.decreases-trips
decreases-trips l = length l.rest
