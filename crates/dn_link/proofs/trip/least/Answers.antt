use Rattle.std.proofs.Common.{◌≤◌, ℕ, List, [], ◌∷◌, arith}
use Rattle.dn_link.specs.Congestion.{least}
use Rattle.dn_link.proofs.trip.least.Goals as goal

-- none of them is longer than the longest
least_most : (trips : List ℕ) → least trips ≤ 32
least_most [] = omega arith
least_most (ticks ∷ trips) = let rest = least_most trips in omega (arith, rest)

pub trips-init : goal.trips-init
trips-init c = let most = least_most c.args.trips.now in (omega (arith, most), omega arith)
