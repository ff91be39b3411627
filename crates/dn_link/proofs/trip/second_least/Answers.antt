use Rattle.std.proofs.Common.{◌≤◌, ℕ, List, [], ◌∷◌, arith, rules}
use Rattle.dn_link.specs.Congestion.{least, second_least}
use Rattle.dn_link.proofs.trip.second_least.Goals as goal

-- none of them is longer than the longest, and the shortest than the shortest but one
bounds : (trips : List ℕ) → (least trips ≤ second_least trips) × (second_least trips ≤ 32)
bounds [] = (omega arith, omega arith)
bounds (ticks ∷ trips) = let rest = bounds trips in (omega (arith, rest.0, rest.1), omega (arith, rest.0, rest.1))

pub trips-init : goal.trips-init
trips-init c = let all = bounds c.args.trips.now in (omega (arith, all.0, all.1), omega arith, omega arith)

pub trips-preserved : goal.trips-preserved
trips-preserved c = let all = bounds c.in-Some.after.now in search (rules, arith, all)
