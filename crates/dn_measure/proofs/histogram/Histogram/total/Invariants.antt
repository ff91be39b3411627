use Rattle.std.proofs.Common.{◌≡◌, ◌*◌, ◌≤◌, length, sum, take}
use Rattle.dn_measure.proofs.histogram.Histogram.total.Given as goal

abbrev pub invariant-loop-count : goal.invariant-loop-count
invariant-loop-count g l =
    (l.total ≡ sum (take l.count-index l.count-items)) × (l.total ≤ l.count-index * 4294967296)
    × (l.count-index ≤ length l.count-items)
