use Rattle.std.proofs.Common.{◌≡◌, ◌*◌, ◌<◌, ◌≤◌, ℕ, length, sum, take}
use Rattle.dn_measure.specs.Histogram.{at_most}
use Rattle.dn_measure.proofs.histogram.Histogram.least.Given as goal

abbrev pub invariant-loop-bin : goal.invariant-loop-bin
invariant-loop-bin g l =
    (l.found ≡ sum (take l.bin l.count-items)) × (l.found ≤ l.bin * 4294967296)
    × ((below : ℕ) → below < l.bin → 100 * at_most l.count-items below < l.wanted)
    × (l.bin ≤ length l.count-items)
