use Rattle.std.proofs.Common.{◌≡◌, ◌<◌, ◌+◌, ◌-◌, ℕ, min, get_or, set, arith}
use Rattle.dn_measure.proofs.Counting.{counts_more}
use Rattle.dn_measure.proofs.histogram.Histogram.add.Goals as goal

pub returns : goal.returns
returns g c = λ samples h.
    let place : ℕ = min c.args.bin (g.row.BINS - 1) in
    let inside : place < g.row.BINS = omega arith in
    let after = counts_more g.row.BINS samples c.args.self.now place h inside in
    let same : set c.self.inside.counts c.min-place.result c.saturating_add.result
    ≡ set c.args.self.now place (min (get_or c.args.self.now place 0 + 1) 4294967295) = cc in
    rw same after
