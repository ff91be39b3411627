use Rattle.std.specs.Prelude.{ℕ, List, ◌++◌, replicate}
use Rattle.dn_measure.specs.{declared.measure.Told.Told, Measure.IsMeasureOf}
use Rattle.dn_host.proofs.counts.tell.Given as goal

abbrev pub invariant-loop : goal.invariant-loop
invariant-loop l = (start : ℕ) (before : List Told) → IsMeasureOf l.fn.measure start before
    → IsMeasureOf l.measure start (before ++ replicate l.counter l.fn.told)
