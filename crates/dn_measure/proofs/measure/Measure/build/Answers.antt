use Rattle.std.proofs.{Common.arith, lemmas.Bool.Decides.nat_tests}
use Rattle.dn_measure.proofs.Telling.{runs_built, built_waits, built_full}
use Rattle.dn_measure.proofs.measure.Measure.build.Goals as goal

pub returns-then-not-is_full : goal.returns-then-not-is_full
returns-then-not-is_full c = grind (arith, nat_tests, built_waits, runs_built)

pub returns-else-not-is_full : goal.returns-else-not-is_full
returns-else-not-is_full c = grind (arith, nat_tests, built_full, runs_built)
