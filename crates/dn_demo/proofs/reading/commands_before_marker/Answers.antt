use Rattle.std.proofs.{Common.{min, arith}, lemmas.{List.take_rest, Bool.Decides.nat_tests}}
use Rattle.dn_demo.proofs.OneReading.{passed, next_rest, nowhere}
use Rattle.dn_demo.proofs.reading.commands_before_marker.Goals as goal

pub loop-rest-preserved : goal.loop-rest-preserved
loop-rest-preserved c = grind (arith, nat_tests, min, next_rest, take_rest, passed)

pub returns-clause-none : goal.returns-clause-none
returns-clause-none c = grind (arith, nat_tests, nowhere)
