use Rattle.std.proofs.{Common.arith, lemmas.Bool.{eq-eqb, eqb-true}, lemmas.List.nil_from_length}
use Rattle.dn_measure.proofs.Judging.{nothing_lacks, all_reached}
use Rattle.dn_measure.proofs.verdict.carries.Goals as goal

pub returns : goal.returns
returns c = grind (arith, eqb-true, all_reached, nil_from_length, nothing_lacks, eq-eqb)
