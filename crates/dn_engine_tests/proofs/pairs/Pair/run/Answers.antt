use Rattle.std.proofs.Common.{refl}
use Rattle.dn_engine_tests.proofs.Staying.{both_move}
use Rattle.dn_engine_tests.proofs.pairs.Pair.run.Goals as goal

pub returns-clause-one_game : goal.returns-clause-one_game
returns-clause-one_game c settings one =
    both_move one c.run.ensures.one_game c.run-2.ensures.one_game (λ s p. (refl, refl)) (λ s p. (refl, refl))

pub returns-clause-step : goal.returns-clause-step
returns-clause-step c = record {
  first = (c.run.result.0, c.run.result.1, c.run.ensures.step);
  second = (c.run-2.result.0, c.run-2.result.1, c.run-2.ensures.step);
  late = (refl, refl);
}
