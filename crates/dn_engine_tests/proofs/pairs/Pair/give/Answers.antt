use Rattle.std.proofs.Common.{refl, arith}
use Rattle.std.proofs.lemmas.Option.{slice_get-get_or}
use Rattle.dn_engine_tests.proofs.Staying.{both_move}
use Rattle.dn_engine_tests.proofs.pairs.Pair.give.Goals as goal

pub returns-clause-one_game : goal.returns-clause-one_game
returns-clause-one_game c settings one =
    both_move one c.give.ensures.one_game c.give-2.ensures.one_game (λ s p. (refl, refl)) (λ s p. (refl, refl))

pub returns-clause-step : goal.returns-clause-step
returns-clause-step c = record {
  first = (_, c.give.result, slice_get-get_or c.args.commands 0 _ (omega arith), c.give.ensures.step);
  second = (_, c.give-2.result, slice_get-get_or c.args.commands 1 _ (omega arith), c.give-2.ensures.step);
  late = (refl, refl);
}
