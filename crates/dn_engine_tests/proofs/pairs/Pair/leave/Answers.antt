use Rattle.std.proofs.Common.{refl}
use Rattle.dn_engine_tests.proofs.Staying.{first_moves, second_moves}
use Rattle.dn_engine_tests.proofs.pairs.Pair.leave.Goals as goal

pub returns-clause-one_game : goal.returns-clause-one_game
returns-clause-one_game c settings one =
    let left = second_moves settings _ one c.quit.new.lockstep _ c.quit.ensures.one_game (λ s p. (refl, refl)) in
    first_moves settings _ (c.exchange.ensures.one_game settings left) c.run.new.lockstep _ c.run.ensures.one_game
    (λ s p. (refl, refl))

pub returns-clause-step : goal.returns-clause-step
returns-clause-step c = record {
  answer = c.quit.result;
  left = record c.args.self.now { second = c.quit.new.lockstep };
  heard = c.exchange.new.self;
  leaves = c.quit.ensures.step;
  first_stays = refl;
  still_late = (refl, refl);
  tells = c.exchange.ensures.step;
  runs = (c.run.result.0, c.run.result.1, c.run.ensures.step);
  second_stays = refl;
  late = (refl, refl);
}
