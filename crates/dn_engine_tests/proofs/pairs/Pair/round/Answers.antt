use Rattle.dn_engine_tests.proofs.pairs.Pair.round.Goals as goal

pub returns-clause-one_game : goal.returns-clause-one_game
returns-clause-one_game c settings one =
    c.run.ensures.one_game settings (c.exchange.ensures.one_game settings (c.give.ensures.one_game settings one))

pub returns-clause-step : goal.returns-clause-step
returns-clause-step c =
    (c.give.new.self, c.exchange.new.self, c.give.ensures.step, c.exchange.ensures.step, c.run.ensures.step)
