use Rattle.std.proofs.Common.{take}
use Rattle.dn_engine_tests.specs.Pairs.{IsOneGame, Rounds}
use Rattle.dn_engine_tests.proofs.pairs.play.Given as goal

abbrev pub invariant-loop-both : goal.invariant-loop-both
invariant-loop-both l =
    record {
      game : IsOneGame l.fn.settings l.pair;
      rounds : Rounds (take l.both-index l.commands) l.initial.pair l.pair;
    }
