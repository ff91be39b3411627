use Rattle.std.proofs.Common.{◌≡◌, ◌<◌}
use Rattle.dn_survivor.specs.OfOthers.{count_by, largest_at}
use Rattle.dn_survivor.proofs.others.Others.teller.Given as goal

abbrev pub invariant-loop-teller : goal.invariant-loop-teller
invariant-loop-teller l = record {
  best : l.best ≡ largest_at l.teller (count_by l.fn.me l.fn.self l.fn.player);
  four : l.best < 4;
}
