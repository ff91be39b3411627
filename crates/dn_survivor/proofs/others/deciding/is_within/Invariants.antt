use Rattle.std.proofs.Common.{◌≡◌, true}
use Rattle.dn_remain.specs.Vanished.Calls.{every, is_within_at}
use Rattle.dn_survivor.specs.OfOthers.{has}
use Rattle.dn_survivor.proofs.others.deciding.is_within.Given as goal

abbrev pub invariant-loop-player : goal.invariant-loop-player
invariant-loop-player l = record { all : every l.player (is_within_at (has l.fn.one) (has l.fn.other)) ≡ true }
