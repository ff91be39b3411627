use Rattle.std.proofs.Common.{◌≡◌, length}
use Rattle.dn_survivor.specs.OfOthers.{last_told}
use Rattle.dn_survivor.proofs.others.ending.last_told.Given as goal

abbrev pub invariant-loop-tail : goal.invariant-loop-tail
invariant-loop-tail l = record { rest : last_told l.rest l.fn.player ≡ last_told l.fn.told l.fn.player }

abbrev pub decreases-loop-tail : goal.decreases-loop-tail
decreases-loop-tail l = length l.rest
