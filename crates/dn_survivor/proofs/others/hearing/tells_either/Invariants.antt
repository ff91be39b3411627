use Rattle.std.proofs.Common.{◌≡◌, length}
use Rattle.dn_survivor.specs.OfOthers.{tells_either}
use Rattle.dn_survivor.proofs.others.hearing.tells_either.Given as goal

abbrev pub invariant-loop-tail : goal.invariant-loop-tail
invariant-loop-tail l = record {
  rest : tells_either l.fn.one l.fn.other l.rest ≡ tells_either l.fn.one l.fn.other l.fn.told;
}

abbrev pub decreases-loop-tail : goal.decreases-loop-tail
decreases-loop-tail l = length l.rest
