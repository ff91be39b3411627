use Rattle.std.proofs.Common.{length}
use Rattle.dn_link.proofs.overdue.Overdue.hand.Given as goal

abbrev pub invariant-parts : goal.invariant-parts
invariant-parts l = Unit {0}

abbrev pub decreases-parts : goal.decreases-parts
decreases-parts l = length l.rest
