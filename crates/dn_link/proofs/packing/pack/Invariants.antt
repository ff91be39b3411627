use Rattle.std.proofs.Common.{length}
use Rattle.dn_link.proofs.Packings.{InPacking}
use Rattle.dn_link.proofs.packing.pack.Given as goal

abbrev pub invariant-packets : goal.invariant-packets
invariant-packets l = InPacking l.fn.from l.fn.packets l.packing l.rest

abbrev pub decreases-packets : goal.decreases-packets
decreases-packets l = length l.rest
