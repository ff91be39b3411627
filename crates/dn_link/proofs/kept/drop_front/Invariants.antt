use Rattle.std.proofs.Common.{◌≡◌, length}
use Rattle.dn_link.specs.Kept.{without}
use Rattle.dn_link.proofs.kept.drop_front.Given as goal

abbrev pub invariant-packets : goal.invariant-packets
invariant-packets l = without l.count l.packets.items ≡ without l.fn.count l.fn.packets.items

abbrev pub decreases-packets : goal.decreases-packets
decreases-packets l = length l.packets.items
