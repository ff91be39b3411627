use Rattle.std.proofs.Common.{◌∙◌}
use Rattle.dn_ring.proofs.Slots.{slots_are}
use Rattle.dn_ring.proofs.ring.RingBuffer.slots.Goals as goal

pub returns : goal.returns
returns g c = λ commands is. slots_are g.row.PLACES c.self.inside.count c.self.inside.slots commands c.self.invariant
    (c.self.view_is ∙ is)
