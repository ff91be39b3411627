use Rattle.std.proofs.Common.{◌∙◌, ap}
use Rattle.dn_ring.specs.Ring.{Ring, put}
use Rattle.dn_ring.proofs.Slots.{put_table}
use Rattle.dn_ring.proofs.ring.RingBuffer.put.Goals as goal

pub returns : goal.returns
returns g c = put_table g.row.PLACES c.self.inside.count c.self.inside.slots c.self.invariant c.args.command
    ∙ ap (λ (r : Ring). put g.row.PLACES r c.args.command) c.self.view_is
