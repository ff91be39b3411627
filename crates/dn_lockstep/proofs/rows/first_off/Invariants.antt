use Rattle.std.proofs.Common.{◌≡◌, None}
use Rattle.dn_machine.specs.Node.{lowest}
use Rattle.dn_lockstep.specs.{Tables.{ring_at, peer_at, slot}, Rows.{differs_but, has}}
use Rattle.dn_lockstep.proofs.rows.first_off.Given as goal

abbrev pub invariant-loop-player : goal.invariant-loop-player
invariant-loop-player l = lowest l.player
    (differs_but (has l.given_up) (ring_at l.rings) (peer_at l.peers) (slot l.marks) l.tic) ≡ None
