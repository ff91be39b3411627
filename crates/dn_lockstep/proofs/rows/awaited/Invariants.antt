use Rattle.std.proofs.Common.{◌≡◌, None}
use Rattle.dn_machine.specs.Node.{lowest}
use Rattle.dn_lockstep.specs.{Tables.{ring_at, peer_at}, Rows.is_missing}
use Rattle.dn_lockstep.proofs.rows.awaited.Given as goal

abbrev pub invariant-loop-player : goal.invariant-loop-player
invariant-loop-player l = lowest l.player (is_missing (ring_at l.rings) (peer_at l.peers) l.tic) ≡ None
