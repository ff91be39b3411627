use Rattle.std.proofs.Common.{◌≡◌, ◌<◌, ℕ, not, All, IfSome}
use Rattle.dn_demo.specs.Text.{IsMove, IsRecordable}
use Rattle.dn_machine.specs.Node.{lacks}
use Rattle.dn_lockstep.specs.{Tables.{ring_at, peer_at}, Rows.{is_gone, has_gone}}
use Rattle.dn_lockstep.proofs.Seats.{seats_below}
use Rattle.dn_lockstep.proofs.rows.fill_row.Given as goal

abbrev pub invariant-loop-player : goal.invariant-loop-player
invariant-loop-player l = record {
  row : l.row ≡ seats_below (ring_at l.rings) (peer_at l.peers) l.tic l.player;
  seats : (p : ℕ) → p < l.player → lacks l.row p ≡ is_gone (peer_at l.peers) l.tic p;
  whole : l.whole ≡ not (has_gone (peer_at l.peers) l.player l.tic);
  able : All (λ step. IfSome step IsRecordable) l.row;
  ranged : All (λ step. IfSome step IsMove) l.row;
}
