use Rattle.std.proofs.Common.{◌-◌}
use Rattle.dn_netgame.proofs.RowPieces.{ListsSoFar}
use Rattle.dn_netgame.proofs.rows.list_rows.Given as goal

abbrev pub invariant-loop-alloc : goal.invariant-loop-alloc
invariant-loop-alloc g l =
    ListsSoFar (g.R.Read.remaining l.initial.input) (g.R.Read.remaining l.input)
    (g.W.Write.contents l.initial.output) (g.W.Write.contents l.output) l.feed

abbrev pub decreases-loop-alloc : goal.decreases-loop-alloc
decreases-loop-alloc g l = 33554433 - l.feed.taken
