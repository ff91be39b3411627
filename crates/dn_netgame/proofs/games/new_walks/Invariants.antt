use Rattle.std.proofs.Common.{length, ◌-◌, ◌≤◌}
use Rattle.dn_netgame.proofs.games.new_walks.Given as goal

abbrev pub invariant-loop-walks : goal.invariant-loop-walks
invariant-loop-walks l = length l.walks.items ≤ l.players

abbrev pub decreases-loop-walks : goal.decreases-loop-walks
decreases-loop-walks l = l.players - length l.walks.items
