use Rattle.std.proofs.Common.{◌≡◌, [], map, replicate, length, vec_capacity}
use Rattle.dn_netgame.proofs.line.hub.MemoryHub.new.Given as goal

abbrev pub invariant-loop : goal.invariant-loop
invariant-loop l = (map (λ q. q.items) l.queues.items ≡ replicate l.counter [])
    × (length l.queues.items ≡ l.counter)
    × (vec_capacity l.queues ≡ l.fn.players)
