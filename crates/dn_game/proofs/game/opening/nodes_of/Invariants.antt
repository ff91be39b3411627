use Rattle.std.proofs.Common.{◌≡◌, ◌+◌, ◌++◌, length, map}
use Rattle.std.specs.{List.All, Vec.vec_capacity}
use Rattle.dn_game.specs.Opening.{EachIs, rules_in}
use Rattle.dn_game.proofs.game.opening.nodes_of.Given as goal

abbrev pub invariant-loop-world : goal.invariant-loop-world
invariant-loop-world g l =
    (goal.iterator-loop-world g).can_next l.world-iterator
    × (goal.iterator-loop-world g).is_finite l.world-iterator
    × (length l.nodes.items + (goal.iterator-loop-world g).remaining l.world-iterator ≡ length l.fn.worlds.items)
    × EachIs (g.N.GameNode.is_fresh (rules_in g.W.World.physics l.config (length l.fn.worlds.items)).limits
    l.config.settings) l.nodes.items
    × (map g.N.GameNode.world_of l.nodes.items ++ l.world-iterator.rest.items ≡ l.fn.worlds.items)
    × All (λ n. (g.N.GameNode.whose n).limit ≡ l.config.limit) l.nodes.items
    × (vec_capacity l.nodes ≡ length l.fn.worlds.items)
