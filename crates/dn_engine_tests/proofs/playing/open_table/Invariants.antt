use Rattle.std.proofs.Common.{◌≡◌, ◌+◌, length}
use Rattle.std.specs.Prelude.{All}
use Rattle.std.specs.Vec.{vec_capacity}
use Rattle.dn_engine_tests.proofs.Opening.{IsNew}
use Rattle.dn_engine_tests.proofs.playing.open_table.Given as goal

abbrev pub invariant-loop-world : goal.invariant-loop-world
invariant-loop-world g l =
    (goal.iterator-loop-world g).can_next l.world-iterator
    × (goal.iterator-loop-world g).is_finite l.world-iterator
    × (length l.engines.items + (goal.iterator-loop-world g).remaining l.world-iterator ≡ length l.fn.worlds.items)
    × All (IsNew l.fn.host.secret) l.engines.items
    × (vec_capacity l.engines ≡ length l.fn.worlds.items)
