use Rattle.std.proofs.Common.{◌≡◌, ◌+◌, ◌-◌}
use Rattle.dn_machine.specs.Running.{tic_limit}
use Rattle.dn_node.specs.Contents.{contents, whose}
use Rattle.dn_netgame.specs.Turning.{Leads}
use Rattle.dn_netgame.proofs.Turning.{RanSoFar}
use Rattle.dn_netgame.proofs.turns.run_all.Given as goal

abbrev pub invariant-loop-ran : goal.invariant-loop-ran
invariant-loop-ran g l =
    ((contents l.node).ran ≡ (contents l.fn.node).ran + l.ran)
    × Leads g.W.World.state g.W.World.physics (contents l.fn.node) (contents l.node)
    (λ rules me m after. RanSoFar rules m l.ran after)
    × (whose (contents l.node) ≡ whose (contents l.fn.node))

abbrev pub decreases-loop-ran : goal.decreases-loop-ran
decreases-loop-ran g l = tic_limit - (contents l.node).ran
