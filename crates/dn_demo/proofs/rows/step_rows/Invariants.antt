use Rattle.std.proofs.Common.{length}
use Rattle.dn_demo.specs.{Layout.layout_of, Feeding.StepsRows}
use Rattle.dn_demo.proofs.rows.step_rows.Given as goal

abbrev pub invariant-loop-rest : goal.invariant-loop-rest
invariant-loop-rest g l =
    StepsRows g.W.World.state g.W.World.physics (layout_of l.fn.layout) l.fn.present l.fn.world l.fn.piece l.rest
    l.world

abbrev pub decreases-loop-rest : goal.decreases-loop-rest
decreases-loop-rest g l = length l.rest
