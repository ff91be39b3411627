use Rattle.std.proofs.Common.{◌≡◌, fold, take}
use Rattle.dn_core_tests.proofs.tests.world.play.Given as goal

abbrev pub invariant-loop-row : goal.invariant-loop-row
invariant-loop-row g l =
    let w = g.W.World in
    w.state l.world ≡ fold w.physics.step (w.physics.begin l.start l.fn.present) (take l.row-index l.rows)
