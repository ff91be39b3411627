use Rattle.std.proofs.Common.{◌≡◌, take, fold}
use Rattle.dn_demo.proofs.demo.play.Given as goal

abbrev pub invariant-loop-tic : goal.invariant-loop-tic
invariant-loop-tic g l =
    let physics = g.W.World.physics in
    g.W.World.state l.world ≡ fold physics.step (physics.begin l.demo.start l.demo.present)
    (take l.tic l.demo.rows)
