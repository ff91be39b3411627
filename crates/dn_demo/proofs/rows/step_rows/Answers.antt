use Rattle.std.proofs.{Common.{rules, false, arith}, lemmas.{List.take_rest, Bool.Decides.nat_tests}}
use Rattle.dn_demo.specs.Layout.{layout_of}
use Rattle.dn_demo.proofs.Stepping.{steps_none, steps_more}
use Rattle.dn_demo.proofs.rows.step_rows.Goals as goal

pub loop-rest-init : goal.loop-rest-init
loop-rest-init g c = steps_none g.W.World.state g.W.World.physics (layout_of c.args.layout) c.args.present
    c.args.world c.args.piece.now

pub loop-rest-preserved : goal.loop-rest-preserved
loop-rest-preserved g c = grind (arith, nat_tests, false, rules, steps_more, take_rest)
