use Rattle.std.proofs.Common.{◌<◌, ◌∙◌, length, Some, ap, arith, rules}
use Rattle.dn_demo.specs.Layout.{layout_of}
use Rattle.dn_demo.proofs.Fronts.{row_kept, fold-row}
use Rattle.dn_demo.proofs.demo.play.Goals as goal

pub row-requires : goal.row-requires
row-requires g c =
    let below : c.loop-tic.tic < length c.args.demo.now.rows = omega arith in
    (row_kept (layout_of c.demo.inside.layout) _ _ _ _ _ _ _ c.demo.invariant.0.whole c.demo.view_is
    c.as_slice-bytes.ensures.value c.present-present.ensures.value c.players-players.ensures.value below).0

pub overflow_mul-players : goal.overflow_mul-players
overflow_mul-players g c = omega (arith, row-requires g c)

pub loop-tic-preserved : goal.loop-tic-preserved
loop-tic-preserved g c =
    let physics = g.W.World.physics in
    let demo = c.args.demo.now in
    let below : c.loop-tic.tic < length demo.rows = omega arith in
    let row = row_kept (layout_of c.demo.inside.layout) _ _ _ _ _ _ _ c.demo.invariant.0.whole c.demo.view_is
    c.as_slice-bytes.ensures.value c.present-present.ensures.value c.players-players.ensures.value below in
    fold-row physics.step (physics.begin demo.start demo.present) _ _ demo.rows c.loop-tic.tic _
    (ap (λ x. Some x) c.row.ensures ∙ row.1) c.loop-tic.invariant c.step.ensures

pub loop-tic-init : goal.loop-tic-init
loop-tic-init g c = search rules
