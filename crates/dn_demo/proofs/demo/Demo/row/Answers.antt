use Rattle.std.proofs.{Common.{◌<◌, ◌∙◌, length, Some, sym, ap, arith}, lemmas.Option.slice_get_past}
use Rattle.dn_demo.specs.Layout.{layout_of}
use Rattle.dn_demo.proofs.Fronts.{row_kept}
use Rattle.dn_demo.proofs.demo.Demo.row.Goals as goal

pub row-requires : goal.row-requires
row-requires c =
    let below : c.args.tic < length c.args.self.now.rows = omega arith in
    (row_kept (layout_of c.self.inside.layout) _ _ _ _ _ _ _ c.self.invariant.0.whole c.self.view_is
    c.deref.ensures.value c.present-present.ensures.value c.players.ensures.value below).0

pub overflow_mul-players : goal.overflow_mul-players
overflow_mul-players c = omega (arith, row-requires c)

pub returns-then-tic-tics : goal.returns-then-tic-tics
returns-then-tic-tics c =
    let below : c.args.tic < length c.args.self.now.rows = omega arith in
    ap (λ x. Some x) c.row.ensures
    ∙ (row_kept (layout_of c.self.inside.layout) _ _ _ _ _ _ _ c.self.invariant.0.whole c.self.view_is
    c.deref.ensures.value c.present-present.ensures.value c.players.ensures.value below).1

pub returns-else-tic-tics : goal.returns-else-tic-tics
returns-else-tic-tics c = sym (slice_get_past c.args.self.now.rows c.args.tic (omega arith))
