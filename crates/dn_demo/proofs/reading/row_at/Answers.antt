use Rattle.std.proofs.Common.{◌++◌, arith, rules}
use Rattle.dn_demo.specs.Layout.{layout_of}
use Rattle.dn_demo.proofs.Fronts.{four_moves}
use Rattle.dn_demo.proofs.reading.row_at.Goals as goal

pub returns : goal.returns
returns c = λ front command e.
    let a = c.seated-a.ensures in
    let b = c.seated-b.ensures in
    let d = c.seated-c.ensures in
    four_moves (layout_of c.args.layout) (front ++ c.args.bytes.now) c.args.present command _ _ _ _ _ _ _ _
    (search rules)
    (λ others. a.step front command others e)
    (λ others. b.step front _ others (omega (arith, e, a.next)))
    (λ others. d.step front _ others (omega (arith, e, a.next, b.next)))
    (λ others. c.seated-d.ensures.step front _ others (omega (arith, e, a.next, b.next, d.next)))
