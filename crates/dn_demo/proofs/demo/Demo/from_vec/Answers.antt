use Rattle.std.proofs.Common.{take, ap, ◌∙◌, arith, rules}
use Rattle.dn_demo.specs.Layout.{layout_of}
use Rattle.dn_demo.proofs.OneReading.{one_reading, read_of_front}
use Rattle.dn_demo.proofs.demo.Demo.from_vec.Goals as goal

pub returns-clause-reads : goal.returns-clause-reads
returns-clause-reads c =
    read_of_front (layout_of c.in_ok-layout.layout) c.args.bytes.items _ c.in_ok-layout.commands _
    (search rules) (search rules)
    (c.truncate.ensures.items ∙ ap (λ n. take n c.args.bytes.items) c.place-front.ensures) (omega arith)

pub returns-clause-only : goal.returns-clause-only
returns-clause-only c = one_reading _ _ (returns-clause-reads c)
