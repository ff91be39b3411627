use Rattle.std.proofs.Common.{◌≡◌, ◌++◌, ◌∷◌, [], ℕ, length, ap, ◌∙◌, arith}
use Rattle.dn_survivor.specs.{ReportBytes.first_byte, ReportBytes.tail_bytes, declared.report.Tail.Tail}
use Rattle.dn_survivor.proofs.ReportBytes.{one_more}
use Rattle.dn_survivor.proofs.report.Report.bytes.Goals as goal

pub loop-tail-init : goal.loop-tail-init
loop-tail-init c =
    let begun : c.append.new.bytes.items ≡ first_byte c.args.self.now ∷ [] =
    c.append.ensures ∙ (λ i. c.new-bytes.ensures i ++ c.first_byte.ensures i ∷ []) in
    record { so_far = begun; long = omega (arith, ap (length {A = ℕ}) begun) }

pub append_tail-requires : goal.append_tail-requires
append_tail-requires c =
    omega (arith, c.loop-tail.invariant.long, c.loop-tail-test.true, c.as_slice-tail-items.ensures.fits)

pub loop-tail-preserved : goal.loop-tail-preserved
loop-tail-preserved c =
    let inv = c.loop-tail.invariant in
    record {
      so_far = one_more tail_bytes (first_byte c.args.self.now ∷ []) c.as_slice-tail-items.result.now _ _
          c.loop-tail.bytes.items _ c.loop-tail-test.true inv.so_far
          (c.append_tail.ensures.more ∙ ap (λ (tail : Tail). c.loop-tail.bytes.items ++ tail_bytes tail) c.tail-item.is);
      long = omega (arith, inv.long, c.append_tail.ensures.long);
    }
