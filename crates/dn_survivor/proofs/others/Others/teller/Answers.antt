use Rattle.std.proofs.Common.{◌≡◌, ℕ, sym, ◌∙◌, refl, arith, inl, inr}
use Rattle.dn_survivor.specs.OfOthers.{count_by}
use Rattle.dn_survivor.proofs.{Lowest.largest_of_both, Lowest.no_largest, others.Others.teller.Goals.then-share, others.Others.teller.Goals.else-share}
use Rattle.dn_survivor.proofs.others.Others.teller.Goals as goal

pub loop-teller-init : goal.loop-teller-init
loop-teller-init c = record { best = sym (no_largest _); four = omega arith }

pub loop-teller-preserved : goal.loop-teller-preserved
loop-teller-preserved c =
    let n : ℕ = c.loop-teller.teller in
    let count : ℕ → ℕ = count_by c.args.me c.args.self.now c.args.player in
    let here : c.share.result ≡ count c.loop-teller.best = c.share.ensures in
    let next : c.share-in-loop-teller.result ≡ count n = c.share-in-loop-teller.ensures in
    let inv = c.loop-teller.invariant in
    let both = largest_of_both n _ c.loop-teller.best c.share.result c.share-in-loop-teller.result count refl
    inv.best here next in
    elim c.if-share.branch [
      | then-share w ↦ elim both [
        | inl more ↦ record {
          best = w.best-is ∙ sym more.1;
          four = omega (arith, w.best-is, c.loop-teller-test.true, c.requires);
        }
        | inr most ↦ absurd (omega (arith, most.0, w.if-share))
      ]
      | else-share w ↦ elim both [
        | inl more ↦ absurd (omega (arith, more.0, w.if-share))
        | inr most ↦ record { best = w.best-is ∙ sym most.1; four = omega (arith, w.best-is, inv.four) }
      ]
    ]
