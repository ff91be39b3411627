use Rattle.std.proofs.Common.{◌≡◌, ℕ, sym, ◌∙◌, refl, max}
use Rattle.dn_remain.specs.Vanished.Node.{highest, share}
use Rattle.dn_survivor.specs.OfOthers.{told_of, own_of}
use Rattle.dn_survivor.proofs.Lowest.{highest_more, no_numbers}
use Rattle.dn_survivor.proofs.others.Others.end.Goals as goal

pub loop-teller-init : goal.loop-teller-init
loop-teller-init c = record { largest = sym (no_numbers _) }

pub loop-teller-preserved : goal.loop-teller-preserved
loop-teller-preserved c =
    let others = c.args.self.now in
    let counts : ℕ → ℕ = share c.args.me (own_of others (λ p. c.args.own)) (told_of others) c.args.player in
    let step = highest_more c.loop-teller.teller _ counts refl in
    let larger : c.larger-end.result ≡ max (highest c.loop-teller.teller counts) (counts c.loop-teller.teller) =
    c.larger-end.ensures ∙ (λ i. max (c.loop-teller.invariant.largest i) (c.share.ensures i)) in
    record { largest = larger ∙ sym step }
