use Rattle.std.proofs.Common.{◌≡◌, ◌≤◌, ℕ, ◌∙◌, arith}
use Rattle.zirmegat.proofs.Turning.{held_after}
use Rattle.zirmegat.proofs.commands.turning.Goals as goal

-- what has counted as far as it may has counted to there
counted : (count most : ℕ) → count ≤ most → most ≤ count → count ≡ most
counted count most within all = omega arith

pub returns : goal.returns
returns c =
    let l = c.loop-count in let so = l.invariant in let most : ℕ = c.most_held-most.result in
    let few : l.count ≤ 6 = omega (arith, so.within, so.few) in
    so.held ∙ held_after l.count few ∙ counted l.count most so.within c.loop-count-test.false ∙ so.most
