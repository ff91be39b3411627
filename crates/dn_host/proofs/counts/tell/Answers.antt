-- What is told so often.
use Rattle.std.proofs.Common.{◌≡◌, ℕ, zero, suc, ◌+◌, List, [], ◌∷◌, ◌++◌, replicate, refl, ap, ◌∙◌, append_assoc, arith, subst}
use Rattle.dn_measure.specs.{declared.measure.Told.Told, Measure.IsMeasureOf}
use Rattle.dn_host.proofs.counts.tell.Goals as goal

replicate_more : {A : Type 0} (times : ℕ) (x : A) → replicate times x ++ x ∷ [] ≡ x ∷ replicate times x
replicate_more zero x = refl
replicate_more (suc times) x = ap (λ xs. x ∷ xs) (replicate_more times x)

-- once more
told_again : {A : Type 0} (before : List A) (times : ℕ) (x : A)
    → (before ++ replicate times x) ++ x ∷ [] ≡ before ++ replicate (times + 1) x
told_again before times x =
    let next : suc times ≡ times + 1 = omega arith in
    append_assoc before (replicate times x) (x ∷ []) ∙ ap (λ xs. before ++ xs) (replicate_more times x)
    ∙ ap (λ n. before ++ replicate n x) next

pub loop-preserved : goal.loop-preserved
loop-preserved c = λ start before h.
    subst (λ (told : List Told). IsMeasureOf c.tell.new.self start told) (told_again before c.loop.counter c.args.told)
    (c.tell.ensures start (before ++ replicate c.loop.counter c.args.told) (c.loop.invariant start before h))

pub returns : goal.returns
returns c = λ start before h.
    let all : c.loop.counter ≡ c.args.times = omega (arith, c.loop-test.false, c.loop.auto.counter-end) in
    subst (λ n. IsMeasureOf c.loop.measure start (before ++ replicate n c.args.told)) all
    (c.loop.invariant start before h)
