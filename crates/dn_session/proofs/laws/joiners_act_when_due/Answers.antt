use Rattle.std.proofs.Common.{◌≡◌, ℕ, refl, ap, subst, ◌∙◌, Option, None, inl, inr, Bool, true, false, arith}
use Rattle.std.proofs.{lemmas.Bool.and_parts, lemmas.Bool.both_ways, lemmas.Bool.or_cases}
use Rattle.std.specs.Prelude.{◌&&◌, ◌||◌}
use Rattle.dn_session.specs.Joining.{Joining, calling_again, calls_if_due, calls_on, counts_on_host, given_up_by, has_passed, is_due, is_hint_over}
use Rattle.dn_session.specs.{declared.greeting.Hint.Hint, declared.joiner.Stage.Stage}
use Rattle.dn_session.proofs.laws.joiners_act_when_due.Goals as goal

neither : (a b : Bool) → (a || b) ≡ false → (a ≡ false) × (b ≡ false)
neither a b e = grind arith

-- without a hint that ends it, and without a silence, it stays where it is
unended : (now : ℕ) (hint : Option (Hint × ℕ)) (j : Joining) → (calls_on j.stage && is_hint_over now hint) ≡ false
    → given_up_by now hint j ≡ j
unended now hint j none = grind arith

still : (now : ℕ) (j : Joining) (s : Stage) → j.stage ≡ s → (counts_on_host s && has_passed now j.heard 10000) ≡ false
    → calling_again now j ≡ j
still now j s is none = grind arith

pub returns-clause-before : goal.returns-clause-before
returns-clause-before c = λ now j idle.
    let due = neither (is_due now j) _ idle in
    let others = neither (calls_on j.stage && is_hint_over now j.hinted) _ due.1 in
    let same : calling_again now (given_up_by now j.hinted j) ≡ j =
    ap (calling_again now) (unended now j.hinted j others.0) ∙ still now j j.stage refl others.1 in
    let none = due.0 in
    ap (calls_if_due now) same ∙ rw none refl

-- where nothing is sent, and nothing has changed, no call was due
uncalled : (now : ℕ) (j next : Joining) → calls_if_due now next ≡ (j, None) → (is_due now next ≡ false) × (next ≡ j)
uncalled now j next e = grind arith

-- who is ended by a hint calls no more
ended : (now : ℕ) (hint : Option (Hint × ℕ)) (j : Joining) → calls_on j.stage ≡ true → is_hint_over now hint ≡ true
    → calls_on (calling_again now (given_up_by now hint j)).stage ≡ false
ended now hint j calls over = grind arith

-- who heard nothing for so long counts on nothing
quiet : (now : ℕ) (j : Joining) (s : Stage) → j.stage ≡ s → has_passed now j.heard 10000 ≡ true
    → counts_on_host (calling_again now j).stage ≡ false
quiet now j s is passed = grind arith

as_heard : (now : ℕ) (hint : Option (Hint × ℕ)) (j : Joining) → (given_up_by now hint j).heard ≡ j.heard
as_heard now hint j = grind arith

pub returns-clause-after : goal.returns-clause-after
returns-clause-after c = λ now j acts e.
    let g = given_up_by now j.hinted j in
    let next = calling_again now g in
    let same = uncalled now j next e in
    let idle = subst (λ (k : Joining). is_due now k ≡ false) same.1 same.0 in
    elim (or_cases (is_due now j) _ acts) [
      | inl due ↦ both_ways (is_due now j) idle due
      | inr other ↦ elim (or_cases (calls_on j.stage && is_hint_over now j.hinted) _ other) [
        | inl hint ↦
            let over = and_parts (calls_on j.stage) (is_hint_over now j.hinted) hint in
            both_ways (calls_on j.stage) (subst (λ (k : Joining). calls_on k.stage ≡ false) same.1
            (ended now j.hinted j over.0 over.1)) over.0
        | inr silence ↦
            let over = and_parts (counts_on_host j.stage) (has_passed now j.heard 10000) silence in
            let passed = ap (λ (time : ℕ). has_passed now time 10000) (as_heard now j.hinted j) ∙ over.1 in
            both_ways (counts_on_host j.stage) (subst (λ (k : Joining). counts_on_host k.stage ≡ false) same.1
            (quiet now g g.stage refl passed)) over.0
      ]
    ]
