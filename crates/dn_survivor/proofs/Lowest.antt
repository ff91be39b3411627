-- The lowest number that passes a test, and the largest of some numbers.
use Rattle.std.proofs.Common.{◌≡◌, ◌<◌, ◌+◌, ℕ, zero, suc, refl, ap, sym, ◌∙◌, arith, inl, inr, Option, Some, None, Bool, true, false, not, ◌⊎◌, ◌≤◌, IfSome, is_some, ◌&&◌, max}
use Rattle.std.proofs.lemmas.Bool.{both_ways, cases_Bool, true≢false, cases_eq, cases_lt, lt-ltb, le-ltb}
use Rattle.std.proofs.Math.Nat.{max-eq_left, max-eq_right}
use Rattle.dn_machine.specs.Node.{lowest}
use Rattle.dn_remain.specs.Vanished.{Calls.every, Node.highest}
use Rattle.dn_remain.proofs.Vanished.{Tests.every_at, Put.{highest_bounds, highest_reached}}
use Rattle.dn_lockstep.proofs.Lowest.{lowest_found}
use Rattle.dn_survivor.specs.OfOthers.{largest_at}

pub lowest_none : (bound : ℕ) (test : ℕ → Bool) → ((p : ℕ) → p < bound → test p ≡ false) → lowest bound test ≡ None
unfolding lowest
lowest_none zero test none = refl
lowest_none (suc bound) test none =
    let before = lowest_none bound test (λ p h. none p (omega (arith, h))) in
    let here = none bound (omega arith) in
    rw (before, here) refl

-- one more that fails
pub fails_next : (n : ℕ) (test : ℕ → Bool) → ((p : ℕ) → p < n → test p ≡ false) → test n ≡ false
    → (p : ℕ) → p < n + 1 → test p ≡ false
fails_next n test before here p low = grind arith

-- who fails a test first, if anybody does
pub first_fails : (n : ℕ) (test : ℕ → Bool) (found : Option ℕ)
    → IfSome found (λ p. (p < n) × (test p ≡ false) × ((lower : ℕ) → lower < p → test lower ≡ true))
    → (found ≡ None → every n test ≡ true) → found ≡ lowest n (λ p. not (test p))
first_fails n test None lacks none =
    sym (lowest_none n (λ p. not (test p)) (λ p h. ap not (every_at n test p (none refl) h)))
first_fails n test (Some p) lacks none =
    sym (lowest_found n p (λ q. not (test q)) lacks.0
    (lowest_none p (λ q. not (test q)) (λ q h. ap not (lacks.2 q h))) (ap not lacks.1))

-- Tests of each player below a number, one player after the other.

-- of nobody anything holds
pub nobody : (test : ℕ → Bool) → every 0 test ≡ true
unfolding every
nobody test = refl

-- all pass
pub every_from : (n : ℕ) (test : ℕ → Bool) → ((i : ℕ) → i < n → test i ≡ true) → every n test ≡ true
unfolding every
every_from zero test all = refl
every_from (suc n) test all =
    ap (λ (x : Bool). x && test n) (every_from n test (λ i below. all i (omega (arith, below))))
    ∙ all n (omega arith)

-- the next one passes too
pub every_more : (n m : ℕ) (test : ℕ → Bool) → m ≡ n + 1 → every n test ≡ true → test n ≡ true → every m test ≡ true
unfolding every
every_more n m test is before next = grind arith

-- one fails
pub every_false : (n i : ℕ) (test : ℕ → Bool) → i < n → test i ≡ false → every n test ≡ false
every_false n i test below fails = elim (cases_Bool (every n test)) [
  | inl all ↦ absurd (both_ways (test i) fails (every_at n test i all below))
  | inr none ↦ none
]

-- who fails a test first, if anybody does, tells whether all pass
pub all_pass : (n : ℕ) (test : ℕ → Bool) (found : Option ℕ) (answer : Bool)
    → IfSome found (λ p. (p < n) × (test p ≡ false) × ((lower : ℕ) → lower < p → test lower ≡ true))
    → (found ≡ None → every n test ≡ true) → is_some found ≡ not answer → answer ≡ every n test
all_pass n test None true lacks none e = sym (none refl)
all_pass n test None false lacks none e = absurd (true≢false (sym e))
all_pass n test (Some p) true lacks none e = absurd (true≢false e)
all_pass n test (Some p) false lacks none e = sym (every_false n p test lacks.0 lacks.1)

-- The largest of some numbers, and where it is.

-- of no numbers it is 0
pub no_numbers : (f : ℕ → ℕ) → highest 0 f ≡ 0
unfolding highest
no_numbers f = refl

-- and one number more
pub highest_more : (n m : ℕ) (f : ℕ → ℕ) → m ≡ n + 1 → highest m f ≡ max (highest n f) (f n)
unfolding highest
highest_more n m f is = let e : m ≡ suc n = omega (arith, is) in ap (λ (k : ℕ). highest k f) e

-- of no numbers it is at 0
pub no_largest : (f : ℕ → ℕ) → largest_at 0 f ≡ 0
unfolding largest_at
no_largest f = refl

-- of one number more it is there, if it is larger than all before
largest_last : (n m : ℕ) (f : ℕ → ℕ) → m ≡ n + 1 → f (largest_at n f) < f n → largest_at m f ≡ n
unfolding largest_at
largest_last n m f is more = grind (arith, lt-ltb)

-- and else where it was
largest_stays : (n m : ℕ) (f : ℕ → ℕ) → m ≡ n + 1 → f n ≤ f (largest_at n f) → largest_at m f ≡ largest_at n f
unfolding largest_at
largest_stays n m f is most = grind (arith, le-ltb)

-- by the numbers where it was and of the last
pub largest_of_both : (n m at one last : ℕ) (f : ℕ → ℕ) → m ≡ n + 1 → at ≡ largest_at n f → one ≡ f at → last ≡ f n
    → ((one < last) × (largest_at m f ≡ n)) ⊎ ((last ≤ one) × (largest_at m f ≡ at))
largest_of_both n m at one last f is there here next = grind (arith, largest_last, largest_stays)

-- it is one of them, and none is larger
pub largest_is : (n : ℕ) (f : ℕ → ℕ) → 0 < n → (largest_at n f < n) × ((i : ℕ) → i < n → f i ≤ f (largest_at n f))
largest_is zero f some = absurd (omega (arith, some))
largest_is (suc zero) f some = elim (largest_of_both 0 1 0 (f 0) (f 0) f refl (sym (no_largest f)) refl refl) [
  | inl more ↦ absurd (omega (arith, more.0))
  | inr most ↦ grind arith
]
largest_is (suc (suc n)) f some =
    let before = largest_is (suc n) f (omega arith) in
    let at : ℕ = largest_at (suc n) f in
    elim (largest_of_both (suc n) (suc (suc n)) at (f at) (f (suc n)) f (omega arith) refl refl refl) [
      | inl more ↦ grind arith
      | inr most ↦ grind arith
    ]

-- numbers that differ at one place alone, where the one has this and the other none
pub highest_of_two : (n me own : ℕ) (f g : ℕ → ℕ) → me < n → f me ≡ own → g me ≡ 0
    → ((i : ℕ) → i < n → (i ≡ me → ⊥) → f i ≡ g i) → highest n f ≡ max own (g (largest_at n g))
highest_of_two n me own f g below here none same =
    let at : ℕ = largest_at n g in
    let is = largest_is n g (omega (arith, below)) in
    let top = highest_reached n f (omega (arith, below)) in
    let over : own ≤ highest n f = omega (arith, highest_bounds n f me below, here) in
    let under : g at ≤ highest n f = elim (cases_eq at me) [
      | inl e ↦ omega (arith, ap g e, none)
      | inr other ↦ omega (arith, highest_bounds n f at is.0, same at is.0 other)
    ] in
    let reached : (highest n f ≤ own) ⊎ (highest n f ≤ g at) = grind arith in
    grind (arith, cases_lt, max-eq_right, max-eq_left)
