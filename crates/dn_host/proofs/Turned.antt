-- What is done again and again, and what is played.
use Rattle.std.proofs.Common.{◌≡◌, ◌<◌, ◌≤◌, ◌+◌, ◌-◌, ℕ, suc, Bool, true, false, Result, Ok, Err, inl, inr, refl, sym, subst, arith, ◌∙◌}
use Rattle.std.specs.Prelude.{◌⊎◌, IfErr, IfOk}
use Rattle.dn_host.specs.{declared.ends.HostFault.HostFault, declared.ends.Outcome.Outcome, Turns.Repeats}
use Rattle.dn_host.specs.declared.ends.HostFault.TheVariants as fault

-- a fault of turns is none of the terms
no_terms : (f : HostFault) → (f ≡ fault.Memory) ⊎ (f ≡ fault.Clock) → f ≡ fault.Terms → ⊥
no_terms f (inl memory) same = let wrong : fault.Memory ≡ fault.Terms = sym memory ∙ same in cc
no_terms f (inr clock) same = let wrong : fault.Clock ≡ fault.Terms = sym clock ∙ same in cc

pub refused : (Offers : Type 0) (r : Result Outcome HostFault)
    → IfErr r (λ f. (f ≡ fault.Memory) ⊎ (f ≡ fault.Clock)) → IfErr r (λ f. f ≡ fault.Terms → Offers)
refused Offers (Ok o) is = tt
refused Offers (Err f) is = λ same. absurd (no_terms f is same)

-- what holds of a result holds of more
pub mapped : {A E : Type 0} (P Q : A → Type 0) → ((a : A) → P a → Q a) → (r : Result A E) → IfOk r P → IfOk r Q
mapped P Q f (Ok a) p = f a p
mapped P Q f (Err e) p = tt

-- so many of the most are done, and it is done once more, or not, or no more

one_more : (most done : ℕ) → done < most → most - done ≡ suc (most - (done + 1))
one_more most done below = omega (arith, below)

no_more : (most done : ℕ) → most ≤ done → most - done ≡ 0
no_more most done reached = omega (arith, reached)

module _ {A B : Type 0} (Does : A → B → Bool → A → B → Type 0) (most done : ℕ) (a : A) (k : B) where
  nothing : Repeats Does 0 a k a k true
  unfolding Repeats
  nothing = (refl, refl, refl)

  last : (n : ℕ) (b : A) (l : B) → Does a k false b l → Repeats Does (suc n) a k b l false
  unfolding Repeats
  last n b l does = inl (does, refl)

  first : (n : ℕ) (c : A) (m : B) (b : A) (l : B) (all : Bool) → Does a k true c m → Repeats Does n c m b l all
      → Repeats Does (suc n) a k b l all
  unfolding Repeats
  first n c m b l all does rest = inr (c, m, does, rest)

  pub all_done : most ≤ done → Repeats Does (most - done) a k a k true
  all_done reached = subst (λ (n : ℕ). Repeats Does n a k a k true) (sym (no_more most done reached)) nothing

  pub not_done : (did : Bool) (b : A) (l : B) → done < most → did ≡ false → Does a k did b l
      → Repeats Does (most - done) a k b l false
  not_done did b l below is does = subst (λ (n : ℕ). Repeats Does n a k b l false) (sym (one_more most done below))
      (last (most - (done + 1)) b l (subst (λ (t : Bool). Does a k t b l) is does))

  pub done_again : (did : Bool) (c : A) (m : B) → done < most → did ≡ true → Does a k did c m
      → (b : A) (l : B) (all : Bool) → Repeats Does (most - (done + 1)) c m b l all → Repeats Does (most - done) a k b l all
  done_again did c m below is does b l all rest = subst (λ (n : ℕ). Repeats Does n a k b l all)
      (sym (one_more most done below))
      (first (most - (done + 1)) c m b l all (subst (λ (t : Bool). Does a k t c m) is does) rest)
