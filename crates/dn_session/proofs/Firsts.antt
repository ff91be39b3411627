-- The first of four players of which something is so.
use Rattle.std.proofs.Common.{◌≡◌, ◌<◌, ℕ, get_or, arith, Some, Bool, true}
use Rattle.std.proofs.{lemmas.Bool.cases_lt, lemmas.Bool.le-ltb, lemmas.Bool.lt-ltb, lemmas.List.Sums.passes_at_first, lemmas.Option.none-some, lemmas.Option.same_Some}
use Rattle.std.specs.Prelude.{position, option_map}
use Rattle.dn_session.specs.Players.{four}

its_place : (n : ℕ) → n < 4 → get_or four n 0 ≡ n
its_place n less = grind arith

pub first_passes : (p : ℕ → Bool) (n : ℕ) → position p four ≡ Some n → p n ≡ true
first_passes p n is = grind (arith, cases_lt, lt-ltb, same_Some, passes_at_first, its_place, le-ltb, none-some)

-- and of those that they are counted as
pub first_counted_passes : (p : ℕ → Bool) (f : ℕ → ℕ) (n : ℕ) → option_map f (position (λ k. p (f k)) four) ≡ Some n
    → p n ≡ true
first_counted_passes p f n is = grind (arith, first_passes)
