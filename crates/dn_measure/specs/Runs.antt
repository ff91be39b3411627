-- The tics that were run, the times between them, and how many there were a second.
use Rattle.std.specs.Prelude.{◌≡◌, ℕ, ◌-◌, ◌^◌, min, max, Bool, List, [], ◌∷◌, length, fold, count_by, nat_lt, Option, Some, None, ◌*◌, ◌/◌, ◌==◌, if◌then◌else◌}
use Rattle.dn_measure.specs.declared.runs.Runs.{Runs}
use Rattle.dn_measure.specs.Thresholds.{longest_calm}

-- a count stops at the largest number of 64 bits
abbrev pub as_count : ℕ → ℕ
as_count n = min n (2 ^ 64 - 1)

-- the times from each to the next, the first from `before` on
abbrev pub times_between : ℕ → List ℕ → List ℕ
times_between before [] = []
times_between before (at ∷ ends) = (at - before) ∷ times_between at ends

-- when the last was, or `before` if there was none
abbrev pub last_after : ℕ → List ℕ → ℕ
last_after before [] = before
last_after before (at ∷ ends) = last_after at ends

abbrev pub is_gap : ℕ → Bool
is_gap time = nat_lt longest_calm time

abbrev pub gaps_in : List ℕ → ℕ
gaps_in times = count_by is_gap times

abbrev pub longest_of : List ℕ → ℕ
longest_of times = fold max 0 times

-- the times from each to the next: before the first there is none
abbrev pub times_in : List ℕ → List ℕ
times_in [] = []
times_in (first ∷ ends) = times_between first ends

-- when the last was, if there was one
abbrev pub last_of : List ℕ → Option ℕ
last_of [] = None
last_of (first ∷ ends) = Some (last_after first ends)

-- what is kept of tics: how many were run, when the last was, how many of the times between were gaps, and the
-- longest of these
pub record Running : Type 0 where
  pub count : ℕ
  pub last : Option ℕ
  pub gaps : ℕ
  pub longest : ℕ

abbrev pub running : Runs → Running
running runs =
    record { count = runs.count; last = runs.last; gaps = runs.gaps; longest = runs.longest }

-- what is kept of the times from each of these to the next
pub record AreWaitsOf (ends : List ℕ) (r : Running) : Type 0 where
  pub last : r.last ≡ last_of ends
  pub gaps : r.gaps ≡ as_count (gaps_in (times_in ends))
  pub longest : r.longest ≡ longest_of (times_in ends)

-- what is kept of tics that were run at these times
pub record AreRunsOf (runs : List ℕ) (r : Running) : Type 0 where
  pub count : r.count ≡ as_count (length runs)
  pub waits : AreWaitsOf runs r

-- how many tenths of a tic were run in each second, on average; a part of a tenth does not count
abbrev pub tenths_a_second : (tics micros : ℕ) → ℕ
tenths_a_second tics micros = if micros == 0 then 0 else 10000000 * tics / micros
