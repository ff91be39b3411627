-- What a measure keeps of all that it was told, and what it makes of it.
use Rattle.std.specs.Prelude.{◌≡◌, ℕ, ◌-◌, List, [], ◌∷◌, ◌++◌, length, map, Option}
use Rattle.dn_measure.specs.declared.measure.Told.{Told}
use Rattle.dn_measure.specs.declared.arrivals.Arrivals.{Arrivals}
use Rattle.dn_measure.specs.declared.measure.Measure.{Measure}
use Rattle.dn_measure.specs.declared.measure.Summary.{Summary}
use Rattle.dn_measure.specs.Told.{runs_of, keys_of}
use Rattle.dn_measure.specs.Histogram.{AreCountsOf, bin_of, IsFelt}
use Rattle.dn_measure.specs.Runs.{AreRunsOf, Running, as_count, times_in, gaps_in, longest_of, running}

-- the bins of the times from when each command was built until it was run
abbrev pub samples_of : List Told → List ℕ
samples_of told = map bin_of (keys_of told).times

-- what a measure keeps: when the game began, the tics, when those commands were built that wait to be run, and of
-- each bin how many commands took so long
pub record Measuring : Type 0 where
  pub start : ℕ
  pub runs : Running
  pub waiting : List ℕ
  pub keys : List ℕ

abbrev pub measuring : Measure → Measuring
measuring m =
    record { start = m.start; runs = running m.runs; waiting = m.waiting.items; keys = m.keys }

-- a measure of a game that began at `start` and told this
pub record IsMeasureOf (m : Measure) (start : ℕ) (told : List Told) : Type 0 where
  pub start_at : (measuring m).start ≡ start
  pub runs : AreRunsOf (runs_of told) (measuring m).runs
  pub waiting : (measuring m).waiting ≡ (keys_of told).waiting
  pub keys : AreCountsOf 1002 (samples_of told) (measuring m).keys

-- the times between tics, from the first on, with the one from the last until now
abbrev pub waits_of : List Told → ℕ → List ℕ
waits_of told now = times_in (runs_of told ++ now ∷ [])

-- what was measured until now of a game that began at `start` and told this
pub record IsSummaryOf (start : ℕ) (told : List Told) (now rate : ℕ) (peers : List (Option Arrivals))
    (s : Summary) : Type 0 where
  pub rate_is : s.rate ≡ rate
  pub tics : s.tics ≡ as_count (length (runs_of told))
  pub micros : s.micros ≡ now - start
  pub gaps : s.gaps ≡ as_count (gaps_in (waits_of told now))
  pub longest : s.longest ≡ longest_of (waits_of told now)
  pub half : (counts : List ℕ) → AreCountsOf 1002 (samples_of told) counts → IsFelt 50 counts s.half
  pub most : (counts : List ℕ) → AreCountsOf 1002 (samples_of told) counts → IsFelt 95 counts s.most
  pub peers_are : s.peers ≡ peers
