-- The counts of samples by bins, and how soon keys are felt.
use Rattle.std.specs.Prelude.{◌≡◌, ◌≤◌, ◌<◌, ℕ, ◌+◌, ◌-◌, ◌*◌, ◌^◌, ◌==◌, min, List, length, sum, take, count_by, slice_index, ◌/◌, nat_lt, nat_le, if◌then◌else◌, Option, Some, None}
use Rattle.dn_measure.specs.declared.felt.Felt.{Felt}
use Rattle.dn_measure.specs.declared.felt.Felt.TheVariants.{Never, Within, Longer}

-- of each bin, how many samples are in it, as far as 32 bits count
pub record AreCountsOf (bins : ℕ) (samples counts : List ℕ) : Type 0 where
  pub full : length counts ≡ bins
  pub each : (bin : ℕ) → bin < bins
      → slice_index counts bin ≡ min (count_by (λ sample. sample == bin) samples) (2 ^ 32 - 1)

-- how many samples are in a bin or in one below it
abbrev pub at_most : List ℕ → ℕ → ℕ
at_most counts bin = sum (take (bin + 1) counts)

-- the least bin such that so many of a hundred of all samples are in it or in one below it
pub record IsPercentile (share : ℕ) (counts : List ℕ) (bin : ℕ) : Type 0 where
  pub bin_there : bin < length counts
  pub reached : share * sum counts ≤ 100 * at_most counts bin
  pub least : (below : ℕ) → below < bin → 100 * at_most counts below < share * sum counts

-- the milliseconds of a time, where a part of one counts as a whole one; all above 1,000 are in one bin
abbrev pub bin_of : ℕ → ℕ
bin_of micros = if nat_lt 1000000 micros then 1001 else (micros + 999) / 1000

abbrev pub felt_in : ℕ → Felt
felt_in bin = if nat_le bin 1000 then Within bin else Longer

abbrev pub felt_of : Option ℕ → Felt
felt_of None = Never
felt_of (Some bin) = felt_in bin

-- so many of a hundred of the samples with these counts are within that time
abbrev pub IsFelt : ℕ → List ℕ → Felt → Type 0
IsFelt share counts Never = sum counts ≡ 0
IsFelt share counts (Within time) = (0 < sum counts) × (time ≤ 1000) × IsPercentile share counts time
IsFelt share counts Longer = (0 < sum counts) × IsPercentile share counts 1001
