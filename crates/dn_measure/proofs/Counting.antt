-- The counts of samples, one sample later, and the times between, one later.
use Rattle.std.proofs.Common.{◌≡◌, ◌<◌, ℕ, ◌+◌, min, List, [], ◌∷◌, ◌++◌, length, get_or, set, inl, inr, sym, ap, ◌∙◌, arith, Option, Some, None, subst, ◌-◌, ◌^◌, max, cond, true, false, refl}
use Rattle.std.proofs.{lemmas.Bool.{cases_eq, eq-eqb, ne_eqb, cases_lt, lt-ltb, le-ltb, le-leb, lt-leb}, lemmas.List.{length-set, get_or-set_same, get_or-set_other, ext_get_or}, lemmas.List.Sums.sum_by_push, lemmas.List.Sums.fold_push}
use Rattle.std.specs.Prelude.{◌==◌, count_by, sum, MatchOption}
use Rattle.dn_measure.specs.Histogram.{AreCountsOf, IsPercentile, bin_of, felt_of, IsFelt}
use Rattle.dn_measure.specs.Runs.{times_between, last_after, last_of, gaps_in, longest_of, as_count, is_gap}

-- how many samples are in a bin, one sample later
count_same : (samples : List ℕ) (bin : ℕ)
    → count_by (λ s. s == bin) (samples ++ bin ∷ []) ≡ count_by (λ s. s == bin) samples + 1
count_same samples bin = grind (arith, sum_by_push, eq-eqb)

count_other : (samples : List ℕ) (bin other : ℕ) → (bin ≡ other → ⊥)
    → count_by (λ s. s == bin) (samples ++ other ∷ []) ≡ count_by (λ s. s == bin) samples
count_other samples bin other apart = grind (arith, sum_by_push, ne_eqb)

pub counts_more : (bins : ℕ) (samples counts : List ℕ) (bin : ℕ) → AreCountsOf bins samples counts → bin < bins
    → AreCountsOf bins (samples ++ bin ∷ []) (set counts bin (min (get_or counts bin 0 + 1) 4294967295))
counts_more bins samples counts bin h inside = record {
  full = length-set counts bin _ ∙ h.full;
  each = λ b below. elim (cases_eq b bin) [
    | inl same ↦
        let within : bin < length counts = omega (arith, h.full) in
        let new = get_or-set_same counts bin (min (get_or counts bin 0 + 1) 4294967295) 0 within in
        let old = h.each bin inside in
        let more = count_same samples bin in
        rw same (new ∙ omega arith)
    | inr apart ↦
        let new = get_or-set_other counts bin b (min (get_or counts bin 0 + 1) 4294967295) 0 apart in
        let old = h.each b below in
        let more = count_other samples b bin apart in
        new ∙ old ∙ ap (λ (k : ℕ). min k 4294967295) (sym more)
  ];
}

-- The bins of times, and what their counts tell.
-- each time has a bin of its own
pub bin_kept : (time : ℕ) → min (bin_of time) 1001 ≡ bin_of time
bin_kept time = grind (arith, cases_lt, lt-ltb, le-ltb)

-- the counts of samples are these alone
pub one_table : (bins : ℕ) (samples xs ys : List ℕ)
    → AreCountsOf bins samples xs → AreCountsOf bins samples ys → xs ≡ ys
one_table bins samples xs ys hx hy =
    ext_get_or 0 xs ys (hx.full ∙ sym hy.full)
    (λ i below. hx.each i (subst (λ (n : ℕ). i < n) hx.full below)
    ∙ sym (hy.each i (subst (λ (n : ℕ). i < n) hx.full below)))

-- what a bin stands for
pub felt_is : (share : ℕ) (counts : List ℕ) (found : Option ℕ) → length counts ≡ 1002
    → MatchOption found (sum counts ≡ 0) (λ bin. (0 < sum counts) × IsPercentile share counts bin)
    → IsFelt share counts (felt_of found)
felt_is share counts None all h = h
felt_is share counts (Some bin) all h =
    elim (cases_lt 1000 bin) [
      | inl above ↦
          let test = lt-leb bin 1000 above in
          let there : bin < length counts = h.1.bin_there in
          let last : bin ≡ 1001 = omega arith in
          rw test (h.0, subst (λ (b : ℕ). IsPercentile share counts b) last h.1)
      | inr within ↦ let test = le-leb bin 1000 within in rw test (h.0, within, h.1)
    ]

times_more : (start : ℕ) (ends : List ℕ) (now : ℕ)
    → times_between start (ends ++ now ∷ []) ≡ times_between start ends ++ (now - last_after start ends) ∷ []
times_more start [] now = refl
times_more start (at ∷ ends) now = ap (λ (ts : List ℕ). (at - start) ∷ ts) (times_more at ends now)

pub last_more : (start : ℕ) (ends : List ℕ) (now : ℕ) → last_after start (ends ++ now ∷ []) ≡ now
last_more start [] now = refl
last_more start (at ∷ ends) now = last_more at ends now

-- how many gaps there are, one time later
gaps_more : (start : ℕ) (ends : List ℕ) (now : ℕ)
    → gaps_in (times_between start (ends ++ now ∷ []))
    ≡ gaps_in (times_between start ends) + cond (is_gap (now - last_after start ends)) 1 0
gaps_more start ends now = grind (arith, times_more, sum_by_push)

-- after a gap, and after a shorter time
pub after_gap : (start : ℕ) (ends : List ℕ) (now : ℕ) → is_gap (now - last_after start ends) ≡ true
    → min (as_count (gaps_in (times_between start ends)) + 1) (2 ^ 64 - 1)
    ≡ as_count (gaps_in (times_between start (ends ++ now ∷ [])))
after_gap start ends now long = grind (arith, gaps_more)

pub after_calm : (start : ℕ) (ends : List ℕ) (now : ℕ) → is_gap (now - last_after start ends) ≡ false
    → as_count (gaps_in (times_between start ends))
    ≡ as_count (gaps_in (times_between start (ends ++ now ∷ [])))
after_calm start ends now short = grind (arith, gaps_more)

-- the longest, one time later
pub longest_more : (start : ℕ) (ends : List ℕ) (now : ℕ)
    → longest_of (times_between start (ends ++ now ∷ []))
    ≡ max (longest_of (times_between start ends)) (now - last_after start ends)
longest_more start ends now = grind (arith, times_more, fold_push)

-- one is the last where there is a first, and only there
pub has_first : (ends : List ℕ) (last : ℕ) → Some last ≡ last_of ends
    → (first : ℕ) × (rest : List ℕ) × (ends ≡ first ∷ rest) × (last ≡ last_after first rest)
has_first [] last h = cc
has_first (first ∷ rest) last h = (first, rest, refl, cc)

pub has_none : (ends : List ℕ) → None ≡ last_of ends → ends ≡ []
has_none [] h = refl
has_none (first ∷ rest) h = cc
