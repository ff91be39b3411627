use Rattle.std.proofs.{Common.{◌≡◌, ◌<◌, ◌-◌, ℕ, List, ◌++◌, [], ◌∷◌, length, take, drop, min, sym, ap, ◌∙◌, subst, arith}, lemmas.Bool.Decides.nat_tests, lemmas.List.nil_from_length}
use Rattle.dn_measure.specs.{declared.measure.Told.TheVariants.Ran, Told.{Keys, keys_of}, Histogram.bin_of, Histogram.AreCountsOf, Measure.samples_of, Runs.{AreRunsOf, running}}
use Rattle.dn_measure.proofs.{Telling.{runs_ran, ran_one, ran_none, sample_more, first_of}, Counting.bin_kept}
use Rattle.dn_measure.proofs.measure.Measure.run.Goals as goal

pub returns-then-not-is_empty : goal.returns-then-not-is_empty
returns-then-not-is_empty c = λ start told h.
    let items : List ℕ = c.args.self.now.waiting.items in
    let some : 0 < length items = grind (arith, nat_tests) in
    let split = first_of items c.remove-built.result some c.remove-built.ensures.value in
    let keys = ran_one told c.args.now c.remove-built.result (take 0 items ++ drop 1 items)
    (sym h.waiting ∙ split) in
    let time : ℕ = c.args.now - c.remove-built.result in
    let bin : min c.bin_of.result (1002 - 1) ≡ bin_of time =
    ap (λ (b : ℕ). min b 1001) (c.bin_of.ensures ∙ ap bin_of c.saturating_sub.ensures) ∙ bin_kept time in
    let samples : samples_of told ++ min c.bin_of.result (1002 - 1) ∷ []
    ≡ samples_of (told ++ Ran c.args.now ∷ []) =
    ap (λ (b : ℕ). samples_of told ++ b ∷ []) bin
    ∙ sym (sample_more (keys_of told) (keys_of (told ++ Ran c.args.now ∷ [])) time
    (ap (λ (k : Keys). k.times) keys)) in
    record {
      start_at = h.start_at;
      runs = subst (λ (rs : List ℕ). AreRunsOf rs (running c.add.new.self)) (sym (runs_ran told c.args.now))
          (c.add.ensures _ h.runs);
      waiting = c.remove-built.ensures.items ∙ sym (ap (λ (k : Keys). k.waiting) keys);
      keys = subst (λ (xs : List ℕ). AreCountsOf 1002 xs c.add-then-not-is_empty.new.self) samples
          (c.add-then-not-is_empty.ensures (samples_of told) h.keys);
    }

pub returns-else-not-is_empty : goal.returns-else-not-is_empty
returns-else-not-is_empty c = grind (arith, nil_from_length, nat_tests, ran_none, runs_ran)
