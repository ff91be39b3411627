use Rattle.std.proofs.Common.{◌-◌, ℕ, List, ap, ◌∙◌, subst, refl}
use Rattle.dn_measure.specs.{Histogram.IsFelt, Measure.samples_of, Told.runs_of}
use Rattle.dn_measure.proofs.Counting.{one_table, felt_is}
use Rattle.dn_measure.proofs.measure.Measure.summary.Goals as goal

pub returns : goal.returns
returns c = λ start told h.
    let waits = c.wait_until.ensures.waits (runs_of told) h.runs.waits in
    record {
      rate_is = refl;
      tics = c.wait_until.ensures.count ∙ h.runs.count;
      micros = c.saturating_sub.ensures ∙ ap (λ (from : ℕ). c.args.now - from) h.start_at;
      gaps = waits.gaps;
      longest = waits.longest;
      half = λ counts same.
          let one = one_table 1002 (samples_of told) c.args.self.now.keys counts h.keys same in
          let felt = felt_is 50 c.args.self.now.keys c.percentile.result h.keys.full c.percentile.ensures in
          let is : IsFelt 50 c.args.self.now.keys c.felt_of.result = rw c.felt_of.ensures felt in
          subst (λ (xs : List ℕ). IsFelt 50 xs c.felt_of.result) one is;
      most = λ counts same.
          let one = one_table 1002 (samples_of told) c.args.self.now.keys counts h.keys same in
          let felt = felt_is 95 c.args.self.now.keys c.percentile-2.result h.keys.full c.percentile-2.ensures in
          let is : IsFelt 95 c.args.self.now.keys c.felt_of-2.result = rw c.felt_of-2.ensures felt in
          subst (λ (xs : List ℕ). IsFelt 95 xs c.felt_of-2.result) one is;
      peers_are = refl;
    }
