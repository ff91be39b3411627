use Rattle.std.proofs.Common.{◌∙◌, slice_index, slice_index_or, false}
use Rattle.dn_link.specs.{Congestion.ticked, Pacing.pace_of}
use Rattle.dn_link.proofs.link.Link.time.Goals as goal

pub returns-clause-pace : goal.returns-clause-pace
returns-clause-pace c =
    let old = pace_of c.args.self.now in
    c.time.ensures ∙ (λ i. record old {
      congestion = ticked (c.made-made.ensures i) (λ p. slice_index_or (c.plays-plays.ensures i) p false)
          (slice_index (c.reports_of_each-reported.ensures i)) old.congestion;
    })
