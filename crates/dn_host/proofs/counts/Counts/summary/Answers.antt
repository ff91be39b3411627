use Rattle.std.proofs.Common.{List, Option, ap, ◌∙◌, subst}
use Rattle.dn_link.specs.declared.tally.Figures.{Figures}
use Rattle.dn_measure.specs.{declared.arrivals.Arrivals.Arrivals, Measure.IsSummaryOf}
use Rattle.dn_host.specs.Arrived.{came_of_each}
use Rattle.dn_host.proofs.counts.Counts.summary.Goals as goal

pub returns : goal.returns
returns c = λ start told h.
    subst (λ (peers : List (Option Arrivals)). IsSummaryOf start told c.args.now c.args.rate peers c.summary.result)
    (c.came_of_each-peers.ensures
    ∙ ap (λ (lines : List (Option Figures)). came_of_each lines c.args.self.now.late) c.lines_of.ensures)
    (c.summary.ensures start told h)
