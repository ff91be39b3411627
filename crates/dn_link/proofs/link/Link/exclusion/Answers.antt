use Rattle.std.proofs.Common.{ap, ◌∙◌}
use Rattle.std.specs.Prelude.{pos}
use Rattle.dn_lockstep.specs.Contents.{Contents}
use Rattle.dn_link.specs.{Counting.counts_of}
use Rattle.dn_link.proofs.link.Link.exclusion.Goals as goal

pub returns-clause-is : goal.returns-clause-is
returns-clause-is c =
    let counts = c.counts_of.ensures ∙ ap (λ (n : Contents). counts_of n 0) c.lockstep.ensures in
    λ i. record {
      from = c.me.ensures i;
      to = c.args.to;
      number = 0;
      lead = pos 0;
      holes = 0;
      cause = 4;
      counts = counts i;
      report = record { items = c.new.ensures i };
      parts = record { items = c.new-2.ensures i };
    }
