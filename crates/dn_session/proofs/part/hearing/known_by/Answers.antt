use Rattle.std.proofs.Common.{ap, ◌∙◌}
use Rattle.dn_session.specs.{Coming.counts_in}
use Rattle.dn_session.proofs.part.hearing.known_by.Goals as goal

pub returns : goal.returns
returns c = λ i. record {
  lines = c.lines_of.ensures i;
  counts = (c.counts_in.ensures ∙ ap counts_in c.lockstep.ensures) i;
}
