use Rattle.std.proofs.Common.{◌∙◌, ap}
use Rattle.dn_link.specs.Linking.{linked}
use Rattle.zirmegat.specs.Rows.{next_of_four}
use Rattle.zirmegat.proofs.session_run.next_of.Goals as goal

pub returns : goal.returns
returns c = c.next_of_four.ensures
    ∙ ap next_of_four (c.lockstep.ensures ∙ ap (λ l. (linked l).node) c.link.ensures)
