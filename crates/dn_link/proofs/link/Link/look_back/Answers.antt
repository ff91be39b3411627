use Rattle.std.proofs.Common.{◌∷◌, ap, ◌∙◌, take}
use Rattle.dn_link.specs.{Counting.held_of, Linking.overdue_of}
use Rattle.dn_link.proofs.link.Link.look_back.Goals as goal

pub returns-clause-history : goal.returns-clause-history
returns-clause-history c =
    c.tick.ensures ∙ (λ i. record { counts = (c.held_of-counts.ensures ∙ ap held_of c.lockstep.ensures) i }
    ∷ take 31 (overdue_of c.args.self.now).history.ticks.items)
