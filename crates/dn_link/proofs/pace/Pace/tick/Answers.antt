use Rattle.std.proofs.{Common.{◌∙◌, rules, w32}, lemmas.Int.to_z-of_z}
use Rattle.std.specs.Prelude.{FitsSigned}
use Rattle.dn_link.specs.Leaning.{looks, stretches, worked_off}
use Rattle.dn_link.proofs.Places.{none_given}
use Rattle.dn_link.proofs.pace.Pace.tick.Goals as goal

pub returns-clause-next : goal.returns-clause-next
returns-clause-next c =
    let seen = c.see_leads.ensures in
    let fits : FitsSigned w32 c.args.differences = search rules in
    let leaning = c.tick-lean.ensures.next
    ∙ (λ i. worked_off (looks (to_z-of_z w32 c.args.differences fits i) c.args.playing (seen i).leaning)) in
    let stretching = c.tick.ensures.next ∙ (λ i. stretches c.args.lossy (seen i).stretching) in
    λ i. record (seen i) { given = none_given i; leaning = leaning i; stretching = stretching i }
