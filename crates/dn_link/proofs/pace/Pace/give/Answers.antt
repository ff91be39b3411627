use Rattle.std.proofs.{Common.{rules, ◌≡◌, length, ap, ◌∙◌, false, true, arith}}
use Rattle.dn_machine.specs.Node.{put}
use Rattle.dn_link.specs.Pacing.{state_of}
use Rattle.dn_link.proofs.Places.{place_put}
use Rattle.dn_link.proofs.pace.Pace.give.Goals as goal

pub returns : goal.returns
returns c =
    let mine = c.args.self.now in
    let old = state_of mine in
    let four : length mine.given ≡ 4 = search rules in
    let counts : length mine.briefs ≡ 4 = search rules in
    let given = place_put false mine.given c.args.to true (omega (arith, four, c.requires)) in
    let briefs = place_put 2 mine.briefs c.args.to c.briefs_after.result (omega (arith, counts, c.requires))
    ∙ ap (put old.briefs c.args.to) c.briefs_after.ensures in
    λ i. record old { given = given i; briefs = briefs i }
