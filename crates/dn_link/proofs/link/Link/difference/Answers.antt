use Rattle.std.proofs.Common.{rules, ◌≡◌, ◌-ℤ◌, true, w8, w32, to_z, of_z, ap, ◌∙◌}
use Rattle.dn_lockstep.specs.Contents.{Contents}
use Rattle.dn_link.specs.{declared.line.Line.Line, Line.lead_over, Linking.linked, Pace.tells_lead, Pacing.pace_of}
use Rattle.dn_link.proofs.link.Link.difference.Goals as goal

pub returns-clause-value : goal.returns-clause-value
returns-clause-value c =
    let same : to_z w32 (of_z w32 c.apart.result) ≡ c.apart.result = search rules in
    let near : tells_lead (linked c.args.self.now) (pace_of c.args.self.now) c.args.player ≡ true = search rules in
    let other = c.line.result.now.lead in
    let seen : to_z w8 (of_z w8 c.lead_over.result) ≡ c.lead_over.result = search rules in
    let told : to_z w8 (of_z w8 other) ≡ other = search rules in
    let mine = seen ∙ c.lead_over.ensures ∙ ap (λ (n : Contents). lead_over n c.args.player) c.lockstep.ensures in
    let theirs = told ∙ ap (λ (l : Line). l.lead) c.line.ensures in
    rw near (same ∙ c.apart.ensures.value ∙ (λ i. mine i -ℤ theirs i))
