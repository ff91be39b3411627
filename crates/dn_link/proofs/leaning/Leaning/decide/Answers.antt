use Rattle.std.proofs.Common.{rules, ◌≡◌, w32, to_z, of_z, pos, ap, ◌∙◌}
use Rattle.dn_link.specs.Leaning.{rest_for, trims, worth}
use Rattle.dn_link.specs.Pacing.{trim_state}
use Rattle.dn_link.proofs.leaning.Leaning.decide.Goals as goal

pub returns : goal.returns
returns c =
    let offset : to_z w32 (of_z w32 c.args.offset) ≡ c.args.offset = search rules in
    let kept : to_z w32 (of_z w32 c.worth-self.result) ≡ c.worth-self.result = search rules in
    let again : to_z w32 (of_z w32 (to_z w32 (of_z w32 c.worth-self.result))) ≡ c.worth-self.result = search rules in
    let found = c.worth-self.ensures.value ∙ ap worth offset in
    let trimmed = c.decide.ensures ∙ (λ i. trims (offset i) (trim_state c.args.self.now.trim)) in
    λ i. record {
      rest = (c.rest_for-self.ensures ∙ ap rest_for (again ∙ found)) i;
      looked = 0;
      sum = pos 0;
      left = (kept ∙ found) i;
      trim = trimmed i;
    }
