use Rattle.std.proofs.Common.{rules, ◌≡◌, ◌-ℤ◌, w32, to_z, of_z, ap, ◌∙◌}
use Rattle.dn_link.specs.Leaning.{work_of}
use Rattle.dn_link.proofs.leaning.Leaning.step.Goals as goal

pub returns-clause-next : goal.returns-clause-next
returns-clause-next c =
    let left = c.args.self.now.left in
    let read : to_z w32 (of_z w32 left) ≡ left = search rules in
    let work : to_z w32 (of_z w32 c.work-work.result) ≡ c.work-work.result = search rules in
    let worked = work ∙ c.work-work.ensures.value ∙ ap work_of read in
    let less : to_z w32 (of_z w32 left) -ℤ to_z w32 (of_z w32 c.work-work.result) ≡ left -ℤ work_of left =
    (λ i. read i -ℤ worked i) in
    let kept : to_z w32 (of_z w32 (to_z w32 (of_z w32 left) -ℤ to_z w32 (of_z w32 c.work-work.result)))
    ≡ to_z w32 (of_z w32 left) -ℤ to_z w32 (of_z w32 c.work-work.result) = search rules in
    λ i. record {
      rest = c.args.self.now.rest;
      looked = c.args.self.now.looked;
      sum = c.args.self.now.sum;
      left = (kept ∙ less) i;
      trim = c.tick.ensures.next i;
    }
