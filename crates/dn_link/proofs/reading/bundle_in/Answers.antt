use Rattle.std.proofs.{Common.{◌≡◌, ◌≤◌, ◌+◌, ◌-◌, ◌++◌, ℕ, drop, take, ap, sym, ◌∙◌, refl, arith, rules}, lemmas.List.take_rest}
use Rattle.std.specs.{Prelude.slice_index, Option.option_map}
use Rattle.arrayvec.specs.ArrayVec.{ArrayVec}
use Rattle.dn_link.specs.{declared.bundle.Part.Part, Told.{report_size, told_counts, told_parts}}
use Rattle.dn_link.proofs.Wholes.{no_cause, all_told, signed}
use Rattle.dn_link.proofs.reading.bundle_in.Goals as goal

pub returns-then-body-gt-MOST_CAUSE : goal.returns-then-body-gt-MOST_CAUSE
returns-then-body-gt-MOST_CAUSE c = no_cause c.args.body.now (search rules)

pub returns : goal.returns
returns c =
    let body = c.args.body.now in
    let size = c.report_size-size.result in
    let same = c.report_size-size.ensures in
    let few : slice_index body 18 ≤ 5 = search rules in
    let low : size ≤ 397 = search rules in
    let cut : 45 + size - 45 ≡ size = omega arith in
    let report : c.append.new.bytes.items ≡ take (report_size body) (drop 45 body) =
    c.append.ensures ∙ (λ i. c.new-report.ensures i ++ take ((cut ∙ same) i) (drop 45 body)) in
    all_told body _ few (omega (arith, same, low)) (sym (c.parts_in.ensures
    ∙ ap told_parts (take_rest body (45 + size) ∙ ap (λ (n : ℕ). drop (45 + n) body) same))
    ∙ ap (option_map (λ (found : ArrayVec Part). found.items)) c.in_ok-parts.was)
    refl refl c.tic_at.ensures (signed body _ _ (omega (arith, c.type_inv.body 16)) c.cast_signed.ensures) refl refl
    (c.counts_in.ensures ∙ ap told_counts (take_rest body 19)) report
