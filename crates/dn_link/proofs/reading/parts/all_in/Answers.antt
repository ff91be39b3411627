use Rattle.std.proofs.{Common.{◌≡◌, length, ap, sym, ◌∙◌, arith, Some}, lemmas.List.{take_rest, length_push}}
use Rattle.std.proofs.Common.{ℕ}
use Rattle.dn_link.specs.{declared.bundle.Part.Part, Told.told_part}
use Rattle.dn_link.proofs.Wholes.{begins, goes_on_to, fails}
use Rattle.dn_link.proofs.reading.parts.all_in.Goals as goal

pub parts-init : goal.parts-init
parts-init c = record { so_far = begins c.args.count c.args.bytes.now c.new-found.result.items c.new-found.ensures; many = ap (length {A = Part}) c.new-found.ensures }

pub parts-preserved : goal.parts-preserved
parts-preserved c =
    let rest = c.parts.rest.now in
    let at : told_part rest ≡ Some c.in-Some.part = sym c.part_in.ensures.told ∙ c.in-Some.is in
    record {
      so_far = goes_on_to c.args.count c.args.bytes.now c.parts.done rest c.parts.found.items c.in-Some.part
          c.len.result _ _ c.parts-test.true c.parts.invariant.so_far at
          (c.len.ensures.value ∙ ap (length {A = ℕ}) c.part_bytes.ensures)
          (take_rest rest c.len.result) c.push.ensures.items;
      many = omega (
        arith,
        ap (length {A = Part}) c.push.ensures.items,
        length_push c.parts.found.items c.in-Some.part,
        c.parts.invariant.many,
      );
    }

pub returns-in_default : goal.returns-in_default
returns-in_default c =
    sym (fails c.args.count c.args.bytes.now c.parts.done c.parts.rest.now c.parts.found.items
    c.parts-test.true c.parts.invariant.so_far (sym c.part_in.ensures.told ∙ c.in_default.is))
