use Rattle.std.proofs.{Common.◌≡◌, Common.◌++◌, Common.◌∷◌, Common.◌∙◌, Common.ap, Common.rules, Common.arith, Common.ℕ, Common.List, Common.length, lemmas.List.length-append}
use Rattle.dn_link.specs.Text.{parts_bytes}
use Rattle.dn_link.proofs.Items.{part_fits, one_more}
use Rattle.dn_link.proofs.writing.append_parts.Goals as goal

pub append-requires-in-Some : goal.append-requires-in-Some
append-requires-in-Some c =
    let split : c.parts.rest.now ≡ c.in-Some.part.now ∷ c.in-Some.after.now = search rules in
    let both = length-append c.args.bytes.now.items (parts_bytes c.args.parts.now) in
    let fits = part_fits c.parts.bytes.items _ c.parts.rest.now c.in-Some.part.now c.in-Some.after.now split
    c.parts.invariant (omega (arith, both, c.requires.room)) in
    let size = ap (length {A = ℕ}) (c.as_slice.ensures.value ∙ c.part_bytes.ensures) in
    omega (arith, fits, size)

pub parts-preserved : goal.parts-preserved
parts-preserved c =
    let split : c.parts.rest.now ≡ c.in-Some.part.now ∷ c.in-Some.after.now = search rules in
    one_more c.parts.bytes.items _ c.parts.rest.now c.in-Some.part.now c.in-Some.after.now split
    c.parts.invariant _ (c.append-in-Some.ensures
    ∙ ap (λ (xs : List ℕ). c.parts.bytes.items ++ xs) (c.as_slice.ensures.value ∙ c.part_bytes.ensures))
