use Rattle.std.proofs.Common.{rules, arith, ◌≡◌, ◌<◌, ◌+◌, ◌/◌, ◌++◌, ◌∙◌, ap, subst, take, drop, length, ℕ}
use Rattle.std.proofs.{Math.ListN.set, lemmas.List.length-set}
use Rattle.std.specs.Prelude.{slice_index}
use Rattle.dn_link.specs.Told.{told_changed, told_command}
use Rattle.dn_link.proofs.Changes.{same_byte, other_byte, command_read}
use Rattle.dn_link.proofs.differences.command_in.Goals.{then-bits-ne0, else-bits-ne0}
use Rattle.dn_link.proofs.differences.command_in.Goals as goal

pub bytes-preserved : goal.bytes-preserved
bytes-preserved c =
    let so = c.bytes.invariant.so_far in
    let eight = c.bytes.invariant.eight in
    let place : ℕ = c.bytes.place in
    let low : place < length c.bytes.command = omega (arith, eight, c.bytes-test.true) in
    elim c.if-bits-ne0.branch [
      | then-bits-ne0 w ↦
          let new : c.if-bits-ne0.command ≡ set c.bytes.command place (slice_index c.bytes.rest.now 0) =
          w.command-is ∙ ap (set c.bytes.command place) w.first_of.ensures in
          let rest : c.if-bits-ne0.rest.now ≡ drop 1 c.bytes.rest.now = search rules in
          record {
            so_far = (λ i. take (place + 1) (new i) ++ told_changed (c.bytes.bits / 2) (drop (place + 1) (new i)) (rest i))
                ∙ other_byte c.bytes.command c.bytes.rest.now _ c.bytes.bits place low so w.if-bits-ne0.true;
            eight = ap (length {A = ℕ}) new ∙ length-set c.bytes.command place _ ∙ eight;
          }
      | else-bits-ne0 w ↦
          let rest : c.if-bits-ne0.rest.now ≡ c.bytes.rest.now = search rules in
          record {
            so_far = (λ i. take (place + 1) (w.command-is i)
                ++ told_changed (c.bytes.bits / 2) (drop (place + 1) (w.command-is i)) (rest i))
                ∙ same_byte c.bytes.command c.bytes.rest.now _ c.bytes.bits place low so w.if-bits-ne0.false;
            eight = ap (length {A = ℕ}) w.command-is ∙ eight;
          }
    ]

pub returns : goal.returns
returns c =
    let end : c.bytes.place ≡ 8 = omega (arith, c.bytes-test.false, c.bytes.auto.place-end) in
    command_read c.bytes.command c.bytes.rest.now _ c.bytes.bits c.bytes.invariant.eight
    (subst (λ (k : ℕ). take k c.bytes.command ++ told_changed c.bytes.bits (drop k c.bytes.command) c.bytes.rest.now ≡ told_command c.args.before.now c.args.bytes.now)
    end c.bytes.invariant.so_far)
