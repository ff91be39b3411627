use Rattle.std.proofs.Common.{rules, arith, ap, ◌≤◌, ◌/◌, ◌++◌, ◌∙◌, ◌≡◌, List, ℕ, length}
use Rattle.std.proofs.lemmas.List.{length-append}
use Rattle.dn_link.specs.Differences.{differences, difference}
use Rattle.dn_link.proofs.Changes.{commands_written}
use Rattle.dn_link.proofs.differences.differences.Goals as goal

pub commands-preserved : goal.commands-preserved
commands-preserved c =
    let was : List ℕ = c.commands.bytes.items in
    let command : List ℕ = c.in-Some.command.now in
    let after : List ℕ = c.in-Some.after.now in
    let front : c.commands.rest.now ≡ command ++ after = search rules in
    let eight : length command ≡ 8 = search rules in
    let written : c.append.new.bytes.items ≡ was ++ difference c.commands.before command =
    c.append.ensures ∙ ap (λ (xs : List ℕ). was ++ xs) (c.as_slice.ensures.value ∙ c.difference.ensures) in
    let few : length c.as_slice.result.now ≤ 9 = search rules in
    record {
      so_far = ap (λ (xs : List ℕ). xs ++ differences (length after / 8) command after) written
          ∙ commands_written was c.commands.before c.commands.rest.now command after _ eight front
          c.commands.invariant.so_far;
      room = omega (
        arith,
        c.commands.invariant.room,
        few,
        ap (length {A = ℕ}) c.append.ensures,
        length-append was c.as_slice.result.now,
        ap (length {A = ℕ}) front,
        length-append command after,
        eight,
      );
    }
