use Rattle.std.proofs.Common.{rules, arith, ap, ◌+◌, ◌-◌, ◌++◌, ◌∙◌, ◌≡◌, drop, List, ℕ, length}
use Rattle.std.proofs.lemmas.List.{length-append}
use Rattle.dn_link.specs.Differences.{difference}
use Rattle.dn_link.specs.Told.{told_command, told_differences}
use Rattle.dn_link.proofs.Changes.{commands_read}
use Rattle.dn_link.proofs.differences.differences_in.Goals as goal

pub commands-preserved : goal.commands-preserved
commands-preserved c =
    let was : List ℕ = c.commands.commands.items in
    let before : List ℕ = c.commands.before in
    let rest : List ℕ = c.commands.rest.now in
    let one : c.command_in-command.result ≡ told_command before rest = c.command_in-command.ensures in
    let size : c.len.result ≡ length (difference before c.command_in-command.result) =
    c.len.ensures.value ∙ ap (length {A = ℕ}) c.difference.ensures in
    let behind : c.behind-rest.result.now ≡ drop (length (difference before (told_command before rest))) rest =
    c.behind-rest.ensures ∙ (λ i. drop (size i) rest)
    ∙ (λ i. drop (length (difference before (one i))) rest) in
    let eight : length c.command_in-command.result ≡ 8 = search rules in
    record {
      so_far = (λ i. c.append.ensures i ++ told_differences (c.args.count - (c.commands.done + 1)) (one i) (behind i))
          ∙ ap (λ (xs : List ℕ). (was ++ xs) ++ told_differences (c.args.count - (c.commands.done + 1)) (told_command before rest) (drop (length (difference before (told_command before rest))) rest)) one
          ∙ commands_read was before rest _ c.args.count c.commands.done c.commands-test.true c.commands.invariant.so_far;
      many = omega (arith, c.commands.invariant.many, ap (length {A = ℕ}) c.append.ensures, length-append was c.command_in-command.result, eight);
    }
