use Rattle.std.proofs.Common.{◌≡◌, false, [], ◌∷◌, ◌∙◌, ap, subst, IfOk}
use Rattle.clap.specs.Walk.{Rule, rule_of}
use Rattle.dn_program.specs.Arguments.{HasMore}
use Rattle.dn_program.specs.Commands.{script_rule}
use Rattle.dn_program.proofs.More.{excludes}
use Rattle.dn_program.proofs.game_options.with_script.Goals as goal

pub returns : goal.returns
returns c =
    let a = c.switch-script.result in
    let b = c.in_ok-conflicts_with.field-0 in
    let d = c.in_ok-conflicts_with-2.field-0 in
    let bound : Rule → Rule = λ rule. record rule { is_free = false } in
    let first : rule_of b ≡ bound (rule_of a) = excludes a b _ c.in_ok-conflicts_with.ensures in
    let second : rule_of d ≡ bound (rule_of b) = excludes b d _ c.in_ok-conflicts_with-2.ensures in
    let rule : rule_of d ≡ script_rule = second ∙ ap bound (first ∙ ap bound c.switch-script.ensures.rule) in
    subst (λ (r : Rule). IfOk c.with.result (HasMore c.args.command (r ∷ []))) rule c.with.ensures
