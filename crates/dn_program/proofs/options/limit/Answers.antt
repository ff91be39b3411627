use Rattle.std.proofs.Common.{rules}
use Rattle.dn_program.proofs.OptionValues.{finds_none}
use Rattle.dn_program.proofs.options.limit.Goals as goal

pub returns-in_err-limit : goal.returns-in_err-limit
returns-in_err-limit c =
    finds_none c.value.result c.from_residual.result c.value.ensures (search rules) (search rules)
    (λ limit given. (_, given.number))
