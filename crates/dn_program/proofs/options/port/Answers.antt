use Rattle.std.proofs.Common.{rules}
use Rattle.dn_program.proofs.OptionValues.{finds_none}
use Rattle.dn_program.proofs.options.port.Goals as goal

pub returns-in_err-value : goal.returns-in_err-value
returns-in_err-value c =
    finds_none c.value.result c.from_residual.result c.value.ensures (search rules) (search rules)
    (λ port given. (_, given.0))
