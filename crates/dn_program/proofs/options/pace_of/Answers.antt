use Rattle.std.proofs.Common.{rules}
use Rattle.dn_program.proofs.OptionValues.{finds_none}
use Rattle.dn_program.proofs.options.pace_of.Goals as goal

pub returns-in_err-seed : goal.returns-in_err-seed
returns-in_err-seed c =
    finds_none c.value.result c.from_residual.result c.value.ensures (search rules)
    (search rules)
    (λ pace given. (_, given.seed))

pub returns-in_err-seconds : goal.returns-in_err-seconds
returns-in_err-seconds c =
    finds_none c.value-2.result c.from_residual-in_err-seconds.result c.value-2.ensures (search rules)
    (search rules)
    (λ pace given. (_, given.seconds))
