use Rattle.std.proofs.Common.{rules}
use Rattle.dn_program.proofs.OptionValues.{finds_none}
use Rattle.dn_program.proofs.options.rounds.Goals as goal

pub returns-in_err-seed : goal.returns-in_err-seed
returns-in_err-seed c =
    finds_none c.value.result c.from_residual.result c.value.ensures (search rules) (search rules)
    (λ rounds given. (_, given.seed))

pub returns-in_err-count : goal.returns-in_err-count
returns-in_err-count c =
    finds_none c.value-2.result c.from_residual-in_err-count.result c.value-2.ensures (search rules) (search rules)
    (λ rounds given. (_, given.count))

pub returns-in_err-value : goal.returns-in_err-value
returns-in_err-value c =
    finds_none c.value-3.result c.from_residual-in_err-value.result c.value-3.ensures (search rules) (search rules)
    (λ rounds given. (_, given.base))
