use native.Mathlib.Omega.{arith}
use Rattle.std.proofs.Common.{rules}
use Rattle.dn_program.proofs.OptionValues.{finds_none}
use Rattle.dn_program.proofs.options.game.Goals as goal

pub returns-in_err-players : goal.returns-in_err-players
returns-in_err-players c =
    finds_none c.byte.result c.from_residual.result c.byte.ensures (search rules) (search rules)
    (λ game given. (_, (given.players, omega (arith, given.in_range))))

pub returns-in_err-settings : goal.returns-in_err-settings
returns-in_err-settings c =
    finds_none c.settings.result c.from_residual-in_err-settings.result c.settings.ensures (search rules) (search rules)
    (λ game given. (_, given.choice))

pub returns-in_err-limit : goal.returns-in_err-limit
returns-in_err-limit c =
    finds_none c.limit.result c.from_residual-in_err-limit.result c.limit.ensures (search rules) (search rules)
    (λ game given. (_, given.limit))
