use native.Mathlib.Omega.{arith}
use Rattle.std.proofs.Common.{rules}
use Rattle.dn_program.proofs.OptionValues.{finds_none}
use Rattle.dn_program.proofs.options.settings.Goals as goal

pub returns-in_err-byte : goal.returns-in_err-byte
returns-in_err-byte c =
    finds_none c.byte.result c.from_residual.result c.byte.ensures (search rules) (search rules)
    (λ settings given. (_, (given.skill, omega (arith, given.in_range.skill))))

pub returns-in_err-byte-2 : goal.returns-in_err-byte-2
returns-in_err-byte-2 c =
    finds_none c.byte-2.result c.from_residual-in_err-byte-2.result c.byte-2.ensures (search rules) (search rules)
    (λ settings given. (_, (given.deathmatch, omega (arith, given.in_range.deathmatch))))

pub returns-in_err-byte-3 : goal.returns-in_err-byte-3
returns-in_err-byte-3 c =
    finds_none c.byte-3.result c.from_residual-in_err-byte-3.result c.byte-3.ensures (search rules) (search rules)
    (λ settings given. (_, (given.episode, omega (arith, given.in_range.episode))))

pub returns-in_err-byte-4 : goal.returns-in_err-byte-4
returns-in_err-byte-4 c =
    finds_none c.byte-4.result c.from_residual-in_err-byte-4.result c.byte-4.ensures (search rules) (search rules)
    (λ settings given. (_, (given.map, omega (arith, given.in_range.map))))
