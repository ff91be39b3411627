use Rattle.std.proofs.Common.{arith}
use Rattle.dn_game.proofs.Scripts.{few_digits, more_digits, not_number, whole_number}
use Rattle.dn_game.proofs.script.words.number.Goals as goal

pub overflow_mul-number : goal.overflow_mul-number
overflow_mul-number c = omega (arith, few_digits _ _ _ c.loop-byte.invariant c.loop-byte-test.true)

pub overflow_add-number : goal.overflow_add-number
overflow_add-number c = grind (arith, few_digits)

pub returns-then-not-is_ascii_digit : goal.returns-then-not-is_ascii_digit
returns-then-not-is_ascii_digit c = not_number _ c.loop-byte.byte-index c.loop-byte-test.true
    c.if-not-is_ascii_digit.ensures.cases

pub loop-byte-preserved : goal.loop-byte-preserved
loop-byte-preserved c =
    rw c.from.ensures (more_digits _ _ _ c.loop-byte.invariant c.loop-byte-test.true
    c.if-not-is_ascii_digit.ensures.cases)

pub returns : goal.returns
returns c = grind (arith, whole_number)
