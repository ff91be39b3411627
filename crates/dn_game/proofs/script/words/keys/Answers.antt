use Rattle.std.proofs.Common.{arith, rules}
use Rattle.dn_game.proofs.Scripts.{more_letters, not_keys, no_letters, whole_keys}
use Rattle.dn_game.proofs.script.words.keys.Goals as goal

pub loop-byte-init : goal.loop-byte-init
loop-byte-init c = no_letters _ (search rules) (search rules)

pub loop-byte-preserved : goal.loop-byte-preserved
loop-byte-preserved c = more_letters _ _ _ _ c.loop-byte.invariant c.loop-byte-test.true
    c.in_ok-place.ensures.value

pub returns-in_err-place : goal.returns-in_err-place
returns-in_err-place c =
    rw c.from_residual.ensures (not_keys _ c.loop-byte.byte-index _ c.loop-byte.invariant c.loop-byte-test.true
    c.in_err-place.ensures.value)

pub returns : goal.returns
returns c = rw c.from_bits-2.ensures (whole_keys _ _ _ c.loop-byte.invariant (omega arith))
