use Rattle.std.proofs.Common.{arith}
use Rattle.dn_link.proofs.Changes.{bits_few}
use Rattle.dn_link.proofs.differences.change_bits.Goals as goal

pub overflow_mul-bits : goal.overflow_mul-bits
overflow_mul-bits c =
    let few = bits_few c.args.before.now c.args.command.now c.bytes.bits c.bytes.done c.told-before c.bytes-test.true c.bytes.invariant in
    omega (arith, few)

pub overflow_add-bits : goal.overflow_add-bits
overflow_add-bits c =
    let few = bits_few c.args.before.now c.args.command.now c.bytes.bits c.bytes.done c.told-before c.bytes-test.true c.bytes.invariant in
    omega (arith, few)
