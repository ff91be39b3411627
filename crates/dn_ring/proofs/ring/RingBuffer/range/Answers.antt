use Rattle.std.proofs.Common.{◌-◌, arith, rules}
use Rattle.dn_ring.proofs.Slots.{in_one, in_two, valid_two}
use Rattle.dn_ring.proofs.ring.RingBuffer.range.Goals as goal

pub returns-then-end-clause-commands : goal.returns-then-end-clause-commands
returns-then-end-clause-commands g c = search (rules, in_one)

pub returns-else-end-clause-commands : goal.returns-else-end-clause-commands
returns-else-end-clause-commands g c = grind (arith, in_two)

pub returns-else-end-clause-valid : goal.returns-else-end-clause-valid
returns-else-end-clause-valid g c = search (rules, valid_two)
