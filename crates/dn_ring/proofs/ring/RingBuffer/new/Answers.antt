use Rattle.std.proofs.{Common.{rules, arith}, lemmas.List.{length-replicate, get_or-replicate}, lemmas.List.Elements.All-replicate}
use Rattle.dn_ring.proofs.ring.RingBuffer.new.Goals as goal

pub returns : goal.returns
returns g c = search rules

pub invariant_of-result : goal.invariant_of-result
invariant_of-result g c = grind (arith, length-replicate, get_or-replicate, All-replicate)
