-- A packet that is given while neither player has left is one of which no more is asked than of a later one.
use Rattle.std.proofs.Common.{arith, rules}
use Rattle.dn_machine.specs.Worlds.{rules_within}
use Rattle.dn_machine.proofs.Nearness.{new, late, gone}
use Rattle.dn_machine.proofs.laws.new_packets_are_near.Goals as goal

pub returns-clause-new : goal.returns-clause-new
returns-clause-new g c limits settings events game me to flight window swift run l m plays stays =
    grind (arith, new)

pub returns-clause-young : goal.returns-clause-young
returns-clause-young g c limits settings me to flight given now window swift way on stays young =
    late (rules_within g.W.World.physics limits) settings window swift me to flight given given now way on stays
    (omega arith) young

pub returns-clause-ended : goal.returns-clause-ended
returns-clause-ended g c limits settings me to flight before given now window swift = search (rules, late)

pub returns-clause-left : goal.returns-clause-left
returns-clause-left g c limits settings me to flight before given now window swift = search (rules, gone)
