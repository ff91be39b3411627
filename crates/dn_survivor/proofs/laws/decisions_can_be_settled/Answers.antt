use Rattle.dn_machine.specs.Worlds.{rules_within}
use Rattle.dn_remain.proofs.Relayed.{as_relayed}
use Rattle.dn_survivor.proofs.Decided.{gone_can, told_can}
use Rattle.dn_survivor.proofs.laws.decisions_can_be_settled.Goals as goal

pub returns-clause-given_up : goal.returns-clause-given_up
returns-clause-given_up g c limits settings events all q player window runs mine low apart phase can =
    gone_can (rules_within g.W.World.physics limits) settings window _ all
    (as_relayed (rules_within g.W.World.physics limits) settings events all runs) q player mine low apart phase can

pub returns-clause-heard : goal.returns-clause-heard
returns-clause-heard g c limits settings events all which t window runs at phase can =
    told_can (rules_within g.W.World.physics limits) settings window _ all
    (as_relayed (rules_within g.W.World.physics limits) settings events all runs) which t at phase can
