-- A history says it of its game.
use Rattle.dn_machine.specs.Worlds.{rules_within}
use Rattle.dn_remain.proofs.{Promises.pairs_fit, Promises.pairs_agree, Reached.reached_by, Steady.pairs_steady}
use Rattle.dn_remain.proofs.laws.those_who_remain_agree.Goals as goal

pub returns-clause-agree : goal.returns-clause-agree
returns-clause-agree g c limits settings events all runs =
    let known = reached_by (rules_within g.W.World.physics limits) settings events all runs in
    pairs_agree (rules_within g.W.World.physics limits) settings all known.0 known.1

pub returns-clause-fits : goal.returns-clause-fits
returns-clause-fits g c limits settings events all runs =
    let known = reached_by (rules_within g.W.World.physics limits) settings events all runs in
    pairs_fit (rules_within g.W.World.physics limits) settings all known.0 known.1

pub returns-clause-steady : goal.returns-clause-steady
returns-clause-steady g c limits settings events all window runs =
    let known = reached_by (rules_within g.W.World.physics limits) settings events all runs in
    pairs_steady (rules_within g.W.World.physics limits) settings all known.0 known.1 window
