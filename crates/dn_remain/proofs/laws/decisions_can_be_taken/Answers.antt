-- The game in which the node has given up the player, or has the report, has a history.
use Rattle.dn_machine.specs.Worlds.{rules_within}
use Rattle.dn_remain.specs.{Remaining.wary_of, Wary.with_gone, Wary.with_report}
use Rattle.dn_remain.proofs.Known
use Rattle.dn_remain.proofs.{News.gives, News.here, News.keeps, News.noted, Reached.reached_by, Taken.taken_of}
use Rattle.dn_remain.proofs.laws.decisions_can_be_taken.Goals as goal

pub returns-clause-given_up : goal.returns-clause-given_up
returns-clause-given_up g c limits settings events all q player runs mine low apart phase can =
    let rules = rules_within g.W.World.physics limits in
    let known = reached_by rules settings events all runs in
    let f = known.1.followed in
    taken_of rules all q (with_gone limits (wary_of all q) player)
    (gives Known.known rules all known.0 f q mine phase player low apart) mine
    (noted Known.known rules all known.0 f q mine phase player).left can

pub returns-clause-heard : goal.returns-clause-heard
returns-clause-heard g c limits settings events all which t runs at phase can =
    let rules = rules_within g.W.World.physics limits in
    let known = reached_by rules settings events all runs in
    let f = known.1.followed in
    let mine = (known.1.told which t at).0 in
    taken_of rules all t.to (with_report (wary_of all t.to) t.from t.report)
    (keeps Known.known rules all known.0 f t.to mine phase t.from t.report (f.reports which t at)) mine
    (here Known.known rules all known.0 f t.to mine phase) can
