use Rattle.std.proofs.Common.{rules, arith}
use Rattle.dn_demo.proofs.FeedKept.{front_more}
use Rattle.dn_demo.proofs.feed.Feed.push.Goals as goal

pub loop-rest-preserved : goal.loop-rest-preserved
loop-rest-preserved g c = grind (arith, rules, front_more)

pub returns-clause-empty : goal.returns-clause-empty
returns-clause-empty g c = search rules
