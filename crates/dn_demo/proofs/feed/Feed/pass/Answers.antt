use Rattle.std.proofs.Common.{rules}
use Rattle.dn_demo.proofs.FeedKept.{pass_marked, pass_unread}
use Rattle.dn_demo.proofs.feed.Feed.pass.Goals as goal

pub returns-then-self-clause-shown : goal.returns-then-self-clause-shown
returns-then-self-clause-shown g c =
    pass_marked g.W.World.state g.W.World.physics _ _ _ c.self.view_is c.self.told.0 c.args.piece.now
    (search rules) (search rules)

pub returns-else-self-clause-shown : goal.returns-else-self-clause-shown
returns-else-self-clause-shown g c =
    pass_unread g.W.World.state g.W.World.physics _ _ _ c.self.view_is c.self.told.0 c.args.piece.now
    c.requires.unread (search rules) (search rules)
