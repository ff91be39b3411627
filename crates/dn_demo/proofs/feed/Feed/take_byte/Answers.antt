use Rattle.std.proofs.Common.{rules, ◌<◌, ◌≤◌}
use Rattle.dn_demo.specs.Layout.{layout_of}
use Rattle.dn_demo.proofs.Listing.{lists_header, lists_none, lists_ended}
use Rattle.dn_demo.proofs.feed.Feed.take_byte.Goals as goal

pub returns-then-self-clause-listed : goal.returns-then-self-clause-listed
returns-then-self-clause-listed g c =
    let short : c.args.self.now.taken < 13 = search rules in
    lists_header g.W.World.state g.W.World.physics _ _ c.args.byte short c.take_header.ensures.before
    c.take_header.ensures.after

pub returns-in_default-clause-listed : goal.returns-in_default-clause-listed
returns-in_default-clause-listed g c =
    let long : 13 ≤ c.args.self.now.taken = search rules in
    lists_none g.W.World.state g.W.World.physics _ _ _ long c.pass.ensures.tics

pub returns-clause-listed : goal.returns-clause-listed
returns-clause-listed g c =
    let long : 13 ≤ c.args.self.now.taken = search rules in
    lists_ended g.W.World.state g.W.World.physics (layout_of c.in-Some.layout) _ _ c.args.byte c.take_command.result
    c.in-Some.ensures.some long c.take_command.ensures.tics c.take_command.ensures.row
