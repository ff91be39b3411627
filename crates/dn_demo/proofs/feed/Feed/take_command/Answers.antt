use Rattle.dn_demo.proofs.FeedRows.{room, marker_taken, byte_taken, still_kept, row_taken, row_ended}
use Rattle.dn_demo.proofs.feed.Feed.take_command.Goals as goal

pub returns-then-is_marker-clause-shown : goal.returns-then-is_marker-clause-shown
returns-then-is_marker-clause-shown g c =
    marker_taken g.W.World.state g.W.World.physics _ _ _ c.self.view_is c.self.told c.self.invariant
    c.args.layout c.requires.header c.requires.unmarked c.args.byte (c.is_marker.ensures.yes c.if-is_marker.true)

pub bounds-self-inside-self-inside : goal.bounds-self-inside-self-inside
bounds-self-inside-self-inside g c =
    room g.W.World.state g.W.World.physics _ _ _ c.self.view_is c.self.told c.self.invariant
    c.args.layout c.requires.header

pub invariant_of-self-else-self-size : goal.invariant_of-self-else-self-size
invariant_of-self-else-self-size g c =
    still_kept g.W.World.state g.W.World.physics _ _ _ c.self.view_is c.self.told c.self.invariant
    c.args.layout c.requires.header c.requires.unmarked c.args.byte c.seats-present.ensures c.size.ensures
    c.players.ensures.value c.if-self-size.false

pub returns-then-self-size-clause-shown : goal.returns-then-self-size-clause-shown
returns-then-self-size-clause-shown g c =
    row_taken g.W.World.state g.W.World.physics _ _ _ c.self.view_is c.self.told c.self.invariant
    c.args.layout c.requires.header c.requires.unmarked c.args.byte c.seats-present.ensures c.size.ensures
    c.players.ensures.value c.row_at-row.ensures c.step.new.self
    (c.is_marker.ensures.no c.if-is_marker.false) c.if-self-size.true c.step.ensures

pub returns-clause-shown : goal.returns-clause-shown
returns-clause-shown g c =
    byte_taken g.W.World.state g.W.World.physics _ _ _ c.self.view_is c.self.told c.self.invariant
    c.args.layout c.requires.header c.requires.unmarked c.args.byte c.seats-present.ensures c.size.ensures
    c.players.ensures.value (c.is_marker.ensures.no c.if-is_marker.false) c.if-self-size.false

pub returns-then-self-size-clause-row : goal.returns-then-self-size-clause-row
returns-then-self-size-clause-row g c =
    row_ended g.W.World.state g.W.World.physics _ _ _ c.self.view_is c.self.told c.self.invariant
    c.args.layout c.requires.header c.requires.unmarked c.args.byte c.seats-present.ensures c.size.ensures
    c.players.ensures.value c.row_at-row.ensures
