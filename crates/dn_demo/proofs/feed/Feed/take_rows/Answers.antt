use Rattle.dn_demo.proofs.FeedRows.{rows_taken}
use Rattle.dn_demo.proofs.feed.Feed.take_rows.Goals as goal

pub returns-clause-front : goal.returns-clause-front
returns-clause-front g c =
    rows_taken g.W.World.state g.W.World.physics _ _ _ c.self.view_is c.self.told c.self.invariant
    c.args.layout c.requires.header c.requires.unmarked c.args.piece.now c.step_all-rest.result.now
    c.step_all-rest.new.world c.if-self-gt0.false c.seats-present.ensures c.size.ensures
    c.players.ensures.value c.step_all-rest.ensures
