use Rattle.std.proofs.Common.{rules, ◌≡◌, ◌∷◌, []}
use Rattle.dn_demo.proofs.Listing.{tells_byte, tells_more}
use Rattle.dn_demo.proofs.feed.Feed.next_row.Goals as goal

pub returns-in-Some-take_byte-clause-rows : goal.returns-in-Some-take_byte-clause-rows
returns-in-Some-take_byte-clause-rows g c =
    let split : c.loop-byte.rest.now ≡ c.in-Some.byte.now ∷ c.in-Some.behind.now = search rules in
    tells_more g.W.World.state g.W.World.physics _ _ _ _ _ _ [] (c.in-Some-take_byte.row ∷ [])
    c.loop-byte.invariant.0
    (tells_byte g.W.World.state g.W.World.physics _ _ _ _ c.in-Some.byte.now (c.in-Some-take_byte.row ∷ []) split
    c.in-Some-take_byte.ensures.count c.in-Some-take_byte.ensures.shown c.in-Some-take_byte.ensures.listed)

pub loop-byte-preserved : goal.loop-byte-preserved
loop-byte-preserved g c = search (rules, tells_more, tells_byte)
