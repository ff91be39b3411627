use Rattle.std.proofs.Common.{rules, refl, ◌/◌, arith}
use Rattle.dn_demo.specs.Layout.{layout_of}
use Rattle.dn_demo.proofs.FeedKept.{ends_unmarked, ends_marked}
use Rattle.dn_demo.proofs.feed.Feed.end.Goals as goal

pub returns-then-not-self : goal.returns-then-not-self
returns-then-not-self g c =
    ends_unmarked g.W.World.state g.W.World.physics _ _ _ c.self.view_is (search rules)
    (layout_of c.in-Ok.layout) c.min-taken.result (search rules) c.in-Ok.ensures.found c.if-not-self.true

pub returns : goal.returns
returns g c =
    ends_marked g.W.World.state g.W.World.physics _ _ _ c.self.view_is (search rules)
    (layout_of c.in-Ok.layout) c.min-taken.result (search rules) c.in-Ok.ensures.found _ c.if-not-self.false
    (omega (arith, c.self.invariant.0)) refl c.start.ensures refl c.seats.ensures refl
    (λ i. c.self.inside.kept / c.size.ensures i) refl refl
