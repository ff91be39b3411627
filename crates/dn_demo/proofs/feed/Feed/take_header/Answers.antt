use Rattle.std.proofs.Common.{rules, ◌+◌, ◌∙◌, take, set}
use Rattle.dn_demo.specs.{Layout.Layout, Reading.HasHeader}
use Rattle.dn_demo.proofs.FeedKept.{header_taken}
use Rattle.dn_demo.proofs.feed.Feed.take_header.Goals as goal

pub returns-then-is_some-clause-shown : goal.returns-then-is_some-clause-shown
returns-then-is_some-clause-shown g c =
    header_taken g.W.World.state g.W.World.physics _ _ _ c.self.view_is c.self.told.0 c.args.byte
    c.begin.new.self c.self.invariant.1 (search rules)
    (λ layout h. c.begin.ensures ∙ (λ i. g.W.World.physics.begin (c.start.ensures i) (c.seats-present.ensures i)))

pub returns-else-is_some-clause-shown : goal.returns-else-is_some-clause-shown
returns-else-is_some-clause-shown g c =
    let old = c.self.inside in
    let none : (layout : Layout)
    → HasHeader layout (take (old.taken + 1) (set old.header old.taken c.args.byte)) → ⊥ = search rules in
    header_taken g.W.World.state g.W.World.physics _ _ _ c.self.view_is c.self.told.0 c.args.byte old.world
    c.self.invariant.1 (search rules) (λ layout h. absurd (none layout h))
