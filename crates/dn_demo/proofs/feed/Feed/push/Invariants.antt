use Rattle.std.proofs.Common.{◌≡◌, [], length}
use Rattle.dn_demo.specs.Feeding.{TakesFront}
use Rattle.dn_demo.proofs.feed.Feed.push.Given as goal

abbrev pub invariant-loop-rest : goal.invariant-loop-rest
invariant-loop-rest g l =
    TakesFront g.W.World.state g.W.World.physics l.initial.self l.fn.piece l.rest l.self
    × (l.fn.piece ≡ [] → (l.rest ≡ []) × (l.self ≡ l.initial.self))

abbrev pub decreases-loop-rest : goal.decreases-loop-rest
decreases-loop-rest g l = length l.rest
