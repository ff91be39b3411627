use Rattle.std.proofs.Common.{◌≡◌, ◌≤◌, ◌+◌}
use Rattle.dn_node.specs.Contents.{contents, whose}
use Rattle.dn_netgame.specs.Turning.{Leads, risen, Gives}
use Rattle.dn_netgame.proofs.turns.give_all.Given as goal

abbrev pub invariant-loop-to : goal.invariant-loop-to
invariant-loop-to g l =
    (l.me ≡ (contents l.fn.node).me) × (l.given.sent + l.given.failed ≤ l.to)
    × (g.L.Line.failed l.line ≡ risen l.given.failed (g.L.Line.failed l.fn.line))
    × Leads g.W.World.state g.W.World.physics (contents l.fn.node) (contents l.node)
    (λ rules me m after. Gives g.L.Line.sends rules me l.to
    (record { node = m; line = l.fn.line; sent = 0; failed = 0 })
    (record { node = after; line = l.line; sent = l.given.sent; failed = l.given.failed }))
    × (whose (contents l.node) ≡ whose (contents l.fn.node))
