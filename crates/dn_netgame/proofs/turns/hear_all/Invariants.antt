use Rattle.std.proofs.Common.{◌≡◌}
use Rattle.dn_node.specs.Contents.{contents, whose}
use Rattle.dn_netgame.specs.Turning.{Leads, Hears, most_polls}
use Rattle.dn_netgame.proofs.turns.hear_all.Given as goal

abbrev pub invariant-loop-heard : goal.invariant-loop-heard
invariant-loop-heard g l =
    (l.me ≡ (contents l.fn.node).me) × (l.most ≡ most_polls (contents l.fn.node).players)
    × (g.L.Line.failed l.line ≡ g.L.Line.failed l.fn.line)
    × Leads g.W.World.state g.W.World.physics (contents l.fn.node) (contents l.node)
    (λ rules me m after. Hears g.L.Line.polls rules me l.heard (m, l.fn.line) (after, l.line))
    × (whose (contents l.node) ≡ whose (contents l.fn.node))
