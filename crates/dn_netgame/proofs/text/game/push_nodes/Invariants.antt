use Rattle.std.proofs.Common.{◌≡◌, ◌++◌, ◌-◌, ◌≤◌, drop, length, string_bytes}
use Rattle.dn_game.specs.Contents.{contents}
use Rattle.dn_netgame.specs.Texts.{node_lines}
use Rattle.dn_netgame.proofs.text.game.push_nodes.Given as goal

abbrev pub invariant-loop-node : goal.invariant-loop-node
invariant-loop-node g l =
    let c = contents l.game in
    (string_bytes l.text ++ node_lines c.stopped l.number (drop l.number c.nodes)
    ≡ string_bytes l.fn.text ++ node_lines c.stopped 0 c.nodes)
    × (l.number ≤ length c.nodes)

abbrev pub decreases-loop-node : goal.decreases-loop-node
decreases-loop-node g l = length (contents l.game).nodes - l.number
