use Rattle.std.proofs.Common.{◌≡◌, ◌++◌, ◌-◌, ◌≤◌, string_bytes}
use Rattle.dn_node.specs.Contents.{contents}
use Rattle.dn_netgame.specs.Texts.{counts, counts_from}
use Rattle.dn_netgame.proofs.text.nodes.push_counts.Given as goal

abbrev pub invariant-loop-count : goal.invariant-loop-count
invariant-loop-count g l =
    let n = contents l.node in
    (string_bytes l.text ++ counts_from l.player (n.players - l.player) n.rings
    ≡ string_bytes l.fn.text ++ counts n.players n.rings)
    × (l.player ≤ n.players)

abbrev pub decreases-loop-count : goal.decreases-loop-count
decreases-loop-count g l = (contents l.node).players - l.player
