use Rattle.std.proofs.Common.{◌≡◌, ◌++◌, ◌≤◌, [], drop, length, string_bytes}
use Rattle.dn_netgame.specs.Texts.{node_lines}
use Rattle.dn_netgame.proofs.netloop.push_all.Given as goal

abbrev pub invariant-loop-node : goal.invariant-loop-node
invariant-loop-node g l =
    (string_bytes l.text ++ node_lines [] l.node-index (drop l.node-index l.nodes)
    ≡ string_bytes l.fn.text ++ node_lines [] 0 l.nodes)
    × (l.node-index ≤ length l.nodes)
