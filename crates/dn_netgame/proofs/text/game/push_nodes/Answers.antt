use Rattle.std.proofs.Common.{arith, rules, ◌≡◌, ◌++◌, false, Some, None, slice_get, slice_index_or, string_bytes}
use Rattle.std.proofs.lemmas.Option.{slice_get_within}
use Rattle.dn_game.specs.Contents.{contents}
use Rattle.dn_netgame.specs.Texts.{node_line}
use Rattle.dn_netgame.proofs.Texts.{lines_more, lines_done}
use Rattle.dn_node.specs.Contents as node
use Rattle.dn_netgame.proofs.text.game.push_nodes.Goals as goal

pub loop-node-smaller : goal.loop-node-smaller
loop-node-smaller g c = grind (arith, slice_get_within)

pub loop-node-preserved : goal.loop-node-preserved
loop-node-preserved g c =
    let game = contents c.args.game.now in
    let there : slice_get game.nodes c.loop-node.number ≡ Some c.in-Some.node.now = search rules in
    let put : string_bytes c.push_node.new.text ≡ string_bytes c.loop-node.text
    ++ node_line (node.contents c.in-Some.node.now) (slice_index_or game.stopped c.loop-node.number false) =
    search rules in
    lines_more _ _ _ _ _ _ _ there c.loop-node.invariant put

pub returns : goal.returns
returns g c =
    let game = contents c.args.game.now in
    let gone : slice_get game.nodes c.loop-node.number ≡ None = search rules in
    lines_done _ _ _ _ _ gone c.loop-node.invariant
