use Rattle.std.proofs.Common.{◌≡◌, inl, false, ◌∙◌, refl, rules, string_bytes}
use Rattle.dn_node.specs.Contents.{contents}
use Rattle.dn_netgame.specs.Texts.{node_line}
use Rattle.dn_netgame.proofs.{Showing.prints_such, Seated.played}
use Rattle.dn_netgame.proofs.netplay.run_play.Goals as goal

pub returns-in_default : goal.returns-in_default
returns-in_default g c =
    prints_such g.W.Write.contents _ c.args.output.now c.print.new.output _ _ 3 c.print.result c.print.ensures.printed
    c.as_bytes.ensures.value (inl (refl, refl))

pub returns-then-raw : goal.returns-then-raw
returns-then-raw g c =
    prints_such g.W.Write.contents _ c.args.output.now c.print-then-raw.new.output _ _ 0
    c.print-then-raw.result c.print-then-raw.ensures.printed c.demo.ensures
    (played c.args.config c.args.base c.args.seed c.args.count c.args.raw c.in_ok-node.field-0
    c.in-Some.node _ c.in-Some.is c.in_ok-node.ensures.played (rw c.if-raw.true refl))

pub returns : goal.returns
returns g c =
    let line : string_bytes c.push_node.new.text ≡ node_line (contents c.in-Some.node) false = search rules in
    prints_such g.W.Write.contents _ c.args.output.now c.print-2.new.output _ _ 0 c.print-2.result
    c.print-2.ensures.printed (c.as_bytes-2.ensures.value ∙ line)
    (played c.args.config c.args.base c.args.seed c.args.count c.args.raw c.in_ok-node.field-0
    c.in-Some.node _ c.in-Some.is c.in_ok-node.ensures.played (rw c.if-raw.false refl))
