use Rattle.std.proofs.Common.{inl, refl, string_bytes}
use Rattle.dn_netgame.proofs.{Showing.prints_such, Seated.all_played}
use Rattle.dn_netgame.proofs.netloop.run_loop.Goals as goal

pub returns-in_default : goal.returns-in_default
returns-in_default g c =
    prints_such g.W.Write.contents _ c.args.output.now c.print.new.output _ _ 3 c.print.result c.print.ensures.printed
    c.as_bytes.ensures.value (inl (refl, refl))

pub returns : goal.returns
returns g c =
    prints_such g.W.Write.contents _ c.args.output.now c.print-2.new.output _ _ 0 c.print-2.result
    c.print-2.ensures.printed c.as_bytes-2.ensures.value
    (all_played c.args.config c.args.players c.args.base c.args.seed c.args.count (λ text. string_bytes text)
    c.in_ok-text.field-0 c.in-Some.text c.in-Some.is c.in_ok-text.ensures.played)
