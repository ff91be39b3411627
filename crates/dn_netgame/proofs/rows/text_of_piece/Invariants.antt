use Rattle.std.proofs.Common.{◌≡◌, List, Option, length, string_bytes}
use Rattle.dn_tic.specs.declared.command.Move.{Move}
use Rattle.dn_world.specs.Plane.{walking}
use Rattle.dn_demo.specs.Feeding.{TellsFront}
use Rattle.dn_netgame.specs.Texts.{lines_of_rows}
use Rattle.dn_netgame.proofs.rows.text_of_piece.Given as goal

abbrev pub invariant-loop-rest : goal.invariant-loop-rest
invariant-loop-rest l =
    (rows : List (List (Option Move))) × TellsFront (λ w. w) walking l.initial.feed l.fn.piece l.rest l.feed
    rows
    × (string_bytes l.text ≡ lines_of_rows l.initial.feed.tics rows)

abbrev pub decreases-loop-rest : goal.decreases-loop-rest
decreases-loop-rest l = length l.rest
