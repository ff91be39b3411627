use Rattle.std.proofs.Common.{◌≡◌, ◌++◌, ◌≤◌, drop, length, string_bytes}
use Rattle.dn_measure.specs.Fields.{labelled}
use Rattle.dn_netgame.specs.Texts.{players_present}
use Rattle.dn_netgame.proofs.text.demo.push_present.Given as goal

abbrev pub invariant-loop-player : goal.invariant-loop-player
invariant-loop-player l =
    (string_bytes l.text ++ labelled (players_present l.player (drop l.player l.taken-items))
    ≡ string_bytes l.fn.text ++ labelled (players_present 0 l.fn.present))
    × (l.player ≤ length l.taken-items)
