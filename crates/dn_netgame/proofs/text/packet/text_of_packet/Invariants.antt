use Rattle.std.proofs.Common.{◌≡◌, ◌++◌, ◌≤◌, drop, length, string_bytes}
use Rattle.dn_netgame.specs.Texts.{command_lines, lines_of}
use Rattle.dn_netgame.proofs.text.packet.text_of_packet.Given as goal

abbrev pub invariant-loop-index : goal.invariant-loop-index
invariant-loop-index l =
    (string_bytes l.text ++ command_lines l.index (drop l.index l.command-items) ≡ lines_of l.read)
    × (l.index ≤ length l.command-items)
