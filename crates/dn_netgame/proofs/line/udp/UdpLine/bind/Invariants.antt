use Rattle.std.proofs.Common.{◌≡◌, ◌+◌, length}
use Rattle.dn_netgame.proofs.line.udp.UdpLine.bind.Given as goal

abbrev pub invariant-loop-player : goal.invariant-loop-player
invariant-loop-player g l = l.first + length l.sockets.items ≡ l.player
