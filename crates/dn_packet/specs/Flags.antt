-- The flags of a packet (d_net.c).
use Rattle.std.specs.Prelude.{ℕ}

-- the receiver is to end the game
abbrev pub kill : ℕ
kill = 1

-- the packet is a choice of game
abbrev pub set_up : ℕ
set_up = 2

-- the sender asks for commands again
abbrev pub retransmit : ℕ
retransmit = 4

-- the sender has left the game
abbrev pub exit : ℕ
exit = 8
