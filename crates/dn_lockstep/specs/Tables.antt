-- What a node has in tables: of each player the last thirty-two commands, by the player's number, the peers
-- by theirs, and the consistency table.
use Rattle.std.specs.Prelude.{◌≢◌, ℕ, Bool, negsuc, List, All, Option, slice_index_or, ℤ, pos, replicate}
use Rattle.std.specs.Ordering.{int_eq}
use Rattle.dn_tic.specs.declared.command.TicCmd.{TicCmd}
use Rattle.dn_ring.specs.Ring as ring
use Rattle.dn_ring.specs.Ring.{Ring, empty}
use Rattle.dn_machine.specs.declared.peer.Peer.{Peer}
use Rattle.dn_machine.specs.Node.{no_peer}
use Rattle.dn_lockstep.specs.declared.peers.Peers.{Peers}
use Rattle.dn_lockstep.specs.declared.marks.Slots.{Slots}

-- the ring that a whole list of commands was put into. It keeps thirty-two, which are more than the twenty-four
-- of the widest window; of these a packet, a request and a reader reach as many as the window keeps
abbrev pub ring_of : List TicCmd → Ring
ring_of commands = ring.ring_of 32 commands

-- one more command
abbrev pub put : Ring → TicCmd → Ring
put kept command = ring.put 32 kept command

-- the command of a tic, where it is there
abbrev pub get : Ring → ℕ → Option TicCmd
get kept tic = ring.get 32 kept tic

-- a player's ring
abbrev pub ring_at : List Ring → ℕ → Ring
ring_at rings player = slice_index_or rings player empty

abbrev pub count_of : (ℕ → Ring) → ℕ → ℕ
count_of rings player = (rings player).count

-- a command whose first byte would read as the end of a demo
abbrev pub is_stop : TicCmd → Bool
is_stop command = int_eq command.forward (negsuc 127)

-- none of the ring's commands would read as the end of a demo
abbrev pub HasNoStop : Ring → Type 0
HasNoStop ring = All (λ command. command.forward ≢ negsuc 127) ring.last

-- of several peers the one of this number
abbrev pub peer_of : List Peer → ℕ → Peer
peer_of peers player = slice_index_or peers player no_peer

abbrev pub peer_at : Peers → ℕ → Peer
peer_at peers player = peer_of peers.peers player

-- a player's mark in a slot
abbrev pub slot : List Slots → ℕ → ℕ → ℤ
slot players player place =
    slice_index_or (slice_index_or players player (record { slots = replicate 12 (pos 0) })).slots place
    (pos 0)
