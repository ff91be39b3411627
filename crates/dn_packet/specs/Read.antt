-- What the bytes of a datagram are read as.
use Rattle.std.specs.Prelude.{◌≡◌, ◌≢◌, ◌<◌, ◌≤◌, ℕ, ◌+◌, ◌*◌, ◌%◌, ◌^◌, List, All, length, drop, slice_index, Result, Ok, Err}
use Rattle.byteorder.specs.Endian.{little_number}
use Rattle.dn_packet.specs.declared.packet.Packet.{Packet}
use Rattle.dn_packet.specs.declared.packet.PacketFault.{PacketFault}
use Rattle.dn_packet.specs.declared.packet.PacketFault.TheVariants.{Short, Many, Length, Sum}
use Rattle.dn_packet.specs.Text.{text, sum_of, IsPacket}

-- the number of commands that the bytes tell
abbrev pub told_count : List ℕ → ℕ
told_count bytes = slice_index bytes 7

-- the sum that the bytes tell: the low 28 bits of the first word
abbrev pub told_sum : List ℕ → ℕ
told_sum bytes = little_number 4 bytes % 2 ^ 28

-- a packet whose text the bytes are, or the first fault that they have
abbrev pub IsReadAs : List ℕ → Result Packet PacketFault → Type 0
IsReadAs bytes (Ok p) = IsPacket p × (bytes ≡ text p)
IsReadAs bytes (Err Short) = length bytes < 8
IsReadAs bytes (Err Many) = (8 ≤ length bytes) × (12 < told_count bytes)
IsReadAs bytes (Err Length) = (8 ≤ length bytes) × (told_count bytes ≤ 12)
    × (length bytes ≢ 8 + 8 * told_count bytes)
IsReadAs bytes (Err Sum) =
    (told_count bytes ≤ 12) × (length bytes ≡ 8 + 8 * told_count bytes)
    × (told_sum bytes ≢ sum_of (drop 4 bytes))

-- what is read into a packet
abbrev pub read_into : Packet → Result Unit PacketFault → Result Packet PacketFault
read_into p (Ok unit) = Ok p
read_into p (Err fault) = Err fault

-- each number of the list is a byte
abbrev pub AreBytes : List ℕ → Type 0
AreBytes bytes = All (λ byte. byte < 256) bytes

-- a packet or a fault that the bytes are read as
pub record Reading (bytes : List ℕ) : Type 0 where
  pub read : Result Packet PacketFault
  pub is_read : IsReadAs bytes read
