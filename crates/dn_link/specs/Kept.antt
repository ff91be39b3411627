-- The packets that a peer has not acknowledged.
use Rattle.std.specs.{Prelude.{◌≡◌, ◌<◌, ◌≤◌, ◌⊎◌, ◌||◌, ℕ, ◌+◌, ◌-◌, ◌/◌, ◌&&◌, ◌==◌, nat_lt, nat_le, if◌then◌else◌, Bool, not, true, false, List, [], ◌∷◌, ◌++◌, length, slice_index, max, Option, Some, None, is_none}, Coded.{×_prop}}
use Rattle.std.proofs.Props.{props}
use Rattle.dn_link.specs.declared.bundle.Carried.{Carried}

-- how many commands a packet has, behind its head of eight bytes, and the tic after the last of them
abbrev pub commands_in : Carried → ℕ
commands_in packet = (length packet.datagram.items - 8) / 8

abbrev pub end_of : Carried → ℕ
end_of packet = packet.start + commands_in packet

-- it has no command, asks for nothing, and has no flag, which would stand in the high bits of its fourth byte
abbrev pub is_idle : Carried → Bool
is_idle packet =
    commands_in packet == 0 && (is_none packet.ask && nat_lt (slice_index packet.datagram.items 3) 16)

-- a peer takes no packet once it has left, and none that is idle
abbrev pub takes_packet : Option ℕ → Carried → Bool
takes_packet (Some cause) packet = false
takes_packet None packet = not (is_idle packet)

abbrev pub taken_by : Option ℕ → Option Carried → Option Carried
taken_by left None = None
taken_by left (Some packet) = if takes_packet left packet then Some packet else None

-- the packets to one peer that it has not acknowledged, oldest first; how many commands they and those before
-- them cover; and how many commands the peer needs no more
pub record Unacknowledged : Type 0 where
  pub packets : List Carried
  pub covered : ℕ
  pub done : ℕ

-- a packet goes on where those before it end, with a command that none of them has, and there is room to keep
-- it
abbrev pub is_news : Unacknowledged → Carried → Bool
is_news kept packet =
    nat_le packet.start kept.covered
    && (nat_lt kept.covered (end_of packet) && nat_lt (length kept.packets) 24)

-- it is kept if it has
abbrev pub kept_after : Unacknowledged → Option Carried → Unacknowledged
kept_after kept None = kept
kept_after kept (Some packet) =
    if is_news kept packet
    then record kept { packets = kept.packets ++ packet ∷ []; covered = end_of packet }
    else kept

-- what goes to the peer: what is kept, and the packet of the moment, kept or not
abbrev pub going : Unacknowledged → Option Carried → List Carried
going kept None = kept.packets
going kept (Some packet) = kept.packets ++ packet ∷ []

-- without those at the front of which it has every command
abbrev pub without : ℕ → List Carried → List Carried
without count [] = []
without count (packet ∷ packets) =
    if nat_le (end_of packet) count then without count packets else packet ∷ packets

-- the peer has so many commands
abbrev pub acknowledged : Unacknowledged → ℕ → Unacknowledged
acknowledged kept count =
    record {
      packets = without count kept.packets;
      covered = max kept.covered count;
      done = max kept.done count;
    }

-- one of the packets has the command of a tic
abbrev pub has_tic : ℕ → List Carried → Bool
has_tic tic [] = false
has_tic tic (packet ∷ packets) =
    (nat_le packet.start tic && nat_lt tic (end_of packet)) || has_tic tic packets

-- they have each command that the peer still needs, up to the last that they cover
abbrev pub IsCovering : Unacknowledged → Type 0
IsCovering kept = (tic : ℕ) → kept.done ≤ tic → tic < kept.covered → has_tic tic kept.packets ≡ true

-- each packet ends past those before it: the first past the commands that the peer needs no more, and the last
-- not past what they cover
abbrev pub IsRising : ℕ → List Carried → ℕ → Type 0
IsRising done [] covered = done ≤ covered
IsRising done (packet ∷ packets) covered = (done < end_of packet) × IsRising (end_of packet) packets covered

abbrev pub IsKeptRising : Unacknowledged → Type 0
IsKeptRising kept = IsRising kept.done kept.packets kept.covered

pub IsRising-prop : (done : ℕ) (packets : List Carried) (covered : ℕ) → IsProp (IsRising done packets covered)
IsRising-prop done [] covered = Prim.hlevel props
IsRising-prop done (packet ∷ packets) covered =
    ×_prop (Prim.hlevel props) (IsRising-prop (end_of packet) packets covered)

-- what they cover reaches the end of a packet that is given: it did before; or the packet begins there or
-- before, and there is room to keep it
abbrev pub Reaches : Unacknowledged → Carried → Type 0
Reaches kept packet =
    (end_of packet ≤ kept.covered) ⊎ ((packet.start ≤ kept.covered) × (length kept.packets < 24))
