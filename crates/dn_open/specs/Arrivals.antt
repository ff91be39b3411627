-- What a node does with a packet that was opened.
use Rattle.std.specs.Prelude.{◌≡◌, ℕ, ◌/◌, ◌%◌, ◌&&◌, ◌||◌, ◌==◌, Bool, true, false, not, bit_and, if◌then◌else◌, List, slice_index, Option, is_some, Result, Ok}
use Rattle.dn_packet.specs.declared.packet.Packet.{Packet}
use Rattle.dn_packet.specs.declared.packet.PacketFault.{PacketFault}
use Rattle.dn_packet.specs.Flags as flag
use Rattle.dn_packet.specs.Read as packet
use Rattle.dn_setup.specs.Settings.{Settings}
use Rattle.dn_setup.specs.declared.setup.SetupFault.{SetupFault}
use Rattle.dn_machine.specs.Flight.{Flight, request_byte, is_close, is_request_close}
use Rattle.dn_machine.specs.Game.{Game, applied}
use Rattle.dn_machine.specs.Node.{Node, made}
use Rattle.dn_machine.specs.Limits.{Limits}
use Rattle.dn_machine.specs.Worlds.{Rules}
use Rattle.dn_machine.specs.declared.answers.Heard.{Heard}
use Rattle.dn_machine.specs.declared.events.Done.{Done}
use Rattle.dn_machine.specs.declared.events.Event.TheVariants.{Deliver}
use Rattle.dn_lockstep.specs.Contents.{Contents, whose}
use Rattle.dn_lockstep.specs.Received.{received, IsTold}
use Rattle.dn_lockstep.specs.Steps.{Simulates}
use Rattle.dn_seal.specs.declared.opened.Opened.{Opened}
use Rattle.dn_open.specs.Sealed.{IsSmall}
use Rattle.dn_open.specs.declared.hearing.Arrived.{Arrived}

-- a datagram is heard, and this is the answer
abbrev pub heard : Node × Heard → Node × Arrived
heard after = (after.0, Arrived.Heard after.1)

-- a flag of a datagram: the upper half of its fourth byte has the flags
abbrev pub flag_in : List ℕ → ℕ → Bool
flag_in bytes which = not (bit_and (slice_index bytes 3 / 16) which == 0)

-- a datagram asks for commands again as what is beside it does: from the tic of this low byte, or not at all
abbrev pub asks_alike : List ℕ → Option ℕ → Bool
asks_alike datagram ask =
    slice_index datagram 4 == request_byte ask
    && (if is_some ask then flag_in datagram flag.retransmit else not (flag_in datagram flag.retransmit))

-- A datagram has the same sender as what is beside it, and the low bytes of the start and of the request there,
-- or asks for nothing, as that does. A set-up datagram has none of these
abbrev pub is_alike : Opened → Bool
is_alike opened =
    flag_in opened.datagram.items flag.set_up
    || (slice_index opened.datagram.items 6 == opened.from
    && (slice_index opened.datagram.items 5 == opened.start % 256
    && asks_alike opened.datagram.items opened.ask))

-- its tics are near: it is received if it is like the numbers beside it
abbrev pub on_close : Limits → ℕ → Node → Opened → Result Packet PacketFault → Result Settings SetupFault
    → Node × Arrived
on_close limits me m opened read told =
    if is_alike opened then heard (received limits me m opened.from told read) else (m, Arrived.Unlike)

-- A packet was opened, whose datagram is read so, and has these settings if it is a set-up packet. It is
-- dropped if one of its tics is more than 64 away, or if the datagram is not like the numbers beside it; else
-- it is received as its sender's
abbrev pub on_opened : Limits → ℕ → Node → Opened → Result Packet PacketFault → Result Settings SetupFault
    → Node × Arrived
on_opened limits me m opened read told =
    if is_close (made me m) opened.start && is_request_close (made me m) opened.ask
    then on_close limits me m opened read told
    else (m, Arrived.Late)

-- the datagram that was opened is read so, and has these settings
abbrev pub IsRead : Opened → Result Packet PacketFault → Result Settings SetupFault → Type 0
IsRead opened read told = packet.IsReadAs opened.datagram.items read × IsTold read told

-- what was opened so is heard, and the lockstep stays the same player's
pub record HearsOpened (opened : Opened) (old new : Contents) (answer : Arrived) : Type 0 where
  pub same : whose new ≡ whose old
  pub step : (read : Result Packet PacketFault) (told : Result Settings SetupFault) → IsRead opened read told
      → Simulates old new (λ limits me m. on_opened limits me m opened read told) (λ x. answer ≡ x)
  pub small : IsSmall old

-- what is dropped changes nothing
abbrev pub SparesSealed : Contents → Contents → Arrived → Type 0
SparesSealed old new Arrived.Late = new ≡ old
SparesSealed old new Arrived.Unlike = new ≡ old
SparesSealed old new (Arrived.Heard heard) = (number : ℕ) → heard ≡ Heard.Dropped number → new ≡ old

-- the tics of a packet lie within 64 of this number of commands
abbrev pub is_timely : ℕ → Flight → Bool
is_timely made flight = is_close made flight.start && is_request_close made flight.request

-- the answer to this packet, the one of this number that was sent, by its receiver, who has made so many commands:
-- what the delivery of the packet answers, if its tics lie within 64 of that number; else that it is late
abbrev pub IsDeliveredAs : {S : Type 0} → Rules S → Game → (made which : ℕ) → Flight → Arrived → Type 0
IsDeliveredAs rules game made which flight (Arrived.Heard heard) =
    (is_timely made flight ≡ true) × ((applied rules game (Deliver which)).1 ≡ Ok (Done.Heard heard))
IsDeliveredAs rules game made which flight Arrived.Late = is_timely made flight ≡ false
IsDeliveredAs rules game made which flight Arrived.Unlike = ⊥
