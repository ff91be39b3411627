-- The packet that a node gives to a peer, and the flights that a node hears exactly: it reads in their
-- packets the numbers that they were sent with.
use Rattle.std.specs.Prelude.{ℕ, nat_lt, if◌then◌else◌, List, length, Option, None, ◌≡◌, false}
use Rattle.std.specs.List.{list_any}
use Rattle.dn_packet.specs.Text.{text, IsPacket}
use Rattle.dn_setup.specs.Settings.{IsSettings}
use Rattle.dn_machine.specs.Limits.{Limits}
use Rattle.dn_machine.specs.Flight.{Flight, packet_of, Kind, SetUp, Play, Exit}
use Rattle.dn_machine.specs.Node as machine
use Rattle.dn_machine.specs.declared.answers.Phase.{Phase}
use Rattle.dn_machine.specs.declared.answers.Phase.TheVariants.{Listening, Gathering, Playing, Ended}
use Rattle.dn_machine.specs.Sending.{on_send, after_sent}
use Rattle.dn_lockstep.specs.declared.lockstep.aiming.Aim.{Aim}
use Rattle.dn_lockstep.specs.Tables.{is_stop}

-- as the machine sends; to a number that is no player's there is none
abbrev pub sent_to : ℕ → Limits → ℕ → machine.Node → machine.Node × Option Flight
sent_to to limits me m = if nat_lt to limits.players then on_send limits me m to else (m, None)

-- the node once a packet was given, by its phase
abbrev pub after_giving : Limits → ℕ → machine.Node → ℕ → Phase → machine.Node
after_giving limits me m to Listening = m
after_giving limits me m to Gathering = m
after_giving limits me m to Playing = after_sent limits me m to
after_giving limits me m to (Ended cause) = after_sent limits me m to

-- the exact numbers of a flight
abbrev pub aim_of : Flight → Aim
aim_of flight =
    record {
      flags = (packet_of flight).flags;
      ask = flight.request;
      start = flight.start;
      count = length flight.commands;
    }

-- the bytes of a flight
abbrev pub bytes_of : Flight → List ℕ
bytes_of flight = text (packet_of flight)

-- settings come from the key player, and no other packet has a command that would end a demo
abbrev pub IsFairKind : Flight → Kind → Type 0
IsFairKind flight (SetUp settings) = (flight.from ≡ 0) × IsSettings settings
IsFairKind flight Play = list_any is_stop flight.commands ≡ false
IsFairKind flight Exit = list_any is_stop flight.commands ≡ false

-- a flight that a packet can carry, as nodes send them
pub record IsFair (flight : Flight) : Type 0 where
  pub packet : IsPacket (packet_of flight)
  pub kind : IsFairKind flight flight.kind
