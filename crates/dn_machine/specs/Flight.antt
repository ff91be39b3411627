-- A packet under way, by exact numbers.
use Rattle.std.specs.Prelude.{ℕ, ◌+◌, ◌-◌, ◌%◌, Bool, true, false, not, ◌&&◌, nat_lt, List, length, Option, Some, None}
use Rattle.dn_tic.specs.declared.command.TicCmd.{TicCmd}
use Rattle.dn_packet.specs.declared.packet.Packet.{Packet}
use Rattle.dn_packet.specs.Flags as flag
use Rattle.dn_setup.specs.Settings.{Settings}
use Rattle.dn_setup.specs.Setup.{setup_packet}

pub data Kind : Type 0 where
  SetUp : (settings : Settings) → Kind
  Play : Kind
  Exit : Kind

-- who sends it to whom, of what kind, and the tics and commands that it carries; a set-up packet carries none
pub record Flight : Type 0 where
  pub from : ℕ
  pub to : ℕ
  pub kind : Kind
  -- the tic of the first command
  pub start : ℕ
  -- the first tic that the sender asks to be sent again
  pub request : Option ℕ
  pub commands : List TicCmd

-- a packet by which its sender tells that it has left (d_net.c, NCMD_EXIT)
abbrev pub is_exit : Kind → Bool
is_exit (SetUp settings) = false
is_exit Play = false
is_exit Exit = true

-- the tic after the last command
abbrev pub end_of : Flight → ℕ
end_of flight = flight.start + length flight.commands

-- the flag of a packet with a request
abbrev pub request_flag : Option ℕ → ℕ
request_flag None = 0
request_flag (Some tic) = flag.retransmit

-- the low byte of a request, and 0 for none
abbrev pub request_byte : Option ℕ → ℕ
request_byte None = 0
request_byte (Some tic) = tic % 256

-- a packet of commands: low bytes for the exact numbers, and its sender
abbrev pub commands_packet : ℕ → Flight → Packet
commands_packet flags flight =
    record {
      flags = flags + request_flag flight.request;
      ask = request_byte flight.request;
      start = flight.start % 256;
      player = flight.from;
      cmds = record { items = flight.commands };
    }

-- the packet that a flight goes out as
abbrev pub packet_of_kind : Flight → Kind → Packet
packet_of_kind flight (SetUp settings) = setup_packet settings
packet_of_kind flight Play = commands_packet 0 flight
packet_of_kind flight Exit = commands_packet flag.exit flight

abbrev pub packet_of : Flight → Packet
packet_of flight = packet_of_kind flight flight.kind

-- how far two tics lie apart
abbrev pub distance : ℕ → ℕ → ℕ
distance a b = (a - b) + (b - a)

-- a tic lies within 64 of a count
abbrev pub is_close : ℕ → ℕ → Bool
is_close made tic = not (nat_lt 64 (distance tic made))

-- a request lies within 64 tics of a count, if there is one
abbrev pub is_request_close : ℕ → Option ℕ → Bool
is_request_close made None = true
is_request_close made (Some tic) = is_close made tic

-- a packet is near a node that made this many commands; a set-up packet always is
abbrev pub is_near : ℕ → Flight → Bool
is_near made flight =
    elim flight.kind [
      | SetUp settings ↦ true
      | _ ↦ is_close made flight.start && is_request_close made flight.request
    ]
