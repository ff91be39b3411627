-- The packets that a datagram carries.
use Rattle.std.specs.{Prelude.{ℕ, zero, suc, ◌+◌, ◌/◌, ◌%◌, ◌^◌, List, [], ◌∷◌, ◌++◌, length, take, drop, Bool, ◌&&◌, not, nat_le, slice_index, if◌then◌else◌, None, false}, List.flat_map}
use Rattle.byteorder.specs.Endian.{little_bytes}
use Rattle.dn_packet.specs.Text.{sum_of}
use Rattle.dn_seal.specs.declared.opened.Opened.{Opened}
use Rattle.dn_link.specs.declared.bundle.{Bundle.Bundle, Carried.Carried, Part.{Part, TheVariants.{Whole, Run, Relay}}}
use Rattle.dn_link.specs.declared.bundle.Relay as relay

-- a packet as it would be opened, had it come alone in its sender's envelope
abbrev pub opened_from : ℕ → Carried → Opened
opened_from from packet =
    record { from = from; start = packet.start; ask = packet.ask; datagram = packet.datagram }

-- what stands behind the sum in a packet of one command, without a request or a flag
abbrev pub short_body : ℕ → ℕ → List ℕ → List ℕ
short_body from start command = 0 ∷ start % 2 ^ 8 ∷ from ∷ 1 ∷ command

-- the packet of one command, of eight bytes, without a request or a flag
abbrev pub short_packet : ℕ → ℕ → List ℕ → Carried
short_packet from start command =
    record {
      start = start;
      ask = None;
      datagram = record {
        items = little_bytes 4 (sum_of (short_body from start command)) ++ short_body from start command;
      };
    }

-- so many of them, each for the tic after the one before; tics have 32 bits
abbrev pub short_packets : ℕ → ℕ → ℕ → List ℕ → List Opened
short_packets zero from start commands = []
short_packets (suc n) from start commands =
    opened_from from (short_packet from start (take 8 commands))
    ∷ short_packets n from ((start + 1) % 2 ^ 32) (drop 8 commands)

-- what a part stands for
abbrev pub packets_of : ℕ → Part → List Opened
packets_of from (Whole packet) = opened_from from packet ∷ []
packets_of from (Run run) = short_packets (length run.commands.items / 8) from run.start run.commands.items
packets_of from (Relay relay) =
    short_packets (length relay.run.commands.items / 8) relay.player relay.run.start relay.run.commands.items

-- commands of a third player are taken who is not given up, and none past a gap: they begin where those end
-- that are there already, or before
abbrev pub takes_relay : (ℕ → Bool) → List ℕ → relay.Relay → Bool
takes_relay gone counts relay =
    not (gone relay.player) && nat_le relay.run.start (slice_index counts relay.player)

-- what is heard of a part: of what is handed on, what is taken
abbrev pub heard_of : (relay.Relay → Bool) → ℕ → Part → List Opened
heard_of takes from (Whole packet) = packets_of from (Whole packet)
heard_of takes from (Run run) = packets_of from (Run run)
heard_of takes from (Relay relay) = if takes relay then packets_of from (Relay relay) else []

-- what is heard of a datagram
abbrev pub heard_in : (relay.Relay → Bool) → Bundle → List Opened
heard_in takes bundle = flat_map (heard_of takes bundle.from) bundle.parts.items

-- what it carries of its sender's own packets, oldest first
abbrev pub own_in : Bundle → List Opened
own_in bundle = heard_in (λ relay. false) bundle

-- what a datagram carries, oldest first
abbrev pub packets_in : Bundle → List Opened
packets_in bundle = flat_map (packets_of bundle.from) bundle.parts.items
