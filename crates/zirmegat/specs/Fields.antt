-- A datagram's packet as plain fields.
use Rattle.std.specs.Prelude.{◌≡◌, ℕ, ℤ, pos, List, [], ◌∷◌, length, map, take, slice_get, Option, Some, None, Result, Ok, Err}
use Rattle.dn_tic.specs.declared.command.TicCmd.{TicCmd}
use Rattle.dn_packet.specs.declared.packet.Head.{Head}
use Rattle.dn_packet.specs.declared.packet.Packet.{Packet}
use Rattle.dn_packet.specs.declared.packet.PacketFault.{PacketFault}
use Rattle.dn_packet.specs.Text.{packet_with}
use Rattle.zirmegat.specs.declared.packets.SentCommand.{SentCommand}
use Rattle.zirmegat.specs.declared.packets.PacketFields.{PacketFields}

-- a command of these numbers, as C has it
abbrev pub fields : ℤ → ℤ → ℤ → ℤ → ℕ → ℕ → SentCommand
fields turn mark forward side chat buttons =
    record { turn = turn; mark = mark; forward = forward; side = side; chat = chat; buttons = buttons }

-- a command, and all 0 for none
abbrev pub sent_told : Option TicCmd → SentCommand
sent_told (Some c) = fields c.turn c.mark c.forward c.side c.chat c.buttons
sent_told None = fields (pos 0) (pos 0) (pos 0) (pos 0) 0 0

abbrev pub sent_in : SentCommand → TicCmd
sent_in f =
    record { forward = f.forward; side = f.side; turn = f.turn; mark = f.mark; chat = f.chat; buttons = f.buttons }

-- what twelve places have
abbrev pub twelve : {A : Type 0} → (ℕ → A) → List A
twelve at = at 0 ∷ at 1 ∷ at 2 ∷ at 3 ∷ at 4 ∷ at 5 ∷ at 6 ∷ at 7 ∷ at 8 ∷ at 9 ∷ at 10 ∷ at 11 ∷ []

-- the fields of these flags, this request, start and player, with `count` commands
abbrev pub fields_with : ℕ → ℕ → ℕ → ℕ → ℕ → List SentCommand → PacketFields
fields_with flags ask start player count commands =
    record { flags = flags; ask = ask; start = start; player = player; count = count; commands = commands }

-- the fields of a packet, with a place for each of twelve commands
abbrev pub fields_of : Packet → PacketFields
fields_of p =
    fields_with p.flags p.ask p.start p.player (length p.cmds.items)
    (twelve (λ place. sent_told (slice_get p.cmds.items place)))

abbrev pub head_in : PacketFields → Head
head_in f = record { flags = f.flags; ask = f.ask; start = f.start; player = f.player }

-- the packet of some fields: the first `count` commands
abbrev pub packet_in : PacketFields → Packet
packet_in f = packet_with (head_in f) (map sent_in (take f.count f.commands))

-- why bytes are no packet
abbrev pub packet_code : PacketFault → ℕ
packet_code PacketFault.Short = 1
packet_code PacketFault.Many = 2
packet_code PacketFault.Length = 3
packet_code PacketFault.Sum = 4

-- what a reading is told as: 0 and the fields, or the number of the fault
abbrev pub IsDecodedAs : Result Packet PacketFault → ℕ → PacketFields → PacketFields → Type 0
IsDecodedAs (Ok packet) code old new = (code ≡ 0) × (new ≡ fields_of packet)
IsDecodedAs (Err fault) code old new = (code ≡ packet_code fault) × (new ≡ old)
