-- What a node must know to give a packet.
use Rattle.std.specs.Prelude.{◌≡◌, ◌≢◌, ◌<◌, ◌≤◌, ℕ, ◌+◌, ◌%◌, ◌==◌, nat_lt, Bool, true, false, not, ◌&&◌, List, take, Option, Some, None}
use Rattle.std.specs.Option.{option_map}
use Rattle.dn_ring.specs.Ring.{since}
use Rattle.dn_packet.specs.declared.packet.Packet.{Packet}
use Rattle.dn_packet.specs.Written.{IsGiven}
use Rattle.dn_machine.specs.declared.answers.Phase.{Phase}
use Rattle.dn_machine.specs.declared.answers.Phase.TheVariants.{Listening, Gathering, Playing, Ended}
use Rattle.dn_machine.specs.Flight.{request_byte}
use Rattle.dn_lockstep.specs.declared.lockstep.aiming.Aim.{Aim}
use Rattle.dn_lockstep.specs.Contents.{Contents}
use Rattle.dn_lockstep.specs.Tables.{count_of}
use Rattle.dn_lockstep.specs.Sent.{sent_to, bytes_of}
use Rattle.dn_lockstep.specs.Steps.{Steps}

-- its commands are among the last that are kept, and a packet carries them
pub record Reaches (n : Contents) (aim : Aim) : Type 0 where
  pub flags : aim.flags < 16
  pub low : aim.start + aim.count ≤ count_of n.rings n.me
  pub high : count_of n.rings n.me ≤ aim.start + n.places
  pub kept : n.places ≤ 24
  pub few : aim.count ≤ 12

-- the packet of these numbers, with as many of the own commands from its start on
abbrev pub packet_of_aim : Contents → Aim → Packet
packet_of_aim n aim =
    record {
      flags = aim.flags;
      ask = request_byte aim.ask;
      start = aim.start % 256;
      player = n.me;
      cmds = record { items = take aim.count (since (n.rings n.me) aim.start) };
    }

-- who can be given a packet: another player
pub record Gives (n : Contents) (to : ℕ) : Type 0 where
  pub below : to < n.players
  pub other : to ≢ n.me

-- whether it gives packets: not while it listens, and not where it has ended without a game
abbrev pub is_giving : Phase → Bool → Bool
is_giving Listening played = false
is_giving Gathering played = true
is_giving Playing played = true
is_giving (Ended cause) played = played

-- whether it gives one to this number: to every other player, where it gives any
abbrev pub gives : Contents → ℕ → Bool
gives n to = nat_lt to n.players && (not (to == n.me) && is_giving n.phase n.played)

-- the packet that the machine sends is written to the front of a room, and nothing where it sends none
abbrev pub IsSentTo : ℕ → Contents → Contents → List ℕ → List ℕ → ℕ → Type 0
IsSentTo to old new room written count =
    (given : Option (List ℕ)) × IsGiven given room written count
    × Steps old new (λ limits me m. sent_to to limits me m) (λ flight. given ≡ option_map bytes_of flight)

-- nothing is written where none is given, and the node stays as it is; and else at least the eight bytes of a
-- packet's head
abbrev pub IsSilent : ℕ → Contents → Contents → List ℕ → List ℕ → ℕ → Type 0
IsSilent to old new room written count =
    (gives old to ≡ true → 8 ≤ count) × (gives old to ≡ false → (count ≡ 0) × (new ≡ old) × (written ≡ room))

-- how many bytes a packet has that comes with its numbers
abbrev pub size_in : Option (Aim × ℕ) → ℕ
size_in None = 0
size_in (Some given) = given.1

-- and its numbers
abbrev pub aim_in : Option (Aim × ℕ) → Option Aim
aim_in given = option_map (λ (x : Aim × ℕ). x.0) given
