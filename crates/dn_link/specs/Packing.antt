-- Packets that are written as parts.
use Rattle.std.specs.{Prelude.{◌≡◌, ◌≢◌, ◌<◌, ◌≤◌, ℕ, ◌+◌, ◌*◌, ◌/◌, ◌%◌, ◌^◌, List, [], ◌∷◌, length, take, map, All, nat_lt, if◌then◌else◌, ◌++◌}, List.flat_map}
use Rattle.dn_seal.specs.declared.opened.Opened.{Opened}
use Rattle.dn_link.specs.{declared.{bundle.{Carried.Carried, Part.{Part, TheVariants.{Whole, Run, Relay}}}, packing.Packing.Packing}, Packets.{opened_from, packets_of, short_packet}, Text.{IsPart}}
use Rattle.dn_link.specs.declared.bundle.Run as run

-- how many bytes a part is given room for: as many as it takes with its commands whole
abbrev pub part_room : Part → ℕ
part_room (Whole packet) = 11 + length packet.datagram.items
part_room (Run run) = 5 + length run.commands.items
part_room (Relay relay) = 6 + length relay.run.commands.items

-- parts, behind their number
abbrev pub parts_room : List Part → ℕ
parts_room [] = 1
parts_room (part ∷ parts) = part_room part + parts_room parts

-- a packet stands whole only where no command of eight bytes tells it; and none is of a third player
abbrev pub IsNeeded : ℕ → Part → Type 0
IsNeeded from (Whole packet) =
    (command : List ℕ) → length command ≡ 8 → packet ≢ short_packet from packet.start command
IsNeeded from (Run run) = Unit {0}
IsNeeded from (Relay relay) = ⊥

-- a run that another goes on with, one tic after its last, has all of its twenty-four commands
abbrev pub IsEnded : Part → Part → Type 0
IsEnded (Run one) (Run other) =
    (one.start + length one.commands.items / 8) % 2 ^ 32 ≡ other.start → length one.commands.items ≡ 192
IsEnded one other = Unit {0}

-- each part, by the one behind it
abbrev pub AreEnded : List Part → Type 0
AreEnded (one ∷ other ∷ parts) = IsEnded one other × AreEnded (other ∷ parts)
AreEnded parts = Unit {0}

abbrev pub runs : Part → ℕ
runs (Run run) = 1
runs part = 0

-- how many of the parts are a last part that is a run: 1 or 0
abbrev pub runs_last : List Part → ℕ
runs_last [] = 0
runs_last (one ∷ []) = runs one
runs_last (one ∷ other ∷ parts) = runs_last (other ∷ parts)

-- the parts stand for these packets, oldest first, and no fewer parts could. They stand for all of them, unless
-- there may be no room for one more: there are twenty-four parts; or of 1,118 bytes of room fewer are left than a
-- whole packet takes, which is 115, and a run without commands, which is 5, where no run is the last
pub record ArePacked (from : ℕ) (packets : List Carried) (parts : List Part) : Type 0 where
  pub count : ℕ
  pub some : count ≤ length packets
  pub front : flat_map (packets_of from) parts ≡ take count (map (opened_from from) packets)
  pub all : count < length packets → length parts < 24 → 1118 + 5 * runs_last parts < parts_room parts + (5 + 115)
  pub needed : All (IsNeeded from) parts
  pub ended : AreEnded parts

-- Packets while they are written as parts. Contracts of private code alone cite this, and no public one.

-- up to twenty-four commands of eight bytes
pub record IsOpenRun (one : run.Run) : Type 0 where
  pub start : one.start < 2 ^ 32
  pub few : length one.commands.items ≤ 192
  pub whole : 8 * (length one.commands.items / 8) ≡ length one.commands.items

-- what was written so far: parts, and a run that may go on
abbrev pub packed : ℕ → Packing → List Opened
packed from p = flat_map (packets_of from) p.parts.items ++ packets_of from (Run p.run)

-- a run that has commands is a part
abbrev pub part_of : run.Run → List Part
part_of run = if nat_lt 0 (length run.commands.items) then Run run ∷ [] else []

-- behind these parts a run from this tic on is one that is needed
pub record MayFollow (from : ℕ) (parts : List Part) (start : ℕ) : Type 0 where
  pub needed : All (IsNeeded from) parts
  pub ended : (next : run.Run) → next.start ≡ start → AreEnded (parts ++ Run next ∷ [])

-- and so is what was written so far, with its open run; where that has no commands, a run may start at any tic
abbrev pub IsTight : ℕ → Packing → Type 0
IsTight from p =
    (start : ℕ) → (1 ≤ length p.run.commands.items → start ≡ p.run.start) → MayFollow from p.parts.items start

-- no run that is done is the last, unless another was begun
abbrev pub IsOpen : Packing → Type 0
IsOpen p = length p.run.commands.items ≡ 0 → runs_last p.parts.items ≡ 0

-- it fits: the parts have so many bytes of room, and with the run no more than there are
pub record IsPacking (p : Packing) : Type 0 where
  pub parts : All IsPart p.parts.items
  pub run : IsOpenRun p.run
  pub bytes : p.bytes ≡ parts_room p.parts.items
  pub few : length p.parts.items ≤ 24
  pub run_is_one : 1 ≤ length p.run.commands.items → length p.parts.items ≤ 23
  pub fit : p.bytes ≤ 1118
  pub run_fits : 1 ≤ length p.run.commands.items → p.bytes + 5 + length p.run.commands.items ≤ 1118

-- there is room for another packet, whatever it is
pub record HasRoom (p : Packing) : Type 0 where
  pub few : length p.parts.items ≤ 23
  pub run_is_one : 1 ≤ length p.run.commands.items → length p.parts.items ≤ 22
  pub fit : p.bytes + 5 + length p.run.commands.items + 115 ≤ 1118
