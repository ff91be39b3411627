-- The bytes of a report, and what bytes are read as.
use Rattle.std.specs.Prelude.{◌≡◌, ◌<◌, ◌≤◌, ◌+◌, ◌*◌, ◌^◌, ℕ, suc, Bool, true, false, List, [], ◌∷◌, ◌++◌, length, All, ◌≢◌, ◌⊎◌, ◌/◌, ◌%◌, ◌==◌, nat_lt, if◌then◌else◌, take, drop, slice_index, Option, Some, None, Result, Ok, Err}
use Rattle.std.specs.List.{flat_map}
use Rattle.std.specs.Int.{w32, to_le_bytes, from_le_bytes}
use Rattle.dn_tic.specs.Command.{command_bytes, IsCommand}
use Rattle.dn_survivor.specs.declared.report.Report.{Report}
use Rattle.dn_survivor.specs.declared.report.Tail.{Tail}
use Rattle.dn_survivor.specs.declared.report.ReportFault.{ReportFault}
use Rattle.dn_survivor.specs.declared.report.ReportFault.TheVariants.{Empty, Bits, Third, Short, Player, Order, Many, Surplus, Cut}

-- The bytes of a report.

-- a bit
abbrev pub bit : Bool → ℕ
bit true = 1
bit false = 0

-- the number of these bits, the lowest first
abbrev pub number_of : List Bool → ℕ
number_of [] = 0
number_of (first ∷ rest) = bit first + 2 * number_of rest

-- bits 0 to 3: whom the sender has given up; bit 7: it has left
abbrev pub first_byte : Report → ℕ
first_byte report = number_of report.gone + 128 * bit report.left

-- of one player: its number, how many commands the sender has, how many of the last follow, and these
abbrev pub tail_bytes : Tail → List ℕ
tail_bytes tail =
    tail.player
    ∷ (to_le_bytes w32 tail.count ++ length tail.commands.items ∷ flat_map command_bytes tail.commands.items)

-- the bytes of a report
abbrev pub report_bytes : Report → List ℕ
report_bytes report = first_byte report ∷ flat_map tail_bytes report.told.items

-- the numbers fit, and the commands are among those that the sender has
pub record IsTail (tail : Tail) : Type 0 where
  pub player : tail.player < 4
  pub count : tail.count < 2 ^ 32
  pub few : length tail.commands.items ≤ 24
  pub had : length tail.commands.items ≤ tail.count
  pub commands : All IsCommand tail.commands.items

-- the numbers of the players rise, from this one on
abbrev pub AreInOrder : ℕ → List Tail → Type 0
AreInOrder least [] = Unit {0}
AreInOrder least (tail ∷ tails) = (least ≤ tail.player) × AreInOrder (suc tail.player) tails

-- players may be told so: at most two, in order of their numbers
pub record AreTold (told : List Tail) : Type 0 where
  pub few : length told ≤ 2
  pub order : AreInOrder 0 told
  pub tails : All IsTail told

-- it can be told so
pub record IsReport (report : Report) : Type 0 where
  pub four : length report.gone ≡ 4
  pub told : AreTold report.told.items

-- What bytes are read as.

-- bits 4 to 6 of the first byte, which mean nothing
abbrev pub free_bits : List ℕ → ℕ
free_bits bytes = slice_index bytes 0 / 16 % 8

-- what the bytes of a player tell: how many commands the sender has, and how many follow
abbrev pub told_count : List ℕ → ℕ
told_count bytes = from_le_bytes w32 (take 4 (drop 1 bytes))

abbrev pub told_number : List ℕ → ℕ
told_number bytes = slice_index bytes 5

-- the least number of a player that may stand behind these
abbrev pub next_after : ℕ → List Tail → ℕ
next_after least [] = least
next_after least (tail ∷ tails) = next_after (suc tail.player) tails

-- the first fault of bytes behind those of so many players, where the next may have this number or a higher
-- one; none, where the bytes of a player stand in front, or nothing
unfoldable pub fault_at : ℕ → ℕ → List ℕ → Option ReportFault
fault_at before least bytes =
    if length bytes == 0 then None else (
    if before == 2 then Some Third else (
    if nat_lt (length bytes) 6 then Some Short else (
    if nat_lt 3 (slice_index bytes 0) then Some Player else (
    if nat_lt (slice_index bytes 0) least then Some Order else (
    if nat_lt 24 (told_number bytes) then Some Many else (
    if nat_lt (told_count bytes) (told_number bytes) then Some Surplus else (
    if nat_lt (length bytes) (6 + 8 * told_number bytes) then Some Cut else None)))))))

-- a player's bytes stand in front
pub record IsFirst (before least : ℕ) (bytes : List ℕ) : Type 0 where
  pub another : before ≢ 2
  pub long : 6 ≤ length bytes
  pub player : slice_index bytes 0 ≤ 3
  pub order : least ≤ slice_index bytes 0
  pub few : told_number bytes ≤ 24
  pub had : told_number bytes ≤ told_count bytes
  pub whole : 6 + 8 * told_number bytes ≤ length bytes

-- players are told, and the bytes behind theirs have this fault
abbrev pub HasFault : List ℕ → ReportFault → Type 0
HasFault bytes fault =
    (told : List Tail) × (rest : List ℕ) × AreTold told × (bytes ≡ flat_map tail_bytes told ++ rest)
    × (fault_at (length told) (next_after 0 told) rest ≡ Some fault)

-- the fault of the first byte
abbrev pub first_fault : List ℕ → Option ReportFault
first_fault bytes =
    if length bytes == 0 then Some Empty else (if free_bits bytes == 0 then None else Some Bits)

-- a report whose bytes these are, or the first fault that they have
abbrev pub IsReadAs : List ℕ → Result Report ReportFault → Type 0
IsReadAs bytes (Ok report) = IsReport report × (bytes ≡ report_bytes report)
IsReadAs bytes (Err fault) = (first_fault bytes ≡ Some fault)
    ⊎ ((first_fault bytes ≡ None) × HasFault (drop 1 bytes) fault)
