-- A ring of some places: how many commands were put, and the last of them, as many as it has places.
use Rattle.std.specs.Prelude.{◌≡◌, ◌<◌, ◌≤◌, ℕ, ◌+◌, ◌-◌, ◌%◌, ◌^◌, min, pos, ◌&&◌, List, [], ◌∷◌, ◌++◌, length, map, drop, Option, None, Some, nat_lt, nat_le, if◌then◌else◌, All, slice_get, slice_index_or}
use Rattle.std.specs.List.{range_with_len}
use Rattle.dn_tic.specs.Command.{IsCommand}
use Rattle.dn_tic.specs.declared.command.TicCmd.{TicCmd}

pub record Ring : Type 0 where
  pub count : ℕ
  pub last : List TicCmd

abbrev pub empty : Ring
empty = record { count = 0; last = [] }

-- the last of a list, as many as there are places
abbrev pub last_of : ℕ → List TicCmd → List TicCmd
last_of places commands = drop (length commands - places) commands

-- the ring that a whole list of commands was put into
abbrev pub ring_of : ℕ → List TicCmd → Ring
ring_of places commands = record { count = length commands; last = last_of places commands }

-- one more command
abbrev pub put : ℕ → Ring → TicCmd → Ring
put places ring command = record { count = ring.count + 1; last = last_of places (ring.last ++ command ∷ []) }

-- the command of a tic, where it is one of the last
abbrev pub get : ℕ → Ring → ℕ → Option TicCmd
get places ring tic =
    if nat_lt tic ring.count && nat_le (ring.count - tic) places
    then slice_get ring.last (length ring.last - (ring.count - tic))
    else None

-- the commands from a tic on, as far as they are of the last
abbrev pub since : Ring → ℕ → List TicCmd
since ring tic = drop (length ring.last - (ring.count - tic)) ring.last

-- the command of eight zero bytes
abbrev pub no_command : TicCmd
no_command = record { forward = pos 0; side = pos 0; turn = pos 0; mark = pos 0; chat = 0; buttons = 0 }

-- the table of a whole list of commands: the slot of each of the last has it, and a slot that no command has
-- taken is zero (`d_net.c`: command t stands in slot t % BACKUPTICS)
pub record AreSlotsOf (places : ℕ) (commands slots : List TicCmd) : Type 0 where
  pub full : length slots ≡ places
  pub taken : (tic : ℕ) (command : TicCmd) → length commands ≤ tic + places
      → slice_get commands tic ≡ Some command
      → slice_get slots (tic % places) ≡ Some command
  pub free : (slot : ℕ) → length commands ≤ slot → slot < places → slice_get slots slot ≡ Some no_command

-- the command in the slot of a tic
abbrev pub in_slot : ℕ → List TicCmd → ℕ → TicCmd
in_slot places slots tic = slice_index_or slots (tic % places) no_command

-- the last commands of this many, by their table
abbrev pub last_in : ℕ → ℕ → List TicCmd → List TicCmd
last_in places count slots = map (in_slot places slots) (range_with_len (count - places) (min count places))

-- a table of `count` commands, each in the ranges of its fields
pub record IsTable (places count : ℕ) (slots : List TicCmd) : Type 0 where
  pub some : 0 < places
  pub small : places < 2 ^ 31
  pub full : length slots ≡ places
  pub free : (slot : ℕ) → count ≤ slot → slot < places → slice_index_or slots slot no_command ≡ no_command
  pub valid : All IsCommand slots
