-- Where things stand in the bytes of a demo (g_game.c, G_DoPlayDemo and G_ReadDemoTiccmd).
use Rattle.std.specs.Prelude.{◌≡◌, ◌≢◌, ◌<◌, ◌⊎◌, ℕ, ◌+◌, ◌-◌, ◌*◌, ◌/◌, Bool, true, false, not, ◌==◌, List, [], ◌∷◌, length, map, take, drop, slice_get, slice_index, Option, Some, None}
use Rattle.std.specs.List.{range_with_len}
use Rattle.dn_tic.specs.declared.command.Move.{Move}
use Rattle.dn_setup.specs.declared.settings.Start.{Start}
use Rattle.dn_demo.specs.Layout.{Layout, layout_of_version, command_size, tell}
use Rattle.dn_demo.specs.Text.{player_count, marker, header_size}

-- the layout by the first byte, if demos of its version are read
abbrev pub layout_in : List ℕ → Option Layout
layout_in bytes = layout_of_version (slice_index bytes 0)

-- what the game starts from
abbrev pub start_in : List ℕ → Start
start_in bytes =
    record {
      skill = slice_index bytes 1;
      episode = slice_index bytes 2;
      map = slice_index bytes 3;
      deathmatch = slice_index bytes 4;
      respawn = slice_index bytes 5;
      fast = slice_index bytes 6;
      no_monsters = slice_index bytes 7;
    }

-- whether a byte stands for true
abbrev pub is_set : ℕ → Bool
is_set byte = not (byte == 0)

-- which players are present
abbrev pub seats_in : List ℕ → List Bool
seats_in bytes =
    is_set (slice_index bytes 9) ∷ is_set (slice_index bytes 10) ∷ is_set (slice_index bytes 11)
    ∷ is_set (slice_index bytes 12) ∷ []

-- the place of a command, counted from 0
abbrev pub place : Layout → ℕ → ℕ
place layout command = header_size + command_size layout * command

-- the bytes of a command
abbrev pub command_in : Layout → List ℕ → ℕ → List ℕ
command_in layout bytes command = take (command_size layout) (drop (place layout command) bytes)

-- the move that a command tells
abbrev pub move_at : Layout → List ℕ → ℕ → Move
move_at layout bytes command = tell layout (command_in layout bytes command)

-- a move for each player who is present, and each has the command after that of the one before
abbrev pub moves_from : Layout → List ℕ → List Bool → ℕ → List (Option Move)
moves_from layout bytes [] command = []
moves_from layout bytes (true ∷ seats) command =
    Some (move_at layout bytes command) ∷ moves_from layout bytes seats (command + 1)
moves_from layout bytes (false ∷ seats) command = None ∷ moves_from layout bytes seats command

-- how many whole commands the bytes have
abbrev pub commands_in : Layout → List ℕ → ℕ
commands_in layout bytes = (length bytes - header_size) / command_size layout

-- the row of a tic, behind those of the tics before it: each has a command for each player who is present
abbrev pub row_in : Layout → List ℕ → ℕ → List (Option Move)
row_in layout bytes tic = moves_from layout bytes (seats_in bytes) (player_count (seats_in bytes) * tic)

-- the rows of the first tics
abbrev pub rows_in : Layout → List ℕ → ℕ → List (List (Option Move))
rows_in layout bytes tics = map (row_in layout bytes) (range_with_len 0 tics)

-- no marker is at the place of one of the first commands
abbrev pub HasNoMarker : Layout → List ℕ → ℕ → Type 0
HasNoMarker layout bytes commands =
    (command : ℕ) → command < commands → slice_get bytes (place layout command) ≢ Some marker

-- the marker stands behind `commands` commands: it is at the place of the next, and at no place before
pub record EndsBehind (layout : Layout) (bytes : List ℕ) (commands : ℕ) : Type 0 where
  pub marked : slice_get bytes (place layout commands) ≡ Some marker
  pub first : HasNoMarker layout bytes commands

-- no marker is at the place of any command
abbrev pub IsUnmarked : Layout → List ℕ → Type 0
IsUnmarked layout bytes = (command : ℕ) → slice_get bytes (place layout command) ≢ Some marker

-- this many whole commands stand before the marker, or before the end where there is no marker
abbrev pub HasCommands : Layout → List ℕ → ℕ → Type 0
HasCommands layout bytes commands =
    EndsBehind layout bytes commands ⊎ (IsUnmarked layout bytes × (commands ≡ commands_in layout bytes))
