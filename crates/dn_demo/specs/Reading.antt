-- What the bytes of a demo are read as.
use Rattle.std.specs.Prelude.{◌≡◌, ◌<◌, ◌≤◌, ◌⊎◌, ℕ, ◌+◌, ◌-◌, ◌/◌, ◌%◌, Bool, true, List, [], length, fold, slice_index, Option, Some, None, is_some, Result, Ok, Err}
use Rattle.dn_tic.specs.declared.command.Move.{Move}
use Rattle.dn_setup.specs.declared.settings.Start.{Start}
use Rattle.dn_world.specs.Physics.{Physics}
use Rattle.dn_demo.specs.Layout.{Layout}
use Rattle.dn_demo.specs.Text.{player_count, header_size}
use Rattle.dn_demo.specs.Places.{layout_in, start_in, seats_in, place, rows_in, EndsBehind, IsUnmarked, HasCommands}
use Rattle.dn_demo.specs.declared.demo.DemoFault.{DemoFault}
use Rattle.dn_demo.specs.declared.demo.DemoFault.TheVariants.{Short, Version, NoPlayers, NoMarker, Memory}

-- a demo that was read: its header, the rows of its whole tics, how many commands of a cut tic follow them,
-- and how many bytes follow the marker
pub record Recording : Type 0 where
  pub version : ℕ
  pub start : Start
  pub view : ℕ
  pub present : List Bool
  pub rows : List (List (Option Move))
  pub cut : ℕ
  pub after : ℕ

-- the demo of these bytes, with `commands` before its marker and `after` bytes behind it: a tic has a command
-- for each player who is present
abbrev pub recording : Layout → List ℕ → ℕ → ℕ → Recording
recording layout bytes commands after =
    let players = player_count (seats_in bytes) in
    record {
      version = slice_index bytes 0;
      start = start_in bytes;
      view = slice_index bytes 8;
      present = seats_in bytes;
      rows = rows_in layout bytes (commands / players);
      cut = commands % players;
      after = after;
    }

-- the demo of these rows alone
abbrev pub written_demo : Layout → Start → ℕ → List Bool → List (List (Option Move)) → Recording
written_demo layout start view present rows =
    record {
      version = layout.version;
      start = start;
      view = view;
      present = present;
      rows = rows;
      cut = 0;
      after = 0;
    }

-- the header of a demo in this layout, in which somebody plays
pub record HasHeader (layout : Layout) (bytes : List ℕ) : Type 0 where
  pub whole : header_size ≤ length bytes
  pub known : layout_in bytes ≡ Some layout
  pub somebody : 0 < player_count (seats_in bytes)

-- What the bytes are read as: a demo, or the first fault that they have. Memory can be refused only for a
-- demo.
abbrev pub IsReadAs : List ℕ → Result Recording DemoFault → Type 0
IsReadAs bytes (Ok demo) =
    (layout : Layout) × HasHeader layout bytes
    × ((commands : ℕ) × EndsBehind layout bytes commands
    × (demo ≡ recording layout bytes commands (length bytes - (place layout commands + 1))))
IsReadAs bytes (Err Short) = length bytes < header_size
IsReadAs bytes (Err Version) = (header_size ≤ length bytes) × (layout_in bytes ≡ None)
IsReadAs bytes (Err NoPlayers) =
    (header_size ≤ length bytes) × (is_some (layout_in bytes) ≡ true) × (player_count (seats_in bytes) ≡ 0)
IsReadAs bytes (Err NoMarker) =
    (layout : Layout) × HasHeader layout bytes × IsUnmarked layout bytes
IsReadAs bytes (Err Memory) = (layout : Layout) × HasHeader layout bytes
    × ((commands : ℕ) × EndsBehind layout bytes commands)

-- two readings are the same, but that one may be refused for `Memory`
abbrev pub IsSameButMemory : Result Recording DemoFault → Result Recording DemoFault → Type 0
IsSameButMemory one other = (one ≡ other) ⊎ (one ≡ Err Memory) ⊎ (other ≡ Err Memory)

-- the state of a world that begins like this, and is stepped by each of these rows
abbrev pub state_through : {S : Type 0} → Physics S → Start → List Bool → List (List (Option Move)) → S
state_through physics start present rows = fold physics.step (physics.begin start present) rows

-- the state of a world in which the demo was played
abbrev pub state_after : {S : Type 0} → Physics S → Recording → S
state_after physics demo = state_through physics demo.start demo.present demo.rows

-- the rows that bytes have, whether they are a demo or not: those of the whole tics before the marker, or
-- before the end where there is no marker; and none without a whole header in which somebody plays
pub record HasRows (bytes : List ℕ) (rows : List (List (Option Move))) : Type 0 where
  pub some : (layout : Layout) → HasHeader layout bytes
      → (commands : ℕ) × HasCommands layout bytes commands
      × (rows ≡ rows_in layout bytes (commands / player_count (seats_in bytes)))
  pub none : ((layout : Layout) → ¬ HasHeader layout bytes) → rows ≡ []
