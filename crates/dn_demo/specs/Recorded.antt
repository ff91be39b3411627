-- What a recorder has written, and what a demo that was read is upgraded to.
use Rattle.std.specs.Prelude.{◌≡◌, ◌≤◌, ℕ, ◌+◌, ◌-◌, ◌*◌, ◌/◌, Bool, true, false, List, [], ◌∷◌, ◌++◌, Option, Result, Ok, Err, ◌<◌, length}
use Rattle.dn_tic.specs.declared.command.Move.{Move}
use Rattle.dn_setup.specs.declared.settings.Start.{Start}
use Rattle.dn_demo.specs.Layout.{long_tics, command_size}
use Rattle.dn_demo.specs.Text.{header_size, demo_text, player_count}
use Rattle.dn_demo.specs.declared.recorder.Stage.{Stage}
use Rattle.dn_demo.specs.declared.recorder.Stage.TheVariants.{Blank, Open, Closed}
use Rattle.dn_demo.specs.declared.recorder.RecorderFault.{RecorderFault}
use Rattle.dn_demo.specs.declared.recorder.RecorderFault.TheVariants.{Limit, Memory}
use Rattle.dn_demo.specs.Reading.{Recording}
use Rattle.dn_demo.specs.declared.upgrading.UpgradeFault.{UpgradeFault}
use Rattle.dn_demo.specs.declared.upgrading.UpgradeFault.TheVariants.{Limit as Upgrade_limit, Full, Memory as Upgrade_memory}

-- a recorder: how many bytes a demo may have, how far it has come, and its bytes
pub record Recorded : Type 0 where
  pub limit : ℕ
  pub stage : Stage
  pub bytes : List ℕ

-- the marker is written
abbrev pub is_closed : Stage → Bool
is_closed Blank = false
is_closed Open = false
is_closed Closed = true

-- a demo may have 1,024 to 16,777,216 bytes
abbrev pub IsLimit : ℕ → Type 0
IsLimit limit = (1024 ≤ limit) × (limit ≤ 16777216)

-- how many bytes a recorded demo of this many players and tics has: its header, a command for each player and
-- tic, and the marker
abbrev pub recorded_size : ℕ → ℕ → ℕ
recorded_size players tics = header_size + command_size long_tics * (players * tics) + 1

-- how many tics of this many players fit into a demo of this many bytes
abbrev pub capacity : ℕ → ℕ → ℕ
capacity limit players = (limit - recorded_size players 0) / (command_size long_tics * players)

-- no demo that is recorded for two players or more has more tics
abbrev pub most_tics : ℕ
most_tics = 1677720

-- what a recorder of this limit is made as: with nothing written, or refused for the limit, or for `Memory`
abbrev pub IsMadeAs : ℕ → Result Recorded RecorderFault → Type 0
IsMadeAs limit (Ok recorder) = IsLimit limit
    × (recorder ≡ record { limit = limit; stage = Blank; bytes = [] })
IsMadeAs limit (Err Limit) = ¬ IsLimit limit
IsMadeAs limit (Err Memory) = IsLimit limit

-- the text of an open demo, with one more row
abbrev pub AddsRow : List ℕ → List ℕ → List (Option Move) → Type 0
AddsRow old new row =
    (start : Start) (view : ℕ) (present : List Bool) (rows : List (List (Option Move)))
    → old ≡ demo_text long_tics start view present rows false
    → new ≡ demo_text long_tics start view present (rows ++ row ∷ []) false

-- the text of an open demo, closed
abbrev pub Closes : List ℕ → List ℕ → Type 0
Closes old new =
    (start : Start) (view : ℕ) (present : List Bool) (rows : List (List (Option Move)))
    → old ≡ demo_text long_tics start view present rows false
    → new ≡ demo_text long_tics start view present rows true

-- how many bytes a demo has once it is upgraded
abbrev pub upgraded_size : Recording → ℕ
upgraded_size demo = recorded_size (player_count demo.present) (length demo.rows)

-- what a demo is upgraded to within a limit: the closed text of its rows, with its start, view and players;
-- or the first refusal
abbrev pub IsUpgraded : Recording → ℕ → Result Recorded UpgradeFault → Type 0
IsUpgraded demo limit (Ok recorder) =
    IsLimit limit × (upgraded_size demo ≤ limit)
    × (recorder ≡ record {
      limit = limit;
      stage = Closed;
      bytes = demo_text long_tics demo.start demo.view demo.present demo.rows true;
    })
IsUpgraded demo limit (Err Upgrade_limit) = ¬ IsLimit limit
IsUpgraded demo limit (Err Full) = IsLimit limit × (limit < upgraded_size demo)
IsUpgraded demo limit (Err Upgrade_memory) = IsLimit limit × (upgraded_size demo ≤ limit)
