-- What a demo that was read tells; and what an upgrade returns.
use Rattle.std.specs.Prelude.{◌≡◌, ◌⊎◌, ℕ, Bool, List, [], ◌∷◌, length, slice_get, slice_index_or, false, Option, Some, None, Result, Ok, Err}
use Rattle.dn_tic.specs.declared.command.Move.{Move}
use Rattle.dn_setup.specs.Settings.{bit}
use Rattle.dn_setup.specs.declared.settings.Start.{Start}
use Rattle.dn_demo.specs.Reading.{Recording, IsReadAs}
use Rattle.dn_demo.specs.Recorded.{IsUpgraded, Recorded}
use Rattle.dn_demo.specs.declared.demo.DemoFault.{DemoFault}
use Rattle.dn_demo.specs.declared.upgrading.UpgradeFault.{UpgradeFault}
use Rattle.dn_packet.specs.Written.{IsWritten}
use Rattle.zirmegat.specs.declared.demo_facts.DemoAnswer.{DemoAnswer}
use Rattle.zirmegat.specs.declared.demo_facts.StartFields.{StartFields}
use Rattle.zirmegat.specs.declared.held.Held.{Held}
use Rattle.zirmegat.specs.declared.held.Held.TheVariants as kind
use Rattle.zirmegat.specs.declared.rows.RowFields.{RowFields}
use Rattle.zirmegat.specs.{Faults.demo_code, Rows.moves_told}

-- a start of these bytes, in the order of a demo's header
abbrev pub start_fields : ℕ → ℕ → ℕ → ℕ → ℕ → ℕ → ℕ → StartFields
start_fields skill episode map deathmatch respawn fast no_monsters =
    record {
      skill = skill;
      episode = episode;
      map = map;
      deathmatch = deathmatch;
      respawn = respawn;
      fast = fast;
      no_monsters = no_monsters;
    }

abbrev pub start_told : Start → StartFields
start_told s = start_fields s.skill s.episode s.map s.deathmatch s.respawn s.fast s.no_monsters

abbrev pub seat_told : List Bool → ℕ → ℕ
seat_told present seat = bit (slice_index_or present seat false)

abbrev pub seats_told : List Bool → List ℕ
seats_told present = seat_told present 0 ∷ seat_told present 1 ∷ seat_told present 2 ∷ seat_told present
    3 ∷ []

-- what a demo tells beside its rows
abbrev pub demo_told : Recording → DemoAnswer
demo_told d =
    record {
      tics = length d.rows;
      cut = d.cut;
      after = d.after;
      version = d.version;
      view = d.view;
      start = start_told d.start;
      present = seats_told d.present;
    }

-- the moves of a tic, counted from 0
abbrev pub row_of : ℕ → Recording → Option (List (Option Move))
row_of tic d = slice_get d.rows tic

-- they are told; where there is no such tic, 23 says so, and the row stays
abbrev pub tells_row : ℕ → Option (List (Option Move)) → ℕ → RowFields → RowFields → Type 0
tells_row tic (Some moves) code old new = (code ≡ 0) × (new ≡ moves_told tic moves)
tells_row tic None code old new = (code ≡ 23) × (new ≡ old)

-- what the bytes are read as is kept
abbrev pub IsReadKept : Result Recording DemoFault → ℕ → Option Held → Type 0
IsReadKept (Ok demo) code kept = ((code ≡ 0) × (kept ≡ Some (kind.Demo demo))) ⊎ ((code ≡ 3) × (kept ≡ None))
IsReadKept (Err fault) code kept = (code ≡ demo_code fault) × (kept ≡ None)

abbrev pub OpensDemo : List ℕ → ℕ → Option Held → Type 0
OpensDemo bytes code kept = (read : Result Recording DemoFault) × IsReadAs bytes read × IsReadKept read code kept

abbrev pub upgrade_code : UpgradeFault → ℕ
upgrade_code UpgradeFault.Limit = 11
upgrade_code UpgradeFault.Full = 4
upgrade_code UpgradeFault.Memory = 3

-- nothing is written, and this is why
abbrev pub IsNotUpgraded : ℕ → List ℕ → List ℕ → ℕ → ℕ → Type 0
IsNotUpgraded why old new written code = (code ≡ why) × (written ≡ 0) × (new ≡ old)

-- all bytes of the upgrade are written
abbrev pub IsToldOf : Result Recorded UpgradeFault → List ℕ → List ℕ → ℕ → ℕ → Type 0
IsToldOf (Ok made) old new written code = (code ≡ 0) × IsWritten made.bytes old new written
IsToldOf (Err fault) old new written code = IsNotUpgraded (upgrade_code fault) old new written code

-- the demo that the bytes are read as is upgraded within this many bytes
abbrev pub UpgradesBy : Result Recording DemoFault → ℕ → List ℕ → List ℕ → ℕ → ℕ → Type 0
UpgradesBy (Ok demo) limit old new written code =
    (made : Result Recorded UpgradeFault) × IsUpgraded demo limit made × IsToldOf made old new written code
UpgradesBy (Err fault) limit old new written code = IsNotUpgraded (demo_code fault) old new written code

abbrev pub Upgrades : List ℕ → ℕ → List ℕ → List ℕ → ℕ → ℕ → Type 0
Upgrades bytes limit old new written code =
    (read : Result Recording DemoFault) × IsReadAs bytes read × UpgradesBy read limit old new written code
