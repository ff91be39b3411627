-- What upgrading a demo writes.
use Rattle.std.specs.Prelude.{◌≡◌, ℕ, List, codes, Result, Ok, Err}
use Rattle.dn_demo.specs.Reading.{Recording}
use Rattle.dn_demo.specs.Recorded.{Recorded}
use Rattle.dn_demo.specs.Recorded.{IsUpgraded}
use Rattle.dn_demo.specs.declared.upgrading.UpgradeFault.{UpgradeFault}
use Rattle.dn_demo.specs.declared.upgrading.UpgradeFault.TheVariants.{Limit, Full, Memory}
use Rattle.dn_netgame.specs.DemoShown.{IsDemoOutput}

-- the output and the exit status for what a demo is upgraded to; there are none for a limit that is out of
-- range, and none for `Memory`
abbrev pub IsUpgradeShown : Result Recorded UpgradeFault → List ℕ → ℕ → Type 0
IsUpgradeShown (Ok recorder) bytes status = (bytes ≡ recorder.bytes) × (status ≡ 0)
IsUpgradeShown (Err Limit) bytes status = ⊥
IsUpgradeShown (Err Full) bytes status = (bytes ≡ codes "upgrade: full\n") × (status ≡ 1)
IsUpgradeShown (Err Memory) bytes status = ⊥

-- the output and the exit status for the demo, upgraded within this limit
abbrev pub IsUpgradedTo : ℕ → Recording → List ℕ → ℕ → Type 0
IsUpgradedTo limit demo bytes status =
    (upgraded : Result Recorded UpgradeFault) × IsUpgraded demo limit upgraded
    × IsUpgradeShown upgraded bytes status

-- the output and the exit status are those of the upgraded demo, or of a refusal
abbrev pub IsUpgrade : ℕ → List ℕ → List ℕ → ℕ → Type 0
IsUpgrade limit = IsDemoOutput (IsUpgradedTo limit)
