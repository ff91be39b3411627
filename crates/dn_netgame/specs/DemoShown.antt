-- What is shown of a demo.
use Rattle.std.specs.Prelude.{◌≡◌, ◌≤◌, ◌<◌, ◌⊎◌, ℕ, List, length, codes, Ok, Err}
use Rattle.dn_demo.specs.Reading.{Recording, IsReadAs}
use Rattle.dn_demo.specs.declared.demo.DemoFault.{DemoFault}
use Rattle.dn_demo.specs.declared.demo.DemoFault.TheVariants.{Short, Version, NoPlayers, NoMarker, Memory}
use Rattle.dn_netgame.specs.Texts.{demo_lines}

-- the line of a fault; there is none for `Memory`
abbrev pub IsFaultLine : DemoFault → List ℕ → Type 0
IsFaultLine Short line = line ≡ codes "demo: short\n"
IsFaultLine Version line = line ≡ codes "demo: version\n"
IsFaultLine NoPlayers line = line ≡ codes "demo: no players\n"
IsFaultLine NoMarker line = line ≡ codes "demo: no marker\n"
IsFaultLine Memory line = ⊥

-- the most bytes of a demo
abbrev pub demo_limit : ℕ
demo_limit = 33554432

-- the bytes are read as this demo, and are not too many
abbrev pub IsDemoInput : List ℕ → Recording → Type 0
IsDemoInput bytes demo = (length bytes ≤ demo_limit) × IsReadAs bytes (Ok demo)

-- the line that refuses these bytes: they are too many, or else no demo
abbrev pub IsDemoRefused : List ℕ → List ℕ → Type 0
IsDemoRefused bytes line =
    ((demo_limit < length bytes) × (line ≡ codes "demo: too long\n"))
    ⊎ ((length bytes ≤ demo_limit)
    × ((fault : DemoFault) × IsReadAs bytes (Err fault) × IsFaultLine fault line))

-- the output and the exit status for these bytes: those that IsSaid tells for the demo, or else the line that
-- refuses them and status 1
abbrev pub IsDemoOutput : (Recording → List ℕ → ℕ → Type 0) → List ℕ → List ℕ → ℕ → Type 0
IsDemoOutput IsSaid bytes text status =
    ((demo : Recording) × IsDemoInput bytes demo × IsSaid demo text status)
    ⊎ (IsDemoRefused bytes text × (status ≡ 1))

-- the lines and the exit status are those of the demo, or of a refusal
abbrev pub IsDemo : List ℕ → List ℕ → ℕ → Type 0
IsDemo = IsDemoOutput (λ d lines status. (lines ≡ demo_lines d) × (status ≡ 0))
