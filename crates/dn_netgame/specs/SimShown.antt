-- What is shown of a script.
use Rattle.std.specs.Prelude.{◌≡◌, ℕ, List, codes, Result, Ok, Err}
use Rattle.dn_world.specs.Plane.{Spots, walking}
use Rattle.dn_machine.specs.declared.events.Event.{Event}
use Rattle.dn_game.specs.declared.config.GameConfig.{GameConfig}
use Rattle.dn_game.specs.declared.played.Played.{Played}
use Rattle.dn_game.specs.declared.script.reading.ScriptFault.{ScriptFault}
use Rattle.dn_game.specs.declared.script.reading.ScriptFault.TheVariants.{TooLong, Line, Memory}
use Rattle.dn_game.specs.Opening.{rules_in}
use Rattle.dn_game.specs.Played.{IsPlayed}
use Rattle.dn_game.specs.Scripts.{IsReadAs}
use Rattle.dn_netgame.specs.Texts.{bad_line}
use Rattle.dn_netgame.specs.Told.{Account}

-- the lines and the exit status are those of a game of this many walkers that has played these events, told in
-- this way
abbrev pub ArePlayed : Account → GameConfig → ℕ → List Event → List ℕ → ℕ → Type 0
ArePlayed IsText config players events lines status =
    (played : Played Spots)
    × (p : IsPlayed (λ spots. spots) (rules_in walking config players) config.settings events played)
    × IsText events p.answers played lines × (status ≡ 0)

-- the line and the exit status for a text that is no script; there is none for `Memory`
abbrev pub IsFaultShown : ScriptFault → List ℕ → ℕ → Type 0
IsFaultShown TooLong lines status = (lines ≡ codes "script: too long\n") × (status ≡ 1)
IsFaultShown (Line number) lines status = (lines ≡ bad_line number) × (status ≡ 1)
IsFaultShown Memory lines status = ⊥

-- the lines and the exit status for what a text is read as: those of its events, told in this way, or those of
-- the fault
abbrev pub IsReadingShown : Account → GameConfig → ℕ → Result (List Event) ScriptFault → List ℕ → ℕ → Type 0
IsReadingShown IsText config players (Ok events) lines status =
    ArePlayed IsText config players events lines status
IsReadingShown IsText config players (Err fault) lines status = IsFaultShown fault lines status

-- the lines and the exit status are those of what the bytes are read as, told in this way
abbrev pub IsSim : Account → GameConfig → ℕ → List ℕ → List ℕ → ℕ → Type 0
IsSim IsText config players bytes lines status =
    (read : Result (List Event) ScriptFault) × IsReadAs bytes read
    × IsReadingShown IsText config players read lines status
