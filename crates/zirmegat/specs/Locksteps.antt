-- What the calls on a lockstep return, as plain numbers.
use Rattle.std.specs.Prelude.{◌≡◌, ℕ, List, Option, Some, None}
use Rattle.dn_tic.specs.declared.command.Move.{Move}
use Rattle.dn_machine.specs.declared.answers.Made.{Made}
use Rattle.dn_machine.specs.declared.answers.Heard.{Heard}
use Rattle.dn_machine.specs.declared.answers.Ran.{Ran}
use Rattle.dn_lockstep.specs.declared.lockstep.aiming.Aim.{Aim}
use Rattle.dn_lockstep.specs.Contents.{Contents}
use Rattle.dn_lockstep.specs.Steps.{told_by}
use Rattle.zirmegat.specs.declared.lockstep_answers.AimFields.{AimFields}
use Rattle.zirmegat.specs.declared.lockstep_answers.HeardAnswer.{HeardAnswer}
use Rattle.zirmegat.specs.declared.rows.RowFields.{RowFields}
use Rattle.zirmegat.specs.{Rows.next_of_four, Rows.row_told, Rows.run_code}

-- whether a command was made
abbrev pub made_code : Made → ℕ
made_code (Made.Made tic) = 0
made_code Made.Full = 25
made_code Made.NotPlaying = 5

-- the number is that of the new commands, or of the drop
abbrev pub heard_at : ℕ → ℕ → HeardAnswer
heard_at code number = record { code = code; number = number }

abbrev pub heard_told : Heard → HeardAnswer
heard_told (Heard.Dropped number) = heard_at 0 number
heard_told Heard.Started = heard_at 1 0
heard_told (Heard.Taken number) = heard_at 2 number
heard_told Heard.Stale = heard_at 3 0
heard_told Heard.Gap = heard_at 4 0
heard_told Heard.Left = heard_at 5 0
heard_told Heard.Noted = heard_at 6 0

abbrev pub aim_at : ℕ → ℕ → Aim → AimFields
aim_at asks ask aim = record { asks = asks; ask = ask; start = aim.start; flags = aim.flags; count = aim.count }

abbrev pub aim_by : Option ℕ → Aim → AimFields
aim_by (Some ask) aim = aim_at 1 ask aim
aim_by None aim = aim_at 0 0 aim

-- the exact numbers of a packet, if there is one; else 5 says so
abbrev pub IsAimed : Option Aim → ℕ → AimFields → AimFields → Type 0
IsAimed (Some aim) code old new = (code ≡ 0) × (new ≡ aim_by aim.ask aim)
IsAimed None code old new = (code ≡ 5) × (new ≡ old)

-- a run of this step is told, with the whole commands of the tic
abbrev pub TellsRun : (Ran → Option (List (Option Move)) → Type 0) → Contents → RowFields → ℕ → Type 0
TellsRun Step n row code =
    (ran : Ran) × (moves : List (Option Move)) × (code ≡ run_code ran)
    × (row ≡ row_told ran moves (next_of_four n)) × Step ran (told_by ran moves)
