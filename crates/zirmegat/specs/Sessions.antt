-- What the calls on a session do.
use Rattle.std.specs.Prelude.{◌≡◌, ℕ, ℤ, Bool, true, false, List, Option, Some, None, Result, Ok, Err, replicate}
use Rattle.dn_tic.specs.declared.command.Move.{Move}
use Rattle.dn_tic.specs.declared.command.TicCmd.{TicCmd}
use Rattle.dn_machine.specs.declared.answers.Ran.{Ran}
use Rattle.dn_lockstep.specs.declared.config.NodeFault.{NodeFault}
use Rattle.dn_lockstep.specs.Steps.{told_by}
use Rattle.dn_packet.specs.Written.{IsWritten}
use Rattle.dn_link.specs.Linking.{linked}
use Rattle.dn_session.specs.declared.greeting.Address.{Address}
use Rattle.dn_session.specs.declared.part.Part.{Part}
use Rattle.dn_session.specs.Playing.{playing}
use Rattle.dn_session.specs.Session.{holds_back_in, Begins, Meeting, PassesTo, RunsPart, Sends}
use Rattle.zirmegat.specs.declared.rows.RowFields.{RowFields}
use Rattle.zirmegat.specs.Rows.{next_of_four, no_row, row_told, run_code}

-- whether its part in the game could be made; terms that a session has are no fault of a node
abbrev pub polled_code : Result Bool NodeFault → ℕ
polled_code (Ok began) = 0
polled_code (Err fault) = 3

-- its part in the game alone takes a step
abbrev pub Plays : (Option Part → Option Part → Type 0) → Meeting → Meeting → Type 0
Plays Step n k = Step n.part k.part × (k ≡ record n { part = k.part })

-- it does what is due, and then makes its part in the game, if that has begun
abbrev pub PollsTo : ℕ → Meeting → Meeting → ℕ → Type 0
PollsTo now n k code =
    (between : Meeting) × (began : Result Bool NodeFault) × PassesTo now n between × Begins now between k began
    × (code ≡ polled_code began)

-- what it sends goes to the front of a room, and where it goes to into another; both stay where that is nothing
abbrev pub IsSent : Option (Address × List ℕ) → List ℕ → List ℕ → List ℕ → List ℕ → ℕ → Type 0
IsSent (Some (address, bytes)) to addressed room written count =
    (addressed ≡ address.bytes) × IsWritten bytes room written count
IsSent None to addressed room written count = (addressed ≡ to) × (written ≡ room) × (count ≡ 0)

abbrev pub SendsInto : List ℕ → List ℕ → List ℕ → List ℕ → ℕ → Meeting → Meeting → Type 0
SendsInto to addressed room written count n k =
    (sent : Option (Address × List ℕ)) × Sends n k sent × IsSent sent to addressed room written count

-- the commands that a part in the game has for the next tic
abbrev pub next_of : Part → List (Option TicCmd)
next_of part = next_of_four (linked (playing part).link).node

abbrev pub next_commands : Option Part → List (Option TicCmd)
next_commands None = replicate 4 None
next_commands (Some part) = next_of part

-- where the next tic should wait for the next tick, nothing changes; 5 says so
abbrev pub RunsWhen : Bool → List ℤ → RowFields → ℕ → Meeting → Meeting → Type 0
RunsWhen true marks row code n k = (code ≡ 5) × (row ≡ no_row) × (k ≡ n)
RunsWhen false marks row code n k =
    (ran : Ran) × (moves : List (Option Move)) × (code ≡ run_code ran)
    × (row ≡ row_told ran moves (next_commands n.part))
    × Plays (λ old new. RunsPart marks old new ran (told_by ran moves)) n k

abbrev pub RunsSession : List ℤ → RowFields → ℕ → Meeting → Meeting → Type 0
RunsSession marks row code n k = RunsWhen (holds_back_in n.part) marks row code n k
