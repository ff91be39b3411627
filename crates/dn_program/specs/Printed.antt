-- What comes of a line that is printed: with `--raw` it goes to standard error, and whether it arrives does not count.
-- And what comes of telling why a command line was not read.
use Rattle.std.specs.Prelude.{ℕ, ◌≡◌, ◌⊎◌, ⊤, Bool, true, false, if◌then◌else◌, Option, is_some, Result, Ok, Err}
use Rattle.dn_host.specs.declared.ends.Ending.{Ending}
use Rattle.dn_host.specs.declared.ends.Ending.TheVariants.{Ended, Refused, Hinted}
use Rattle.dn_host.specs.declared.ends.HostFault.{HostFault}
use Rattle.dn_host.specs.declared.ends.HostFault.TheVariants as host
use Rattle.dn_host.specs.declared.ends.Outcome.{Outcome}
use Rattle.dn_program.specs.Keys.{is_refusal}
use Rattle.dn_program.specs.declared.key.KeyFault.{KeyFault}
use Rattle.dn_netgame.specs.declared.transfer.RunFault.{RunFault}
use Rattle.dn_netgame.specs.declared.transfer.RunFault.TheVariants.{Read, Write, Memory}
use Rattle.dn_program.specs.Endings.{ending_status, misused, refused, broken_off}
use Rattle.clap.specs.declared.error.kind.ErrorKind.{ErrorKind}
use Rattle.clap.specs.declared.error.kind.ErrorKind.TheVariants as kind

-- this is the answer; or the line goes to standard output and could not be written
abbrev pub Answers : {A : Type 0} → (raw : Bool) → A → Result A RunFault → Type 0
Answers true answer result = result ≡ Ok answer
Answers false answer result = (result ≡ Ok answer) ⊎ (result ≡ Err Write)

-- the exit status of a key that was not made or not read
abbrev pub key_status : KeyFault → ℕ
key_status fault = if is_refusal fault then refused else broken_off

-- a session had a seat, and so a demo in its link
abbrev pub has_demo : {L : Type 0} → Ending → Option L → Bool
has_demo (Ended end) link = is_some link
has_demo (Refused refusal) link = false
has_demo (Hinted hint) link = false

-- a demo is printed: only `--raw` asks for one
abbrev pub prints_demo : (raw : Bool) → Outcome → Bool
prints_demo true outcome = has_demo outcome.ending outcome.link
prints_demo false outcome = false

-- a session ended: its status; or memory for its lines was refused; or they or the demo could not be written
abbrev pub IsEnded : (raw : Bool) → Outcome → Result ℕ RunFault → Type 0
IsEnded raw outcome (Ok status) = status ≡ ending_status outcome.ending
IsEnded raw outcome (Err Read) = ⊥
IsEnded raw outcome (Err Write) = raw ≡ true → prints_demo raw outcome ≡ true
IsEnded raw outcome (Err Memory) = ⊤

-- a session broke off: there was no memory, or a line says why
abbrev pub IsBrokenOff : (raw : Bool) → HostFault → Result ℕ RunFault → Type 0
IsBrokenOff raw host.Memory result = result ≡ Err Memory
IsBrokenOff raw host.Clock result = Answers raw broken_off result
IsBrokenOff raw host.Random result = Answers raw broken_off result
IsBrokenOff raw host.Terms result = Answers raw broken_off result

-- what comes of printing a session
abbrev pub IsSessionPrinted : (raw : Bool) → Result Outcome HostFault → Result ℕ RunFault → Type 0
IsSessionPrinted raw (Ok outcome) result = IsEnded raw outcome result
IsSessionPrinted raw (Err fault) result = IsBrokenOff raw fault result

-- help and the version are what was asked for, and go to standard output; every other command line is wrong
abbrev pub IsExplained : ErrorKind → Result ℕ RunFault → Type 0
IsExplained kind.OutOfMemory result = result ≡ Err Memory
IsExplained kind.DisplayHelp result = Answers false 0 result
IsExplained kind.DisplayVersion result = Answers false 0 result
IsExplained _ result = result ≡ Ok misused
