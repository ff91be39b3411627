-- What a node makes of the calls that move its game on.
use Rattle.std.specs.Prelude.{◌≡◌, ◌+◌, ℕ, ℤ, Bool, false, List, Option, IfSome}
use Rattle.dn_tic.specs.declared.command.Move.{Move}
use Rattle.dn_machine.specs.declared.answers.Made.{Made}
use Rattle.dn_machine.specs.declared.answers.Heard.{Heard}
use Rattle.dn_machine.specs.declared.answers.Ran.{Ran}
use Rattle.dn_tic.specs.declared.input.Input.{Input}
use Rattle.dn_machine.specs.Sending.{on_build}
use Rattle.dn_machine.specs.Running.{on_run, on_quit}
use Rattle.dn_machine.specs.Sparing.{on_run_but}
use Rattle.dn_lockstep.specs.Contents.{Contents}
use Rattle.dn_lockstep.specs.Hearing.{HearsAny, HearsNear, Spares}
use Rattle.dn_lockstep.specs.Giving.{IsSentTo, IsSilent}
use Rattle.dn_lockstep.specs.Steps.{RunsBy}
use Rattle.dn_lockstep.specs.Sent.{IsFair}
use Rattle.dn_lockstep.specs.Sent.{sent_to}
use Rattle.dn_lockstep.specs.Steps.{Steps, Tells}

-- it makes the command of this input, or none and stays as it is
abbrev pub Builds : Input → Contents → Contents → Made → Type 0
Builds input old new made =
    Steps old new (λ limits me m. on_build limits me m input) (λ answer. made ≡ answer)
    × (made ≡ Made.Full → new ≡ old) × (made ≡ Made.NotPlaying → new ≡ old)

-- it gives its next packet to this number, which is one that a datagram can carry, or none and stays as it is
abbrev pub Sends : ℕ → List ℕ → List ℕ → ℕ → Contents → Contents → Type 0
Sends to room written count old new = IsSentTo to old new room written count
    × IsSilent to old new room written count
    × Tells old (λ limits me m. IfSome (sent_to to limits me m).1 IsFair)

-- it hears any bytes as what they are read as, and a flight of near tics as itself; a datagram that is
-- dropped changes nothing
abbrev pub Hears : ℕ → List ℕ → Contents → Contents → Heard → Type 0
Hears from bytes old new heard =
    HearsAny from bytes old new heard × HearsNear from bytes old new heard × Spares old new heard

-- it runs a tic by these marks, which is counted, and tells its row; one that waits, or does not play, stays
-- as it is
abbrev pub Runs : List ℤ → Contents → Contents → Ran → Option (List (Option Move)) → Type 0
Runs marks old new ran row =
    RunsBy marks old new (λ limits m marks. on_run limits m marks) (λ answer told. (ran ≡ answer) × (row ≡ told))
    × ((tic : ℕ) → ran ≡ Ran.Ran tic → new.ran ≡ old.ran + 1)
    × ((player : ℕ) → ran ≡ Ran.Waiting player → new ≡ old) × (ran ≡ Ran.NotPlaying → new ≡ old)

-- the same, but no mark is compared of these players
abbrev pub RunsBut : (ℕ → Bool) → List ℤ → Contents → Contents → Ran → Option (List (Option Move)) → Type 0
RunsBut gone marks old new ran row =
    RunsBy marks old new (λ limits m marks. on_run_but limits gone m marks)
    (λ answer told. (ran ≡ answer) × (row ≡ told))
    × ((tic : ℕ) → ran ≡ Ran.Ran tic → new.ran ≡ old.ran + 1)
    × ((player : ℕ) → ran ≡ Ran.Waiting player → new ≡ old) × (ran ≡ Ran.NotPlaying → new ≡ old)

-- it ends, or had ended and stays as it is
abbrev pub Quits : Contents → Contents → Bool → Type 0
Quits old new quit = Steps old new (λ limits me m. on_quit m) (λ answer. quit ≡ answer)
    × (quit ≡ false → new ≡ old)
