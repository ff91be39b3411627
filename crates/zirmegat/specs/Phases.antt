-- Where a node stands, as plain numbers.
use Rattle.std.specs.Prelude.{ℕ, ℤ, pos}
use Rattle.dn_machine.specs.declared.answers.Cause.{Cause}
use Rattle.dn_machine.specs.declared.answers.Phase.{Phase}
use Rattle.zirmegat.specs.declared.phases.PhaseAnswer.{PhaseAnswer}

-- a phase with a cause and the marks that a cause tells
abbrev pub phase_at : ℕ → ℕ → ℤ → ℤ → ℕ → PhaseAnswer
phase_at code cause was should player =
    record { code = code; cause = cause; was = was; should = should; player = player }

abbrev pub ended_told : Cause → PhaseAnswer
ended_told Cause.Quit = phase_at 4 1 (pos 0) (pos 0) 0
ended_told Cause.Full = phase_at 4 2 (pos 0) (pos 0) 0
ended_told (Cause.Inconsistent player was should) = phase_at 4 3 was should player

abbrev pub phase_told : Phase → PhaseAnswer
phase_told Phase.Listening = phase_at 1 0 (pos 0) (pos 0) 0
phase_told Phase.Gathering = phase_at 2 0 (pos 0) (pos 0) 0
phase_told Phase.Playing = phase_at 3 0 (pos 0) (pos 0) 0
phase_told (Phase.Ended cause) = ended_told cause
