-- Why a session is over, as plain numbers.
use Rattle.std.specs.Prelude.{ℕ}
use Rattle.dn_session.specs.declared.ending.Ending.{Ending}
use Rattle.dn_session.specs.declared.ending.Over.{Over}
use Rattle.dn_session.specs.declared.ending.Over.TheVariants as over
use Rattle.dn_session.specs.declared.greeting.Hint.{Hint}
use Rattle.dn_session.specs.declared.greeting.Refusal.{Refusal}
use Rattle.zirmegat.specs.declared.over.OverAnswer.{OverAnswer}

-- why it is over, and a number that belongs to it
abbrev pub over_at : ℕ → ℕ → OverAnswer
over_at reason number = record { reason = reason; number = number }

abbrev pub ending_told : Ending → OverAnswer
ending_told Ending.Left = over_at 65 0
ending_told Ending.Full = over_at 66 0
ending_told (Ending.Inconsistent player) = over_at 67 player
ending_told Ending.GivenUp = over_at 68 0
ending_told Ending.Alone = over_at 69 0
ending_told (Ending.Lost player) = over_at 70 player

abbrev pub refusal_told : Refusal → OverAnswer
refusal_told Refusal.Full = over_at 80 0
refusal_told Refusal.Begun = over_at 81 0
refusal_told (Refusal.Players players) = over_at 82 players
refusal_told Refusal.Identity = over_at 83 0
refusal_told Refusal.Kicked = over_at 84 0
refusal_told Refusal.Cookie = over_at 85 0

abbrev pub hint_told : Hint → OverAnswer
hint_told Hint.Key = over_at 96 0
hint_told (Hint.Version version) = over_at 97 version

abbrev pub over_told : Over → OverAnswer
over_told (over.Refused refusal) = refusal_told refusal
over_told (over.Hinted hint) = hint_told hint
over_told (over.Ended ending) = ending_told ending

-- it is not
abbrev pub not_over : OverAnswer
not_over = over_at 0 0
