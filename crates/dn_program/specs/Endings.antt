-- How a session over a network ended: what is printed of it, and the exit status.
use Rattle.std.specs.Prelude.{ℕ, List, ◌++◌, Option, codes}
use Rattle.std.specs.Fmt.{decimal}
use Rattle.dn_session.specs.declared.greeting.Hint.{Hint}
use Rattle.dn_session.specs.declared.greeting.Hint.TheVariants.{Key, Version}
use Rattle.dn_session.specs.declared.greeting.Refusal.{Refusal}
use Rattle.dn_session.specs.declared.greeting.Refusal.TheVariants.{Cookie, Full, Begun, Players, Identity, Kicked}
use Rattle.dn_host.specs.declared.ends.Ending.{Ending}
use Rattle.dn_host.specs.declared.ends.Ending.TheVariants.{Ended, Refused, Hinted}
use Rattle.dn_measure.specs.Ends.{session_lines, status_of}
use Rattle.dn_measure.specs.declared.measure.Summary.{Summary}

-- the exit status of a command line that cannot be read
abbrev pub misused : ℕ
misused = 2

-- the exit status where what was given was refused
abbrev pub refused : ℕ
refused = 1

-- the exit status of a run that ended early
abbrev pub broken_off : ℕ
broken_off = 3

-- why the host gives no seat, up to the end of the line
abbrev pub reason : Refusal → List ℕ
reason Cookie = codes "the call came too late\n"
reason Full = codes "no seat is free\n"
reason (Players players) = codes "the game has " ++ (decimal players ++ codes " players\n")
reason Begun = codes "the game has begun\n"
reason Identity = codes "the host has another engine\n"
reason Kicked = codes "the host has turned this player away\n"

-- the line of a joiner that has no seat: what comes of it, and why
abbrev pub refusal_line : List ℕ → Refusal → List ℕ
refusal_line outcome refusal = outcome ++ (codes ": " ++ reason refusal)

-- the line of a joiner whose calls the host could not read
abbrev pub hint_line : Hint → List ℕ
hint_line Key = codes "refused: another key\n"
hint_line (Version version) = codes "refused: another version\n"

-- what is printed: of a session that had a seat, its end and what was measured; of another, why it had none
abbrev pub ending_lines : Ending → Option Summary → List ℕ
ending_lines (Ended end) measured = session_lines end measured
ending_lines (Refused refusal) measured = refusal_line (codes "refused") refusal
ending_lines (Hinted hint) measured = hint_line hint

-- the exit status
abbrev pub ending_status : Ending → ℕ
ending_status (Ended end) = status_of end
ending_status (Refused refusal) = refused
ending_status (Hinted hint) = refused
