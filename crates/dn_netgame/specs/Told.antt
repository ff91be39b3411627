-- What a run tells of a game: of each event as it is played, and in the end.
use Rattle.std.specs.Prelude.{◌≡◌, ◌≢◌, ℕ, All, List, ◌++◌, Result, Err}
use Rattle.dn_world.specs.Plane.{Spots}
use Rattle.dn_machine.specs.declared.events.Done.{Done}
use Rattle.dn_machine.specs.declared.events.Event.{Event}
use Rattle.dn_machine.specs.declared.events.Refusal.{Refusal}
use Rattle.dn_game.specs.declared.played.Played.{Played}
use Rattle.dn_game.specs.Observed.{Observing, ObservesAll}
use Rattle.dn_game.specs.Scripts.{event_line, script_text}
use Rattle.dn_netgame.specs.Texts.{game_lines, trace_line, trace_lines}

-- the event of this answer was not left out for want of memory
abbrev pub IsNotLeftOut : Result Done Refusal → Type 0
IsNotLeftOut answer = answer ≢ Err Refusal.Memory

-- which text tells of a game that these events led to, with these answers
abbrev pub Account : Type 1
Account = List Event → List (Result Done Refusal) → Played Spots → List ℕ → Type 0

-- the lines of the game
abbrev pub IsQuiet : Account
IsQuiet events answers played text = text ≡ game_lines played

-- a line for each event, and behind them the lines of the game
abbrev pub IsTrace : Account
IsTrace events answers played text = text ≡ trace_lines 0 events answers ++ game_lines played

-- the script of the events alone, of which none was left out
abbrev pub IsScript : Account
IsScript events answers played text = All IsNotLeftOut answers × (text ≡ script_text events)

-- what is added to a text for one event: its line in a trace
abbrev pub AddsTraced : {L : Type 0} → (L → List ℕ) → Observing L
AddsTraced text old number event answer new = text new ≡ text old ++ trace_line number event answer

-- or its line in a script, if it was not left out
abbrev pub AddsScripted : {L : Type 0} → (L → List ℕ) → Observing L
AddsScripted text old number event answer new = IsNotLeftOut answer × (text new ≡ text old ++ event_line event)

-- whatever events with whatever answers it was told of since it was new, the text tells of them and of the game
abbrev pub HasText : {L : Type 0} → Observing L → (L → Type 0) → Account → L → Played Spots → List ℕ → Type 0
HasText {L} observes IsNew IsText teller played text =
    (new : L) (events : List Event) (answers : List (Result Done Refusal)) → IsNew new
    → ObservesAll observes new 0 events answers teller → IsText events answers played text
