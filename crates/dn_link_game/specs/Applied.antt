-- Which events of a game of links are refused, which answers are those of a call, what is given and how much room it
-- takes, and which answers tell of a failed check.
use Rattle.std.specs.{Prelude.{◌≡◌, ◌<◌, ◌≤◌, ℕ, ◌+◌, ◌*◌, ◌∷◌, [], Bool, false, true, List, Some, length, slice_get, take, Result, Ok, Err}, Vec.{vec_capacity, vec_len}}
use Rattle.dn_machine.specs.declared.answers.Ran.{Ran}
use Rattle.dn_survivor.specs.declared.answers.GivenUp.{GivenUp}
use Rattle.dn_link_game.specs.{Genuine.given_by, declared.game.LinkGame.LinkGame}
use Rattle.dn_link_game.specs.declared.calls.{LinkCall.{LinkCall, TheVariants.{Build, CatchUp, GiveUp, Quit, Receive, Run, Send, Tick}}, LinkDone.LinkDone, LinkEvent.{LinkEvent, TheVariants.{Call, Deliver}}, LinkRefusal.{LinkRefusal, TheVariants.{NoPlayer, NoDatagram, Memory}}}

-- an answer is one to this call
abbrev pub is_answer : LinkCall → LinkDone → Bool
is_answer (Build input) (LinkDone.Built made) = true
is_answer CatchUp (LinkDone.CaughtUp made) = true
is_answer Tick (LinkDone.Ticked by) = true
is_answer Run (LinkDone.Ran ran row) = true
is_answer (Send to what) (LinkDone.Sent given) = true
is_answer (Receive bytes) (LinkDone.Received answer) = true
is_answer (GiveUp peer) (LinkDone.GivenUp answer) = true
is_answer Quit (LinkDone.Quit quit) = true
is_answer _ _ = false

-- whom an event names
abbrev pub player_of : LinkEvent → ℕ
player_of (Call player call) = player
player_of (Deliver player which) = player

-- in a game of so many players, in which so many datagrams were given, an event is done and has an answer of its
-- kind; or it is refused for the first thing that is wrong: it names no player, or it brings what was never given.
-- To an event that asks for a datagram memory may be refused
abbrev pub IsAnswered : (players given : ℕ) → LinkEvent → Result LinkDone LinkRefusal → Type 0
IsAnswered players given event (Err NoPlayer) = players ≤ player_of event
IsAnswered players given (Deliver player which) (Err NoDatagram) = (player < players) × (given ≤ which)
IsAnswered players given (Call player (Send to what)) (Err Memory) = player < players
IsAnswered players given (Call player call) (Ok done) = (player < players) × (is_answer call done ≡ true)
IsAnswered players given (Deliver player which) (Ok (LinkDone.Received answer)) = (player < players) × (which < given)
IsAnswered players given event refused = ⊥

-- and each event is, by how many datagrams the earlier answers tell to have been given
abbrev pub AreAnswered : ℕ → List LinkEvent → List (Result LinkDone LinkRefusal) → Type 0
AreAnswered players events answers =
    (k : ℕ) (event : LinkEvent) (answer : Result LinkDone LinkRefusal) → slice_get events k ≡ Some event
    → slice_get answers k ≡ Some answer → IsAnswered players (given_by (take k answers)) event answer

-- what was given stays, and one datagram more was given if the answer tells so
pub record AddsToGiven {W : Type 0} (old new : LinkGame W) (answer : Result LinkDone LinkRefusal) : Type 0 where
  pub stays : take (length old.given.items) new.given.items ≡ old.given.items
  pub more : length new.given.items ≡ length old.given.items + given_by (answer ∷ [])

-- an answer that tells of no failed check: no mark was off in a run, and no end was refused that was decided at a
-- give-up
abbrev pub IsSteady : Result LinkDone LinkRefusal → Type 0
IsSteady (Ok (LinkDone.Ran (Ran.Inconsistent player was should) row)) = ⊥
IsSteady (Ok (LinkDone.GivenUp (GivenUp.Untaken player reason))) = ⊥
IsSteady answer = Unit {0}

-- there is room for no more than twice the datagrams that were given, and one
abbrev pub IsWithinTwice : {W : Type 0} → LinkGame W → Type 0
IsWithinTwice g = vec_capacity g.given ≤ 2 * length g.given.items + 1
