-- What an event leaves as it is, and what events leave of the worlds that were given for a game's nodes.
use Rattle.std.specs.Prelude.{◌≡◌, ◌≢◌, ◌++◌, ℕ, List, Option, Some, Result, Ok, slice_get}
use Rattle.std.specs.Option.{option_map}
use Rattle.dn_machine.specs.declared.answers.Heard.{Heard}
use Rattle.dn_machine.specs.declared.answers.Ran.{Ran}
use Rattle.dn_machine.specs.declared.events.Done.{Done}
use Rattle.dn_machine.specs.declared.events.Event.{Event}
use Rattle.dn_machine.specs.declared.events.Event.TheVariants.{Build, Give, Send, Deliver, Run, Quit, Stop}
use Rattle.dn_machine.specs.declared.events.Refusal.{Refusal}
use Rattle.dn_game.specs.declared.flight.Flight.{Flight}
use Rattle.dn_game.specs.Contents.{Contents}
use Rattle.dn_game.specs.Opening.{worlds_of}

-- the node that an event names; a delivery names the receiver of its packet
abbrev pub named_in : List Flight → Event → Option ℕ
named_in flights (Build node keys) = Some node
named_in flights (Give node command) = Some node
named_in flights (Send node to) = Some node
named_in flights (Deliver which) = option_map (λ (flight : Flight). flight.to) (slice_get flights which)
named_in flights (Run node) = Some node
named_in flights (Quit node) = Some node
named_in flights (Stop node) = Some node

abbrev pub named_by : {W : Type 0} → Contents W → Event → Option ℕ
named_by g event = named_in g.flights event

-- each node but the one that is named is as it was
abbrev pub KeepsOthers : {W : Type 0} → Option ℕ → Contents W → Contents W → Type 0
KeepsOthers named old new = (i : ℕ) → named ≢ Some i → slice_get new.nodes i ≡ slice_get old.nodes i

-- each node has the very world that it had
abbrev pub KeepsWorlds : {W : Type 0} → Contents W → Contents W → Type 0
KeepsWorlds old new = worlds_of new.nodes ≡ worlds_of old.nodes

-- an answer that tells of no node that began its world, and of none that took it a tic further
abbrev pub MovesNoWorld : Result Done Refusal → Type 0
MovesNoWorld (Ok (Done.Heard heard)) = heard ≢ Heard.Started
MovesNoWorld (Ok (Done.Ran (Ran.Ran tic))) = ⊥
MovesNoWorld answer = Unit {0}

-- the packets that were sent stay, and others may follow them
abbrev pub KeepsFlights : {W : Type 0} → Contents W → Contents W → Type 0
KeepsFlights old new = (more : List Flight) × (new.flights ≡ old.flights ++ more)

-- what an event with this answer leaves as it is: each node but the one that it names, each world if none moves, and
-- the packets
pub record KeepsRest {W : Type 0} (old new : Contents W) (event : Event) (answer : Result Done Refusal) : Type 0 where
  pub others : KeepsOthers (named_by old event) old new
  pub worlds : MovesNoWorld answer → KeepsWorlds old new
  pub more : KeepsFlights old new

-- no answer to an event that names this node tells that it started or ran; these are the packets
abbrev pub NeverMoves : List Flight → ℕ → List Event → List (Result Done Refusal) → Type 0
NeverMoves flights i events answers =
    (k : ℕ) (event : Event) (answer : Result Done Refusal) → slice_get events k ≡ Some event
    → slice_get answers k ≡ Some answer → named_in flights event ≡ Some i → MovesNoWorld answer

-- after events with these answers a node that neither started nor ran has the world that was given for it
abbrev pub KeepsGiven : {W : Type 0} → List W → List Event → List (Result Done Refusal) → Contents W → Type 0
KeepsGiven worlds events answers g =
    (i : ℕ) → NeverMoves g.flights i events answers → slice_get (worlds_of g.nodes) i ≡ slice_get worlds i
