-- An event on a game is a step of the machine.
use Rattle.std.specs.Prelude.{◌≡◌, ◌<◌, ◌⊎◌, ℕ, Bool, IsTrue, length, None, Result, Err}
use Rattle.dn_world.specs.Physics.{Physics}
use Rattle.dn_machine.specs.declared.events.Done.{Done}
use Rattle.dn_machine.specs.declared.events.Event.{Event}
use Rattle.dn_machine.specs.declared.events.Event.TheVariants.{Build, Give, Send, Deliver, Run, Quit, Stop}
use Rattle.dn_machine.specs.declared.events.Refusal.{Refusal}
use Rattle.dn_machine.specs.Game as machine
use Rattle.dn_machine.specs.Game.{applied, refused}
use Rattle.dn_machine.specs.Runs.{is_send}
use Rattle.dn_machine.specs.Worlds.{Rules, rules_of}
use Rattle.dn_game.specs.Contents.{Contents, Represents}

-- whatever game of the machine a game represents, this holds of it
abbrev pub Tells : {W S : Type 0} → (W → S) → Physics S → Contents W → (Rules S → machine.Game → Type 0)
    → Type 0
Tells {W} {S} state physics g Fact =
    (players : ℕ) (extra : Bool) (capacity : ℕ) (m : machine.Game)
    → Represents state (rules_of physics players extra capacity) g m
    → Fact (rules_of physics players extra capacity) m

-- the game represents this one of the machine, and this is the answer
pub record IsAfter {W S A : Type 0} (state : W → S) (rules : Rules S) (new : Contents W)
    (after : machine.Game × A) (answer : A) : Type 0 where
  pub game : Represents state rules new after.0
  pub answered : answer ≡ after.1

-- an event that asks for room is left out since memory was refused, and nothing changes
pub record IsLeftOut {G A : Type 0} (old new : G) (asks_room : Bool) (answer : Result A Refusal) : Type 0 where
  pub asks : IsTrue asks_room
  pub same : new ≡ old
  pub answered : answer ≡ Err Refusal.Memory

-- an event is applied as the machine applies it, or it is a send that is left out, which nothing else refuses
abbrev pub IsApplied : {W S : Type 0} → (W → S) → Rules S → Contents W → Contents W → machine.Game → Event
    → Result Done Refusal → Type 0
IsApplied state rules old new m event answer =
    IsAfter state rules new (applied rules m event) answer
    ⊎ ((refused rules.players m event ≡ None) × IsLeftOut old new (is_send event) answer)

-- the nodes and the packet that the event names are there, of so many nodes and packets
abbrev pub IsWithin : ℕ → ℕ → Event → Type 0
IsWithin nodes flights (Build node keys) = node < nodes
IsWithin nodes flights (Give node command) = node < nodes
IsWithin nodes flights (Send node to) = (node < nodes) × (to < nodes)
IsWithin nodes flights (Deliver which) = which < flights
IsWithin nodes flights (Run node) = node < nodes
IsWithin nodes flights (Quit node) = node < nodes
IsWithin nodes flights (Stop node) = node < nodes

-- the nodes and the packet that the event names are there, in this game
abbrev pub IsAddressed : {W : Type 0} → Contents W → Event → Type 0
IsAddressed g event = IsWithin (length g.nodes) (length g.flights) event
