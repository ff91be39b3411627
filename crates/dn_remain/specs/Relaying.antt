-- Games in which players may be given up, and a node may give another a packet with a command of a third player
-- that it has: as that player would give it, without a request, and without an end. Such a packet comes as any
-- other does; so it is dropped by a node that has given up the command's maker.
use Rattle.std.specs.Prelude.{ℕ, ◌≡◌, Bool, false, List, Option, Some, None}
use Rattle.dn_setup.specs.Settings.{Settings}
use Rattle.dn_machine.specs.Relaying as machine
use Rattle.dn_machine.specs.Relaying.{with_relayed}
use Rattle.dn_machine.specs.Runs.{Path}
use Rattle.dn_machine.specs.Worlds.{Rules}
use Rattle.dn_remain.specs.Vanished.Node.{Within}
use Rattle.dn_remain.specs.Wary.{Report}
use Rattle.dn_remain.specs.Remaining.{Remaining, opening_remaining, NextRemain}
use Rattle.dn_remain.specs.declared.events.RemainEvent.{RemainEvent}

-- whom another has given up, as far as its newest report tells
abbrev pub told_gone : Option Report → ℕ → Bool
told_gone None player = false
told_gone (Some report) player = report.gone player

-- the node has the command, has not given up the receiver, and has given up nobody but whom it knows the receiver
-- to have given up
pub record CanRelay (players : ℕ) (all : Remaining) (node player to tic : ℕ) : Type 0 where
  pub can : machine.CanRelay players all.game node player to tic
  pub open_to : all.gone node to ≡ false
  pub within : Within (all.gone node) (told_gone (all.newest node to))

-- an event of such a game, or a node gives such a packet
pub data RelayEvent : Type 0 where
  Own : (event : RemainEvent) → RelayEvent
  Relay : (node player to tic : ℕ) → RelayEvent

-- one event leads from a game to the next
abbrev pub NextRelayed : {S : Type 0} → Rules S → Remaining → RelayEvent → Remaining → Type 0
NextRelayed rules all (Own event) next = NextRemain rules all event next
NextRelayed rules all (Relay node player to tic) next = CanRelay rules.players all node player to tic
    × (next ≡ record all { game = with_relayed all.game node player to tic })

-- a list of events leads from a game to another
abbrev pub LeadsRelayed : {S : Type 0} → Rules S → Remaining → List RelayEvent → Remaining → Type 0
LeadsRelayed rules all events last = Path (NextRelayed rules) all events last

-- a game that the list of events may lead to, from the opening on
abbrev pub RunsRelayed : {S : Type 0} → Rules S → Settings → List RelayEvent → Remaining → Type 0
RunsRelayed rules settings events all = LeadsRelayed rules (opening_remaining settings) events all
