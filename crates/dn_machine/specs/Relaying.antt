-- Games in which a node may give another a packet with a command of a third player that it has: as that player
-- would give it, without a request, and without an end. Such a packet comes as any other does. The machine of
-- 1997 has none, and nothing of it is changed here.
use Rattle.std.specs.Prelude.{ℕ, ◌<◌, ◌≡◌, ◌≢◌, List, [], ◌∷◌, ◌++◌, None}
use Rattle.dn_tic.specs.declared.command.TicCmd.{TicCmd}
use Rattle.dn_setup.specs.Settings.{Settings}
use Rattle.dn_machine.specs.declared.events.Event.{Event}
use Rattle.dn_machine.specs.Flight.{Play, Flight}
use Rattle.dn_machine.specs.Node.{Node, got, held_at}
use Rattle.dn_machine.specs.Game.{Game, opening_game}
use Rattle.dn_machine.specs.Runs.{Next, Path}
use Rattle.dn_machine.specs.Worlds.{Rules}

-- a player's packet of one command, to another
abbrev pub packet_of_one : (player to tic : ℕ) → TicCmd → Flight
packet_of_one player to tic command =
    record { from = player; to = to; kind = Play; start = tic; request = None; commands = command ∷ [] }

-- that of the command that a node has of a player for a tic
abbrev pub relayed : Node → (player to tic : ℕ) → Flight
relayed node player to tic = packet_of_one player to tic (held_at node player tic)

-- an event of the machine, or a node gives such a packet
pub data RelayEvent : Type 0 where
  Own : (event : Event) → RelayEvent
  Relay : (node player to tic : ℕ) → RelayEvent

-- the node has the command, and it goes to another player than its maker
pub record CanRelay (players : ℕ) (game : Game) (node player to tic : ℕ) : Type 0 where
  pub giver : node < players
  pub maker : player < players
  pub receiver : to < players
  pub apart : player ≢ to
  pub has : tic < got (game.nodes node) player

-- the packet joins those that were sent
abbrev pub with_relayed : Game → (node player to tic : ℕ) → Game
with_relayed game node player to tic =
    record game { flights = game.flights ++ relayed (game.nodes node) player to tic ∷ [] }

-- one event leads from a game to the next
abbrev pub NextRelayed : {S : Type 0} → Rules S → Game → RelayEvent → Game → Type 0
NextRelayed rules game (Own event) next = Next rules game event next
NextRelayed rules game (Relay node player to tic) next =
    CanRelay rules.players game node player to tic × (next ≡ with_relayed game node player to tic)

-- a list of events leads from a game to another
abbrev pub LeadsRelayed : {S : Type 0} → Rules S → Game → List RelayEvent → Game → Type 0
LeadsRelayed rules game events last = Path (NextRelayed rules) game events last

-- a game that the list of events may lead to, from the opening on
abbrev pub RunsRelayed : {S : Type 0} → Rules S → Settings → List RelayEvent → Game → Type 0
RunsRelayed rules settings events game = LeadsRelayed rules (opening_game settings) events game
