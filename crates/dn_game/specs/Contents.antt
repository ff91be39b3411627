-- What a game holds, and when it represents a game of the machine.
use Rattle.std.specs.Prelude.{Bool, List, ◌≡◌, ◌≢◌, ◌<◌, ℕ, false, length, map, All, slice_get, slice_index_or, Some}
use Rattle.dn_machine.specs.Flight as exact
use Rattle.dn_machine.specs.Game as machine
use Rattle.dn_machine.specs.Limits.{Limits, vanilla_limits}
use Rattle.dn_machine.specs.Worlds.{Rules}
use Rattle.dn_lockstep.specs.Sent.{IsFair, aim_of, bytes_of}
use Rattle.dn_node.specs.Kept.{Kept}
use Rattle.dn_node.specs.Contents as node
use Rattle.dn_game.specs.declared.flight.Flight.{Flight}
use Rattle.dn_game.specs.declared.game.Game.{Game}

pub record Contents (W : Type 0) : Type 0 where
  -- the nodes in the order of their numbers
  pub nodes : List (Kept W)
  -- by number, who has stopped
  pub stopped : List Bool
  -- every packet that was sent, in order
  pub flights : List Flight

abbrev pub contents : {W : Type 0} → Game W → Contents W
contents game = record { nodes = game.nodes.items; stopped = game.stopped; flights = game.pool.flights }

-- the packet of a flight: its exact numbers and its bytes
abbrev pub flight_of : exact.Flight → Flight
flight_of flight =
    record {
      from = flight.from;
      to = flight.to;
      aim = aim_of flight;
      bytes = record { items = bytes_of flight };
    }

-- a flight between two players that a packet can carry
pub record IsCarried (players : ℕ) (flight : exact.Flight) : Type 0 where
  pub from : flight.from < players
  pub to : flight.to < players
  pub apart : flight.from ≢ flight.to
  pub fair : IsFair flight

-- a game in one process has the window of 1997
abbrev pub IsVanilla : Limits → Type 0
IsVanilla limits = limits ≡ vanilla_limits limits.players limits.extra limits.capacity

pub record Represents {W S : Type 0} (state : W → S) (rules : Rules S) (g : Contents W)
    (m : machine.Game) : Type 0 where
  pub players : length g.nodes ≡ rules.players
  pub vanilla : IsVanilla rules.limits
  -- each node represents the machine's node of its number
  pub nodes : (i : ℕ) (n : Kept W) → slice_get g.nodes i ≡ Some n
      → node.Represents state rules i (node.contents n) (m.nodes i)
  -- the same have stopped
  pub stopped : (i : ℕ) → slice_index_or g.stopped i false ≡ m.stopped i
  -- the packets are those of the machine's flights, in the same order
  pub flights : g.flights ≡ map flight_of m.flights
  pub carried : All (IsCarried rules.players) m.flights
