-- What a game that was played shows of the game of the machine that its events lead to.
use Rattle.std.specs.Prelude.{◌≡◌, ◌≢◌, ◌↔◌, ◌<◌, ◌≤◌, ◌+◌, ◌%◌, ◌||◌, ℕ, true, false, List, [], map, length, nat_lt, count_by, is_ok, is_err, Some, Result, slice_get, slice_index_or}
use Rattle.dn_tic.specs.Inputs.{hold_of}
use Rattle.dn_setup.specs.Settings.{Settings}
use Rattle.dn_setup.specs.Gathered.{is_noted, is_peer}
use Rattle.dn_demo.specs.Recorded.{is_closed}
use Rattle.dn_machine.specs.declared.events.Done.{Done}
use Rattle.dn_machine.specs.declared.events.Event.{Event}
use Rattle.dn_machine.specs.declared.events.Refusal.{Refusal}
use Rattle.dn_machine.specs.Game as machine
use Rattle.dn_machine.specs.Game.{opening_game}
use Rattle.dn_machine.specs.Headline.{Headline, Shown, shown_by, whole_rows}
use Rattle.dn_machine.specs.Node.{Node, got, own_mark, ends_of, is_ended, ran}
use Rattle.dn_machine.specs.Worlds.{Rules}
use Rattle.dn_lockstep.specs.Represents.{marked_to}
use Rattle.dn_lockstep.specs.Agreed.{recorded_in}
use Rattle.dn_lockstep.specs.Tables.{peer_of, ring_at, ring_of, slot}
use Rattle.dn_node.specs.Contents.{HasOwnMarks}
use Rattle.dn_node.specs.Kept.{Kept}
use Rattle.dn_game.specs.Contents.{Contents, flight_of}
use Rattle.dn_game.specs.Frame.{KeepsGiven}
use Rattle.dn_game.specs.Headline.{Shows}
use Rattle.dn_game.specs.Played.{Plays}

-- what a node shows of itself that shows this one of the machine
abbrev pub shown_of : {W : Type 0} → Kept W → Node → Shown ℕ
shown_of n m = record { phase = m.phase; rows = m.rows; got = got m; demo = recorded_in n.demo.bytes }

-- A node of this number shows the machine's: it keeps in rings, slots and bytes what that one has in whole lists.
pub record ShowsNode {W S : Type 0} (state : W → S) (rules : Rules S) (settings : Settings) (limit me : ℕ)
    (n : Kept W) (m : Node) : Type 0 where
  pub players : n.players ≡ rules.players
  pub number : n.me ≡ me
  pub extra : n.extra ≡ rules.extra
  pub capacity : n.capacity ≡ rules.capacity
  pub ahead : n.ahead ≡ rules.ahead
  -- its phase, the tics that it ran, and its world and its demo once it has started
  pub shown : Shows state rules.physics settings rules.players me n (shown_of n m)
  pub started : (n.demo.bytes ≢ []) ↔ (m.played ≡ true)
  pub played : n.played ≡ m.played
  pub chosen : n.settings ≡ m.settings
  pub hold : n.hold ≡ hold_of m.inputs
  -- each ring counts the commands that the machine's node has of the player, and keeps the last of them
  pub rings : (p : ℕ) → p < rules.players → ring_at n.rings p ≡ ring_of (m.held p)
  pub peers : (p : ℕ) → p < rules.players → peer_of n.peers p ≡ m.peers p
  pub gathers : n.gather.players ≡ rules.players
  pub noted : (p : ℕ) → is_peer rules.players p ≡ true → is_noted n.gather p ≡ m.noted p
  -- a player's slot has the mark of the last tic whose remainder by twelve is the slot's, of the tics that were run
  -- before the player's known end, and 0 where there is none
  pub marks : (p tic : ℕ) → p < rules.players → marked_to (ran m) (ends_of m p) ≤ tic
      → tic < marked_to (ran m) (ends_of m p) + 12 → slot n.marks p (tic % 12) ≡ own_mark m p tic
  -- and the machine's node keeps the marks of its own world
  pub own : HasOwnMarks rules m
  -- its demo may have so many bytes, and is closed once the node has ended or ran a row that lacks a player
  pub limited : n.demo.limit ≡ limit
  pub closed : m.played ≡ true
      → is_closed n.demo.stage ≡ (is_ended m.phase || nat_lt (length (whole_rows rules.players m.rows)) (ran m))

-- the game that is left shows one that the events lead to from the opening, each with its answer, and the answers
-- are counted
pub record ShowsRun {W S : Type 0} (state : W → S) (rules : Rules S) (settings : Settings) (limit : ℕ)
    (worlds : List W) (events : List Event) (g : Contents W) (applied refusals : ℕ) : Type 0 where
  pub last : machine.Game
  pub answers : List (Result Done Refusal)
  pub plays : Plays rules (opening_game settings) events answers last
  -- each node shows the machine's node of its number
  pub players : length g.nodes ≡ rules.players
  pub nodes : (i : ℕ) (n : Kept W) → slice_get g.nodes i ≡ Some n
      → ShowsNode state rules settings limit i n (last.nodes i)
  -- the headline holds of the very rows that these ran
  pub headline : Headline rules.players (λ i. shown_by rules.players (last.nodes i))
  -- the same have stopped
  pub stopped : (i : ℕ) → slice_index_or g.stopped i false ≡ last.stopped i
  -- the packets are those of the machine's flights, in the same order
  pub flights : g.flights ≡ map flight_of last.flights
  -- a node that by the answers to its events neither started nor ran a tic has the world that was given for it
  pub given : KeepsGiven worlds events answers g
  pub done : applied ≡ count_by is_ok answers
  pub refused : refusals ≡ count_by is_err answers
