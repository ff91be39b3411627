-- A game that goes on once its packets arrive.
use Rattle.std.specs.Prelude.{◌≡◌, ◌<◌, ◌≤◌, ◌⊎◌, ◌+◌, ◌*◌, ◌++◌, ℕ, true, false, List, length, slice_index_or, Some, Result}
use Rattle.dn_setup.specs.Settings.{Settings}
use Rattle.dn_machine.specs.declared.events.Done.{Done}
use Rattle.dn_machine.specs.declared.events.Event.{Event}
use Rattle.dn_machine.specs.declared.events.Refusal.{Refusal}
use Rattle.dn_machine.specs.Game as machine
use Rattle.dn_machine.specs.Node.{is_ended}
use Rattle.dn_machine.specs.Progress.{good_rounds}
use Rattle.dn_machine.specs.Running.{tic_limit}
use Rattle.dn_machine.specs.Worlds.{Rules}
use Rattle.dn_lockstep.specs.Told.{HasStarted}
use Rattle.dn_node.specs.Contents as node
use Rattle.dn_node.specs.Contents.{locked, end_in}
use Rattle.dn_game.specs.declared.played.Played.{Played}
use Rattle.dn_game.specs.declared.rounds.RoundFault.{RoundFault}
use Rattle.dn_game.specs.Contents.{Contents, contents, Represents}
use Rattle.dn_game.specs.Frame.{KeepsGiven}
use Rattle.dn_game.specs.Played.{IsPlayed}
use Rattle.dn_game.specs.Promised.{IsPromised}
use Rattle.dn_game.specs.Rounds.{rounds_events, answers_to, IsUnsent, IsCutShort}
use Rattle.dn_game.specs.Agreed.{HasNode}
use Rattle.dn_tic.specs.declared.input.Input.{Input}

-- no node is lost: none has stopped, and whoever has ended had started
pub record NoneLost {W : Type 0} (g : Contents W) : Type 0 where
  pub moving : (i : ℕ) → i < length g.nodes → slice_index_or g.stopped i false ≡ false
  pub started : (i : ℕ) (n : node.Contents W) → HasNode g i n → is_ended n.phase ≡ true
      → HasStarted (locked n)

-- every node that had not ended before has now run at least `tics` tics
abbrev pub AllRan : {W : Type 0} → Contents W → Contents W → ℕ → Type 0
AllRan {W} before g tics =
    (i : ℕ) (n k : node.Contents W) → HasNode before i n → is_ended n.phase ≡ false → HasNode g i k
    → tics ≤ k.ran

-- there is room for `most` tics: in the demos; or, if some node knows that a player's commands end at `tics`
-- or before, below the limit of tics
abbrev pub HasRoom : {W : Type 0} → (capacity : ℕ) → Contents W → (tics most : ℕ) → Type 0
HasRoom {W} capacity g tics most =
    (most ≤ capacity)
    ⊎ ((i player end : ℕ) × (n : node.Contents W) × HasNode g i n × (player < length g.nodes)
    × (end_in n player ≡ Some end) × (end ≤ tics) × (most ≤ tic_limit))

-- after `rounds` good rounds: if no node was lost, every node that had not ended has run `more` tics beyond
-- `tics`, where 13 * more < rounds, and there is room for five more than those
abbrev pub GoesOn : {W : Type 0} → (capacity rounds : ℕ) → Contents W → Contents W → Type 0
GoesOn capacity rounds before g =
    NoneLost before → (tics more : ℕ) → 13 * more < rounds → HasRoom capacity before tics (tics + more + 5)
    → AllRan before before tics → AllRan before g (tics + more)

-- the rounds lead from the machine's game `m` to the one represented now, and the counts are unchanged
pub record IsCalmed {W S : Type 0} (state : W → S) (rules : Rules S) (inputs : ℕ → Input) (rounds : ℕ)
    (m : machine.Game) (before played : Played W) : Type 0 where
  pub game : Represents state rules (contents played.game) (good_rounds rules (λ round. inputs) rounds m)
  pub done : played.done ≡ before.done
  pub refused : played.refused ≡ before.refused

-- what is promised after `rounds` good rounds of a game that represents the machine's `last`, to which these
-- events and answers led: the game went on, and it is promised too, with the events of the rounds behind the
-- others, and the machine's answers to them
pub record HasGoneOn {W S : Type 0} (state : W → S) (rules : Rules S) (settings : Settings)
    (events : List Event) (answers : List (Result Done Refusal)) (last : machine.Game)
    (inputs : ℕ → ℕ → Input) (rounds : ℕ) (before g : Contents W) : Type 0 where
  pub goes_on : GoesOn rules.capacity rounds before g
  pub promised : IsPromised state rules settings (events ++ rounds_events rules inputs rounds last)
      (answers ++ answers_to rules (rounds_events rules inputs rounds last) last)
      (good_rounds rules inputs rounds last) g

-- the events were played and left `before`; then `rounds` good rounds with the same inputs in each were played,
-- which are not counted. A node has the world that was given for it, unless an answer to an event that names it, one
-- of the list or one of the rounds, tells that it started or ran
pub record HasPlayedOn {W S : Type 0} (state : W → S) (rules : Rules S) (settings : Settings) (worlds : List W)
    (events : List Event) (inputs : ℕ → Input) (rounds : ℕ) (played : Played W) : Type 0 where
  pub before : Played W
  pub first : IsPlayed state rules settings events before
  pub on : HasGoneOn state rules settings events first.answers first.last (λ round. inputs) rounds
      (contents before.game) (contents played.game)
  pub done : played.done ≡ before.done
  pub refused : played.refused ≡ before.refused
  pub given : let behind = rounds_events rules (λ round. inputs) rounds first.last in
      KeepsGiven worlds (events ++ behind) (first.answers ++ answers_to rules behind first.last)
      (contents played.game)

-- the events were played and left `before`; the rounds after them stopped, and left this game
pub record HasBrokenOff {W S : Type 0} (state : W → S) (rules : Rules S) (settings : Settings)
    (events : List Event) (inputs : ℕ → Input) (rounds : ℕ) (fault : RoundFault) : Type 0 where
  pub before : Played W
  pub first : IsPlayed state rules settings events before
  pub left : Contents W
  pub unsent : IsUnsent left fault
  pub cut : IsCutShort state rules (rounds_events rules (λ round. inputs) rounds first.last) first.last
      (contents before.game) left
