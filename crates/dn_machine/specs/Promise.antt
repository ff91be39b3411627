-- What holds of a game after every list of events.
use Rattle.std.specs.Prelude.{ℕ, ◌+◌, ◌<◌, ◌≤◌, min, true, false, ◌&&◌, nat_le, get_or, [], List, ◌++◌, ◌≡◌, ◌≢◌, ◌⊎◌, ℤ, length, Some, None, slice_get, if◌then◌else◌}
use Rattle.dn_setup.specs.Settings.{Settings}
use Rattle.dn_machine.specs.declared.answers.Phase.TheVariants.{Ended}
use Rattle.dn_machine.specs.declared.answers.Cause.TheVariants as Cause
use Rattle.dn_machine.specs.declared.answers.Heard.TheVariants.{Dropped}
use Rattle.dn_machine.specs.Drops as drops
use Rattle.dn_machine.specs.Making.{Making}
use Rattle.dn_machine.specs.Worlds.{Inputs, RulesBy, command, commands_made, row, world, world_after}
use Rattle.dn_machine.specs.Flight.{Flight}
use Rattle.dn_machine.specs.Node.{got, made, ran, held_at, is_ended, has_left, known_end, lacks, demo_rows}
use Rattle.dn_machine.specs.Hearing.{on_packet}
use Rattle.dn_machine.specs.Running.{tic_limit}
use Rattle.dn_machine.specs.Game.{Game, refused_flight}

abbrev pub IsPrefixOf : {A : Type 0} → List A → List A → Type 0
IsPrefixOf {A} xs ys = (rest : List A) × (xs ++ rest ≡ ys)

-- the inputs of every player, as its node took them
abbrev pub inputs_of : Game → Inputs
inputs_of game player = (game.nodes player).inputs

-- Agreement: what nodes hold and run is what the players' inputs make, the same at all of them.
pub record Agree {making : Making} {S : Type 0} (rules : RulesBy making S) (settings : Settings) (game : Game)
    : Type 0 where
  -- the row that a node ran for a tic is that of the commands which the players' inputs make
  pub rows : (q tic : ℕ) → q < rules.players → tic < ran (game.nodes q)
      → slice_get (game.nodes q).rows tic ≡ Some (row rules settings (inputs_of game) tic)
  -- any two nodes that ran a tic ran the same row
  pub same : (q r tic : ℕ) → q < rules.players → r < rules.players → tic < ran (game.nodes q)
      → tic < ran (game.nodes r)
      → slice_get (game.nodes q).rows tic ≡ slice_get (game.nodes r).rows tic
  -- a tic is run without a player from that player's end on, and never before, by every node
  pub without : (q p tic : ℕ) → q < rules.players → p < rules.players → p < 4 → tic < ran (game.nodes q)
      → lacks (get_or (game.nodes q).rows tic []) p
      ≡ (has_left (game.nodes p) && nat_le (made p (game.nodes p)) tic)
  -- every player who has not left has made a command for each tic that any node ran
  pub whole : (q p tic : ℕ) → q < rules.players → p < rules.players → tic < ran (game.nodes q)
      → has_left (game.nodes p) ≡ false → tic < length (inputs_of game p)
  -- a known end is that of a player who has left, and comes right after the last command
  pub ends : (q p end : ℕ) → q < rules.players → p < rules.players → known_end q (game.nodes q) p ≡ Some end
      → (has_left (game.nodes p) ≡ true) × (end ≡ made p (game.nodes p))
  -- hence any two nodes that know a player's end know the same
  pub ends_same : (q r p a b : ℕ) → q < rules.players → r < rules.players → p < rules.players
      → known_end q (game.nodes q) p ≡ Some a → known_end r (game.nodes r) p ≡ Some b → a ≡ b
  -- what a node has of a player are the first of the commands that the player's inputs make
  pub held : (q p tic : ℕ) → q < rules.players → p < rules.players → tic < got (game.nodes q) p
      → held_at (game.nodes q) p tic ≡ command rules settings (inputs_of game) p tic
  pub begins : (q p : ℕ) → q < rules.players → p < rules.players
      → IsPrefixOf ((game.nodes q).held p) (commands_made rules settings (inputs_of game) p)
  -- every node that has started has the key player's settings
  pub settings_same : (q : ℕ) → q < rules.players → (game.nodes q).played ≡ true
      → (game.nodes q).settings ≡ Some settings
  -- of the rows in any two nodes' demos one list is a prefix of the other
  pub demos : (q r : ℕ) → q < rules.players → r < rules.players
      → IsPrefixOf (demo_rows rules.players (game.nodes q)) (demo_rows rules.players (game.nodes r))
      ⊎ IsPrefixOf (demo_rows rules.players (game.nodes r)) (demo_rows rules.players (game.nodes q))
  -- and no row of a demo lacks a player
  pub demo_whole : (q p tic : ℕ) → p < rules.players → tic < length (demo_rows rules.players (game.nodes q))
      → lacks (get_or (demo_rows rules.players (game.nodes q)) tic []) p ≡ false
  -- the marks that a node was told at a tic, of the players who made a command for it, are those of its own
  -- world before the tic
  pub marks : (q p tic : ℕ) → q < rules.players → p < rules.players → tic < ran (game.nodes q)
      → tic < length (inputs_of game p)
      → (game.nodes q).marks tic p
      ≡ rules.physics.mark (world_after rules settings (game.nodes q).rows tic) p
  -- a node's own world is that of the players' inputs
  pub worlds : (q : ℕ) → q < rules.players
      → world_after rules settings (game.nodes q).rows (ran (game.nodes q))
      ≡ world rules settings (inputs_of game) (ran (game.nodes q))

-- a player's end, and this tic for one who has not left
abbrev pub end_or : Game → ℕ → ℕ → ℕ
end_or game player tic = if has_left (game.nodes player) then made player (game.nodes player) else tic

-- Windows: no ring overwrites a command that a node that has not ended still needs.
pub record Fits {making : Making} {S : Type 0} (rules : RulesBy making S) (game : Game) : Type 0 where
  -- of each player a node has every command of the tics that it ran, up to that player's end, and at most
  -- twice the window that it has not run yet
  pub run : (q p : ℕ) → q < rules.players → p < rules.players
      → min (ran (game.nodes q)) (end_or game p (ran (game.nodes q))) ≤ got (game.nodes q) p
  pub unread : (q p : ℕ) → q < rules.players → p < rules.players
      → got (game.nodes q) p ≤ ran (game.nodes q) + (rules.ahead + rules.ahead)
  -- it has no command that was not made; and until it ends, it lacks at most twice the window of those that
  -- were made
  pub held : (q p : ℕ) → q < rules.players → p < rules.players → got (game.nodes q) p ≤ made p (game.nodes p)
  pub unheard : (q p : ℕ) → q < rules.players → p < rules.players → is_ended (game.nodes q).phase ≡ false
      → made p (game.nodes p) ≤ got (game.nodes q) p + (rules.ahead + rules.ahead)
  -- no player is further ahead than the window, of the tics run and of another player who has not ended
  pub ahead : (p : ℕ) → p < rules.players → made p (game.nodes p) ≤ ran (game.nodes p) + rules.ahead
  pub close : (p q : ℕ) → p < rules.players → q < rules.players → is_ended (game.nodes q).phase ≡ false
      → made p (game.nodes p) ≤ made q (game.nodes q) + rules.ahead
  -- the demo's rows fit into it, and there are no more of them than any player has commands
  pub room : (q : ℕ) → q < rules.players → length (demo_rows rules.players (game.nodes q)) ≤ rules.capacity
  pub least : (q p : ℕ) → q < rules.players → p < rules.players
      → length (demo_rows rules.players (game.nodes q)) ≤ made p (game.nodes p)
  -- no node runs more tics than the limit, where a demo's capacity is not above it
  pub most : (q : ℕ) → q < rules.players → rules.capacity ≤ tic_limit → ran (game.nodes q) ≤ tic_limit

-- Steadiness: no consistency check fails, and a node that plays drops nothing that was sent but set-up.
pub record Steady {making : Making} {S : Type 0} (rules : RulesBy making S) (game : Game) : Type 0 where
  -- no consistency check failed
  pub consistent : (q : ℕ) (player : ℕ) (was should : ℤ) → q < rules.players
      → (game.nodes q).phase ≢ Ended (Cause.Inconsistent player was should)
  -- a packet whose delivery is not refused is dropped only as set-up out of place, or by a node that does not
  -- play
  pub kept : (which : ℕ) (flight : Flight) (number : ℕ) → slice_get game.flights which ≡ Some flight
      → refused_flight game (Some flight) ≡ None
      → (on_packet rules.limits flight.to (game.nodes flight.to) flight).1 ≡ Dropped number
      → (number ≡ drops.out_of_place) ⊎ (number ≡ drops.not_playing)
