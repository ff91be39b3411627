-- What holds of a game after every list of events in which players may be given up: of any two nodes, or of
-- two of which neither has given up the other. And what a decision brings.
use Rattle.std.specs.Prelude.{◌≡◌, ◌≢◌, ◌⊎◌, ℕ, ◌+◌, ◌-◌, ◌<◌, ◌≤◌, ℤ, pos, true, false, [], None, Some, nat_lt, if◌then◌else◌, get_or, length, take, slice_get, List}
use Rattle.dn_tic.specs.Inputs.{made_by}
use Rattle.dn_tic.specs.declared.command.TicCmd.{TicCmd}
use Rattle.dn_setup.specs.Settings.{Settings}
use Rattle.dn_machine.specs.declared.answers.Cause.TheVariants as Cause
use Rattle.dn_machine.specs.declared.answers.Heard.TheVariants.{Dropped}
use Rattle.dn_machine.specs.declared.answers.Phase.TheVariants.{Ended}
use Rattle.dn_machine.specs.declared.answers.Ran.TheVariants.{Waiting}
use Rattle.dn_machine.specs.Drops as drops
use Rattle.dn_machine.specs.Flight.{Flight, end_of}
use Rattle.dn_machine.specs.Limits.{Limits}
use Rattle.dn_machine.specs.Node.{got, made, ran, held_at, has_left, lacks, demo_rows}
use Rattle.dn_machine.specs.Promise.{IsPrefixOf}
use Rattle.dn_machine.specs.Running.{tic_limit, on_run, is_over}
use Rattle.dn_machine.specs.Sparing.{on_run_but}
use Rattle.dn_machine.specs.Worlds.{Rules, world_after}
use Rattle.dn_remain.specs.Vanished.Node.{Within}
use Rattle.dn_remain.specs.declared.events.Reported.TheVariants as Reported
use Rattle.dn_remain.specs.Wary.{end_seen, holder_of, row_had, Report, on_report, undecided, Wary, report_of, or_fresh}
use Rattle.dn_remain.specs.Remaining.{Telling, Remaining, wary_of, heard_of}
use Rattle.dn_remain.specs.Vanished.Commands.{on_decision}

-- two players of the game, of whom neither has given up the other; one of them may have left
pub record IsPair (limits : Limits) (all : Remaining) (q r : ℕ) : Type 0 where
  pub one : q < limits.players
  pub other : r < limits.players
  pub apart : q ≡ r → ⊥
  pub here : all.gone q r ≡ false
  pub there : all.gone r q ≡ false

-- Agreement of what is run.
pub record AgreeInPairs {S : Type 0} (rules : Rules S) (settings : Settings) (all : Remaining) : Type 0 where
  -- the row that a node ran for a tic has the moves of the commands that the node has for it, of all players
  -- but those whose ends are over
  pub rows : (q tic : ℕ) → tic < ran (all.game.nodes q) → slice_get (all.game.nodes q).rows tic
      ≡ Some (row_had rules.limits (holder_of (all.game.nodes q) (all.gone q)) tic)
  -- a pair ran the same row for each tic that both ran
  pub same : (q r tic : ℕ) → IsPair rules.limits all q r → tic < ran (all.game.nodes q)
      → tic < ran (all.game.nodes r)
      → slice_get (all.game.nodes q).rows tic ≡ slice_get (all.game.nodes r).rows tic
  -- so their own worlds were the same before each tic up to which both ran
  pub worlds : (q r tic : ℕ) → IsPair rules.limits all q r → tic ≤ ran (all.game.nodes q)
      → tic ≤ ran (all.game.nodes r)
      → world_after rules settings (all.game.nodes q).rows tic
      ≡ world_after rules settings (all.game.nodes r).rows tic
  -- they know the same end of a player, told or decided, once they have the commands before it
  pub ends_same : (q r p a b : ℕ) → IsPair rules.limits all q r → end_seen (all.game.nodes q) p ≡ Some a
      → end_seen (all.game.nodes r) p ≡ Some b → a ≡ b
  -- whoever knows an end has the commands before it, and no more
  pub has_all : (q p a : ℕ) → end_seen (all.game.nodes q) p ≡ Some a → got (all.game.nodes q) p ≡ a
  -- it is at least what the other has, and at most what the player made
  pub at_least : (q r p a : ℕ) → IsPair rules.limits all q r → end_seen (all.game.nodes q) p ≡ Some a
      → got (all.game.nodes r) p ≤ a
  pub at_most : (q p a : ℕ) → end_seen (all.game.nodes q) p ≡ Some a → a ≤ made p (all.game.nodes p)
  -- a tic is run without a player from the end on that the node knows, and never before
  pub without : (q p tic : ℕ) → p < rules.players → p < 4 → tic < ran (all.game.nodes q)
      → lacks (get_or (all.game.nodes q).rows tic []) p ≡ is_over (end_seen (all.game.nodes q) p) tic
  -- any two nodes have the same command of a player for a tic for which both have one, across a split too
  pub held : (q r p tic : ℕ) → tic < got (all.game.nodes q) p → tic < got (all.game.nodes r) p
      → held_at (all.game.nodes q) p tic ≡ held_at (all.game.nodes r) p tic
  -- what a node has of a player are the first of the commands that the player made
  pub begins : (q p : ℕ) → IsPrefixOf ((all.game.nodes q).held p) ((all.game.nodes p).held p)
  -- the marks that a node was told at a tic, of the players who took part in it, are those of its own world
  -- before the tic
  pub marks : (q p tic : ℕ) → q < rules.players → p < rules.players → tic < ran (all.game.nodes q)
      → is_over (end_seen (all.game.nodes q) p) tic ≡ false
      → (all.game.nodes q).marks tic p
      ≡ rules.physics.mark (world_after rules settings (all.game.nodes q).rows tic) p
  -- what a player made is what its inputs make, one command for each; in windows up to twelve with the marks of
  -- its own worlds twelve tics before
  pub counted : (p : ℕ) → p < rules.players
      → length (all.game.nodes p).inputs ≡ made p (all.game.nodes p)
  pub own : (p tic : ℕ) → p < rules.players → rules.ahead ≤ 12 → tic < made p (all.game.nodes p)
      → held_at (all.game.nodes p) p tic
      ≡ made_by (take (tic + 1) (all.game.nodes p).inputs) (if nat_lt tic 12 then pos 0
      else rules.physics.mark (world_after rules settings (all.game.nodes p).rows (tic - 12)) p)
  -- so in these windows the mark of each command with which a node ran a tic, of a player whom it has not given
  -- up, is that of the node's own world twelve tics before
  pub compared : (q p tic : ℕ) → q < rules.players → p < rules.players → rules.ahead ≤ 12
      → all.gone q p ≡ false → is_over (end_seen (all.game.nodes q) p) tic ≡ false → 12 ≤ tic
      → tic < ran (all.game.nodes q)
      → (held_at (all.game.nodes q) p tic).mark
      ≡ rules.physics.mark (world_after rules settings (all.game.nodes q).rows (tic - 12)) p
  -- of the rows in any two nodes' demos one list is a prefix of the other
  pub demos : (q r : ℕ)
      → IsPrefixOf (demo_rows rules.players (all.game.nodes q)) (demo_rows rules.players (all.game.nodes r))
      ⊎ IsPrefixOf (demo_rows rules.players (all.game.nodes r)) (demo_rows rules.players (all.game.nodes q))
  -- and no row of a demo lacks a player
  pub demo_whole : (q p tic : ℕ) → p < rules.players
      → tic < length (demo_rows rules.players (all.game.nodes q))
      → lacks (get_or (demo_rows rules.players (all.game.nodes q)) tic []) p ≡ false

-- Windows: of each player at most twice the window is unread. So where twice as many commands are kept, no
-- ring overwrites one that is still needed.
pub record FitsInPairs (limits : Limits) (all : Remaining) : Type 0 where
  -- of each player whose end it does not know a node has every command of the tics that it ran
  pub run : (q p : ℕ) → p < limits.players → end_seen (all.game.nodes q) p ≡ None
      → ran (all.game.nodes q) ≤ got (all.game.nodes q) p
  -- of each player a node has at most twice the window that it has not run, and no command that was not made
  pub unread : (q p : ℕ) → q < limits.players
      → got (all.game.nodes q) p ≤ ran (all.game.nodes q) + (limits.ahead + limits.ahead)
  pub held : (q p : ℕ) → got (all.game.nodes q) p ≤ made p (all.game.nodes p)
  -- no player is further ahead than the window, of the tics run, and of another who has not left and whom it
  -- has not given up
  pub own : (p : ℕ) → made p (all.game.nodes p) ≤ ran (all.game.nodes p) + limits.ahead
  pub close : (q p : ℕ) → q < limits.players → has_left (all.game.nodes q) ≡ false → all.gone p q ≡ false
      → made p (all.game.nodes p) ≤ made q (all.game.nodes q) + limits.ahead
  -- nobody has more than twice the window beyond the tics that another ran, who has not left and whom it has
  -- not given up
  pub overrun : (q r p : ℕ) → q < limits.players → has_left (all.game.nodes q) ≡ false → all.gone r q ≡ false
      → got (all.game.nodes r) p ≤ ran (all.game.nodes q) + (limits.ahead + limits.ahead)
  -- so nothing overruns a node that has not left, whenever it comes: no packet that was sent to it
  pub sent : (which : ℕ) (flight : Flight) → slice_get all.game.flights which ≡ Some flight
      → has_left (all.game.nodes flight.to) ≡ false
      → end_of flight ≤ ran (all.game.nodes flight.to) + (limits.ahead + limits.ahead)
  -- and no report that was told to it, by one who may have given it up since
  pub told : (which p : ℕ) (telling : Telling) → slice_get all.reports which ≡ Some telling
      → has_left (all.game.nodes telling.to) ≡ false
      → length (telling.report.held p) ≤ ran (all.game.nodes telling.to) + (limits.ahead + limits.ahead)
  -- of a player whose end it does not know it lacks at most twice the window of what such a report tells
  pub untold : (which p : ℕ) (telling : Telling) → slice_get all.reports which ≡ Some telling
      → p < limits.players → has_left (all.game.nodes telling.to) ≡ false
      → end_seen (all.game.nodes telling.to) p ≡ None
      → length (telling.report.held p) ≤ got (all.game.nodes telling.to) p + (limits.ahead + limits.ahead)
  -- until it leaves, one of a pair lacks at most twice the window of what the other has
  pub unheard : (q r p : ℕ) → IsPair limits all q r → p < limits.players → has_left (all.game.nodes q) ≡ false
      → got (all.game.nodes r) p ≤ got (all.game.nodes q) p + (limits.ahead + limits.ahead)
  -- the demo's rows fit into it, and there are no more of them than any player has commands
  pub room : (q : ℕ) → length (demo_rows limits.players (all.game.nodes q)) ≤ limits.capacity
  pub least : (q p : ℕ) → p < limits.players
      → length (demo_rows limits.players (all.game.nodes q)) ≤ made p (all.game.nodes p)
  -- no node runs more tics than the limit, where a demo's capacity is not above it
  pub most : (q : ℕ) → limits.capacity ≤ tic_limit → ran (all.game.nodes q) ≤ tic_limit

-- Steadiness: no consistency check fails, and nothing is dropped but for a reason.
pub record SteadyInPairs (limits : Limits) (all : Remaining) : Type 0 where
  -- no consistency check failed
  pub consistent : (q player : ℕ) (was should : ℤ) → q < limits.players
      → (all.game.nodes q).phase ≢ Ended (Cause.Inconsistent player was should)
  -- in windows up to six none would fail of a player who is given up either: there each run is that of the
  -- machine
  pub narrow : (q : ℕ) (marks : ℕ → ℤ) → q < limits.players → limits.ahead + limits.ahead ≤ 12
      → on_run_but limits (all.gone q) (all.game.nodes q) marks ≡ on_run limits (all.game.nodes q) marks
  -- a packet that was sent, whenever it comes, is dropped only as set-up out of place, by a node that does not
  -- play, or by one that has given up its sender
  pub kept : (which : ℕ) (flight : Flight) (number : ℕ) → slice_get all.game.flights which ≡ Some flight
      → heard_of limits all flight ≡ Dropped number
      → (number ≡ drops.out_of_place) ⊎ ((number ≡ drops.not_playing)
      ⊎ ((number ≡ drops.given_up) × (all.gone flight.to flight.from ≡ true)))
  -- a report is dropped only by a node that does not play, or by one that has given up its sender
  pub reports : (which : ℕ) (telling : Telling) (number : ℕ) → slice_get all.reports which ≡ Some telling
      → (on_report limits telling.to (wary_of all telling.to) telling.from telling.report).1
      ≡ Reported.Dropped number
      → (number ≡ drops.not_playing) ⊎ ((number ≡ drops.given_up)
      × (all.gone telling.to telling.from ≡ true))
  -- and of one that is stale the newest of its sender tells all and more
  pub stale : (which : ℕ) (telling : Telling) → slice_get all.reports which ≡ Some telling
      → (on_report limits telling.to (wary_of all telling.to) telling.from telling.report).1 ≡ Reported.Stale
      → (newest : Report) × (all.newest telling.to telling.from ≡ Some newest)
      × Within telling.report.gone newest.gone
      × ((p : ℕ) → length (telling.report.held p) ≤ length (newest.held p))
  -- a run that waits for a player who is given up lacks a report
  pub waits : (q p : ℕ) (marks : ℕ → ℤ) → q < limits.players
      → (on_run_but limits (all.gone q) (all.game.nodes q) marks).1 ≡ Waiting p → all.gone q p ≡ true
      → (r : ℕ) × (undecided limits q (wary_of all q) ≡ Some r)

-- What a decision brings to a node, where its reports let it decide: what whoever takes the end, and the
-- commands before it, may count on.

-- the commands of a player after a decision by the newest reports: of one who is given up, all that count
abbrev pub commands_decided : Limits → ℕ → Wary → ℕ → List TicCmd
commands_decided limits me wary player =
    (on_decision limits.players me (report_of wary) (λ from. or_fresh (wary.newest from))).held player

-- of each player whom node `q` has given up, what it decides can be taken
pub record CanBeTaken (limits : Limits) (all : Remaining) (q : ℕ) : Type 0 where
  -- what it has are the first of the commands that are decided
  pub front : (p : ℕ) → all.gone q p ≡ true
      → IsPrefixOf ((all.game.nodes q).held p) (commands_decided limits q (wary_of all q) p)
  -- and these are the first of those that the player made
  pub made : (p : ℕ) → all.gone q p ≡ true
      → IsPrefixOf (commands_decided limits q (wary_of all q) p) ((all.game.nodes p).held p)
  -- at most twice the window of them is not run
  pub room : (p : ℕ) → all.gone q p ≡ true
      → length (commands_decided limits q (wary_of all q) p)
      ≤ ran (all.game.nodes q) + (limits.ahead + limits.ahead)
  -- an end that it knows, with all commands before it, is the same
  pub known : (p end : ℕ) → all.gone q p ≡ true → end_seen (all.game.nodes q) p ≡ Some end
      → length (commands_decided limits q (wary_of all q) p) ≡ end
