-- What holds between the survivors of one game, said of what each tells of itself: of any two of them, or
-- of two of whom neither has given up the other. And what their demos have in common.
use Rattle.std.specs.Prelude.{◌≡◌, ◌≢◌, ◌<◌, ◌≤◌, ℕ, ◌+◌, ℤ, pos, false, [], List, Option, Some, None, get_or, length, take, slice_get, if◌then◌else◌, ◌⊎◌, Bool, true, ◌||◌, Ok, nat_lt}
use Rattle.std.specs.List.{take_while}
use Rattle.dn_tic.specs.Inputs.{made_by}
use Rattle.dn_tic.specs.declared.command.Move.{Move}
use Rattle.dn_tic.specs.declared.command.TicCmd.{TicCmd}
use Rattle.dn_setup.specs.Settings.{Settings}
use Rattle.dn_setup.specs.Settings.{start_of}
use Rattle.dn_demo.specs.Layout.{long_tics}
use Rattle.dn_demo.specs.Reading.{IsReadAs, written_demo}
use Rattle.dn_demo.specs.Text.{demo_text}
use Rattle.dn_machine.specs.declared.answers.Cause.TheVariants as Cause
use Rattle.dn_machine.specs.declared.answers.Phase.TheVariants.{Playing, Ended}
use Rattle.dn_machine.specs.Flight.{Flight, end_of}
use Rattle.dn_machine.specs.Limits.{Limits, row_of}
use Rattle.dn_machine.specs.Node.{is_ended, lacks, is_whole}
use Rattle.dn_machine.specs.Running.{is_over, tic_limit}
use Rattle.dn_machine.specs.Worlds.{Inputs}
use Rattle.dn_machine.specs.Promise.{IsPrefixOf}
use Rattle.dn_lockstep.specs.Contents.{end_in, Contents}
use Rattle.dn_lockstep.specs.Told.{HasStarted, command_told, got, made}
use Rattle.dn_lockstep.specs.Agreed.{recorded}
use Rattle.dn_lockstep.specs.Rows.{seats_of}
use Rattle.dn_survivor.specs.OfOthers.{count_told}
use Rattle.dn_survivor.specs.OneGame.{Given, Session}
use Rattle.dn_survivor.specs.Surviving.{Surviving, end_settled, has_given_up}

-- two players of the game, of whom neither has given up the other; one of them may have left
pub record IsPair (limits : Limits) (survivors : ℕ → Surviving) (q r : ℕ) : Type 0 where
  pub one : q < limits.players
  pub other : r < limits.players
  pub apart : q ≢ r
  pub here : has_given_up (survivors q) r ≡ false
  pub there : has_given_up (survivors r) q ≡ false

-- the row of a tic for a survivor: of each player whose end it knows not to be over the move that the player's
-- inputs make, and none of any other
abbrev pub row_without : ℕ → Inputs → Surviving → ℕ → List (Option Move)
row_without players inputs now tic =
    row_of players
    (λ player. if is_over (end_settled now player) tic then None
    else Some (made_by (take (tic + 1) (inputs player)) (pos 0)))

-- the move of a player in the row that a survivor told for a tic, if it has one
abbrev pub move_told : Session → ℕ → ℕ → ℕ → Option Move
move_told session here tic player = get_or (get_or (session.told here) tic []) player None

-- what was run, and what is told of it
pub record AreAgreedInPairs (limits : Limits) (settings : Settings) (session : Session) : Type 0 where
  -- each has its player's number, and the game's number of players
  pub numbers : (p : ℕ) → p < limits.players → (session.survivors p).lockstep.me ≡ p
  pub several : (p : ℕ) → p < limits.players → (session.survivors p).lockstep.players ≡ limits.players
  -- whoever plays has started, and whoever has started has the key player's settings
  pub playing : (p : ℕ) → p < limits.players → (session.survivors p).lockstep.phase ≡ Playing
      → HasStarted (session.survivors p).lockstep
  pub settings_same : (p : ℕ) → p < limits.players → HasStarted (session.survivors p).lockstep
      → (session.survivors p).lockstep.settings ≡ Some settings
  -- it told a row for each tic that it ran
  pub ran : (p : ℕ) → p < limits.players
      → (session.survivors p).lockstep.ran ≡ length (session.told p)
  -- the row has the moves that the players' inputs make, of all players but those whose ends are over
  pub rows : (q tic : ℕ) → q < limits.players → tic < (session.survivors q).lockstep.ran
      → slice_get (session.told q) tic
      ≡ Some (row_without limits.players session.inputs (session.survivors q) tic)
  -- a pair told the same row for each tic that both ran
  pub same : (q r tic : ℕ) → IsPair limits session.survivors q r → tic < (session.survivors q).lockstep.ran
      → tic < (session.survivors r).lockstep.ran → slice_get (session.told q) tic ≡ slice_get (session.told r) tic
  -- so their worlds went on by the same rows up to each tic that both reached
  pub worlds : (q r tic : ℕ) → IsPair limits session.survivors q r → tic ≤ (session.survivors q).lockstep.ran
      → tic ≤ (session.survivors r).lockstep.ran → take tic (session.told q) ≡ take tic (session.told r)
  -- any two at all used the same move of a player in a tic in which both have the player, across a split too
  pub moves_same : (q r p tic : ℕ) → q < limits.players → r < limits.players → p < limits.players
      → tic < (session.survivors q).lockstep.ran → tic < (session.survivors r).lockstep.ran
      → lacks (get_or (session.told q) tic []) p ≡ false → lacks (get_or (session.told r) tic []) p ≡ false
      → move_told session q tic p ≡ move_told session r tic p
  -- each made a command of each of its player's inputs
  pub counted : (p : ℕ) → p < limits.players
      → made (session.survivors p).lockstep ≡ length (session.inputs p)
  -- a command that one tells is the one that the player's inputs make, but for the mark
  pub told : (q player tic : ℕ) (command : TicCmd) → q < limits.players
      → command_told (session.survivors q).lockstep player tic ≡ Some command
      → command ≡ made_by (take (tic + 1) (session.inputs player)) command.mark
  -- and any two at all that tell a player's command for a tic tell the same
  pub told_same : (q r player tic : ℕ) (a b : TicCmd) → q < limits.players → r < limits.players
      → command_told (session.survivors q).lockstep player tic ≡ Some a
      → command_told (session.survivors r).lockstep player tic ≡ Some b → a ≡ b
  -- a pair knows the same end of a player, told or decided, once it has the commands before it
  pub ends_same : (q r p a b : ℕ) → IsPair limits session.survivors q r → p < limits.players
      → end_settled (session.survivors q) p ≡ Some a → end_settled (session.survivors r) p ≡ Some b → a ≡ b
  -- whoever knows an end so has the commands before it, and no more
  pub has_all : (q p a : ℕ) → q < limits.players → p < limits.players
      → end_settled (session.survivors q) p ≡ Some a → got (session.survivors q).lockstep p ≡ a
  -- it is at least what the other of a pair has, and at most what the player made
  pub at_least : (q r p a : ℕ) → IsPair limits session.survivors q r → p < limits.players
      → end_settled (session.survivors q) p ≡ Some a → got (session.survivors r).lockstep p ≤ a
  pub at_most : (q p a : ℕ) → q < limits.players → p < limits.players
      → end_settled (session.survivors q) p ≡ Some a → a ≤ made (session.survivors p).lockstep
  -- of a player whom one has not given up the end that it knows is the one that the player's own tells
  pub ends : (q p a : ℕ) → q < limits.players → p < limits.players
      → has_given_up (session.survivors q) p ≡ false → end_in (session.survivors q).lockstep p ≡ Some a
      → end_in (session.survivors p).lockstep p ≡ Some a
  -- no check failed
  pub consistent : (p player : ℕ) (was should : ℤ) → p < limits.players
      → (session.survivors p).lockstep.phase ≢ Ended (Cause.Inconsistent player was should)

-- what each keeps has room for all that comes to it
pub record FitInPairs (limits : Limits) (session : Session) : Type 0 where
  -- of each player whose end it does not know it has every command of the tics that it ran
  pub run : (q p : ℕ) → q < limits.players → p < limits.players
      → end_settled (session.survivors q) p ≡ None
      → (session.survivors q).lockstep.ran ≤ got (session.survivors q).lockstep p
  -- of each player it has at most twice the window that it has not run, and none that was not made
  pub unread : (q p : ℕ) → q < limits.players → p < limits.players
      → got (session.survivors q).lockstep p
      ≤ (session.survivors q).lockstep.ran + (limits.ahead + limits.ahead)
  pub held : (q p : ℕ) → q < limits.players → p < limits.players
      → got (session.survivors q).lockstep p ≤ made (session.survivors p).lockstep
  -- no player is further ahead than the window, of the tics run, and of another who has not ended and whom it
  -- has not given up
  pub ahead : (p : ℕ) → p < limits.players
      → made (session.survivors p).lockstep ≤ (session.survivors p).lockstep.ran + limits.ahead
  pub close : (p q : ℕ) → p < limits.players → q < limits.players
      → is_ended (session.survivors q).lockstep.phase ≡ false → has_given_up (session.survivors p) q ≡ false
      → made (session.survivors p).lockstep ≤ made (session.survivors q).lockstep + limits.ahead
  -- until one of a pair ends, it lacks at most twice the window of what the other has
  pub unheard : (q r p : ℕ) → IsPair limits session.survivors q r → p < limits.players
      → is_ended (session.survivors q).lockstep.phase ≡ false
      → got (session.survivors r).lockstep p
      ≤ got (session.survivors q).lockstep p + (limits.ahead + limits.ahead)
  -- no packet overruns one that has not ended, whenever it comes
  pub packets : (which : ℕ) (packet : Flight) → slice_get session.packets which ≡ Some packet
      → is_ended (session.survivors packet.to).lockstep.phase ≡ false
      → end_of packet ≤ (session.survivors packet.to).lockstep.ran + (limits.ahead + limits.ahead)
  -- and no report tells it of more
  pub reports : (which p : ℕ) (given : Given) → slice_get session.reports which ≡ Some given
      → p < limits.players → p ≢ given.to → p ≢ given.from
      → is_ended (session.survivors given.to).lockstep.phase ≡ false
      → count_told given.report.told.items p
      ≤ (session.survivors given.to).lockstep.ran + (limits.ahead + limits.ahead)
  -- nor are more tics run than may be, where a demo's room is not above that
  pub most : (p : ℕ) → p < limits.players → limits.capacity ≤ tic_limit
      → (session.survivors p).lockstep.ran ≤ tic_limit

-- What the demos of the survivors of one game have in common.

-- the rows that a survivor told before the first that lacks a player
abbrev pub rows_whole : ℕ → Session → ℕ → List (List (Option Move))
rows_whole players session here = take_while (is_whole players) (session.told here)

-- its demo is closed once it told a row that lacks a player, or has ended
abbrev pub is_closed : ℕ → Session → ℕ → Contents → Bool
is_closed players session here n = is_ended n.phase || nat_lt (length (rows_whole players session here)) n.ran

-- the demos of the survivors
pub record DemosAgreeInPairs (players : ℕ) (settings : Settings) (session : Session) : Type 0 where
  -- whoever has started has as its demo the text of those rows, with its own number as view
  pub texts : (p : ℕ) → p < players → HasStarted (session.survivors p).lockstep
      → (session.survivors p).lockstep.demo.bytes ≡ demo_text long_tics (start_of settings) p (seats_of players)
      (rows_whole players session p) (is_closed players session p (session.survivors p).lockstep)
  -- and once it has ended the demo is read back to them
  pub read_back : (p : ℕ) → p < players → HasStarted (session.survivors p).lockstep
      → is_ended (session.survivors p).lockstep.phase ≡ true
      → IsReadAs (session.survivors p).lockstep.demo.bytes
      (Ok (written_demo long_tics (start_of settings) p (seats_of players) (rows_whole players session p)))
  -- of any two demos, across a split too, the rows of one are a prefix of the other's
  pub rows : (q r : ℕ) → q < players → r < players
      → IsPrefixOf (rows_whole players session q) (rows_whole players session r)
      ⊎ IsPrefixOf (rows_whole players session r) (rows_whole players session q)
  -- and so are its commands, by their bytes
  pub commands : (q r : ℕ) → q < players → r < players
      → IsPrefixOf (recorded (session.survivors q).lockstep) (recorded (session.survivors r).lockstep)
      ⊎ IsPrefixOf (recorded (session.survivors r).lockstep) (recorded (session.survivors q).lockstep)
