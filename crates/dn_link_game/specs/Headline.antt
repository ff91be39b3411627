-- The headline of a game of links, by what the readers of its links return, the inputs that its players' builds
-- took, the rows that their runs told, and the give-ups that were taken. It speaks of no packet and no datagram.
use Rattle.std.specs.Prelude.{◌≡◌, ◌<◌, ◌≤◌, ◌||◌, ℕ, ◌+◌, Bool, false, List, Option, Some, length, nat_lt, slice_get, None}
use Rattle.dn_tic.specs.declared.command.Move.{Move}
use Rattle.dn_setup.specs.Settings.{Settings}
use Rattle.dn_setup.specs.Settings.{start_of}
use Rattle.dn_world.specs.Physics.{Physics}
use Rattle.dn_demo.specs.Layout.{long_tics}
use Rattle.dn_demo.specs.Text.{demo_text}
use Rattle.dn_machine.specs.Headline.{AgreeWithin, AnyTwo, Shown, ran_by, whole_rows}
use Rattle.dn_machine.specs.Limits.{Limits}
use Rattle.dn_machine.specs.{Node.is_ended, declared.answers.Phase.TheVariants.Playing}
use Rattle.dn_machine.specs.Worlds.{Inputs}
use Rattle.dn_lockstep.specs.Agreed.{recorded}
use Rattle.dn_lockstep.specs.OneGame.{world_told}
use Rattle.dn_lockstep.specs.Rows.{seats_of}
use Rattle.dn_lockstep.specs.Told.{HasStarted, got}
use Rattle.dn_survivor.specs.{Agreed.row_without, Surviving.end_settled}
use Rattle.dn_link.specs.Linked.{has_given_up, surviving_of}
use Rattle.dn_link.specs.Linking.{linked}
use Rattle.dn_link_game.specs.Playing.{world_by}
use Rattle.dn_link_game.specs.declared.game.LinkGame.{LinkGame}
use Rattle.dn_link_game.specs.declared.player.Player.{Player}

-- a game has this player in this place
abbrev pub HasPlayer : {W : Type 0} → LinkGame W → ℕ → Player W → Type 0
HasPlayer g place player = slice_get g.players.items place ≡ Some player

-- a player of a game of these settings shows this: the readers of its link return it, and the rows are those by
-- which its world was stepped and its demo was written
pub record Shows {W S : Type 0} (state : W → S) (physics : Physics S) (limits : Limits) (settings : Settings) (me : ℕ)
    (player : Player W) (shown : Shown ℕ) : Type 0 where
  pub phase : shown.phase ≡ (linked player.link).node.phase
  pub ran : ran_by shown ≡ (linked player.link).node.ran
  pub got : (other : ℕ) → shown.got other ≡ got (linked player.link).node other
  -- its rings keep as many of the last commands of each player as the limits have places
  pub places : (linked player.link).node.places ≡ limits.places
  pub demo : shown.demo ≡ recorded (linked player.link).node
  -- its world began with the settings' start and was stepped by the rows
  pub world : state player.world ≡ world_by physics (world_told limits settings shown.rows)
  -- who plays has started
  pub started : (linked player.link).node.phase ≡ Playing → HasStarted (linked player.link).node
  -- its demo is the text of the rows before the first that lacks a player. It is closed once the link ran a row
  -- that lacks one, or has ended
  pub rows : HasStarted (linked player.link).node
      → (linked player.link).node.demo.bytes ≡ demo_text long_tics (start_of settings) me (seats_of limits.players)
      (whole_rows limits.players shown.rows)
      (is_ended (linked player.link).node.phase
      || nat_lt (length (whole_rows limits.players shown.rows)) (linked player.link).node.ran)

-- two players of so many, of whom neither gave up the other
pub record Together (players : ℕ) (gone : ℕ → ℕ → Bool) (q r : ℕ) : Type 0 where
  pub one : q < players
  pub other : r < players
  pub here : gone q r ≡ false
  pub there : gone r q ≡ false

-- nobody gave up anybody
abbrev pub NobodyGone : ℕ → (ℕ → ℕ → Bool) → Type 0
NobodyGone players gone = (q r : ℕ) → q < players → r < players → gone q r ≡ false

-- The players agree, in a window of these limits, where their builds took these inputs, their runs told these rows,
-- and each gave up these others.
pub record HaveAgreed {W S : Type 0} (state : W → S) (physics : Physics S) (limits : Limits) (settings : Settings)
    (inputs : Inputs) (told : ℕ → List (List (Option Move))) (gone : ℕ → ℕ → Bool) (g : LinkGame W) : Type 0 where
  pub places : length g.players.items ≡ limits.players
  pub shown : ℕ → Shown ℕ
  pub shows : (i : ℕ) (player : Player W) → HasPlayer g i player → Shows state physics limits settings i player (shown i)
  pub told_is : (i : ℕ) → (shown i).rows ≡ told i
  -- a link has given up whom its player gave up, and no other
  pub gone_is : (i other : ℕ) (player : Player W) → HasPlayer g i player
      → has_given_up (linked player.link) other ≡ gone i other
  -- the headline; its parts `same` and `lacked` are of any two of whom neither gave up the other
  pub headline : AgreeWithin limits.ahead (limits.ahead + limits.ahead) limits.places limits.players
      (Together limits.players gone) shown
  -- and all of it of any two players, where nobody gave up anybody
  pub quiet : NobodyGone limits.players gone
      → AgreeWithin limits.ahead (limits.ahead + limits.ahead) limits.places limits.players (AnyTwo limits.players) shown
  -- the row of a tic has the moves that the players' inputs make, of each player whose end its runner's link does not
  -- know to be over by then, and none of any other
  pub rows : (q tic : ℕ) (player : Player W) → HasPlayer g q player → tic < length (told q)
      → slice_get (told q) tic ≡ Some (row_without limits.players inputs (surviving_of (linked player.link)) tic)
  -- a player made a command of each of its inputs, nobody has more of them, and whoever does not know the player's end
  -- has one for each tic that it ran
  pub counted : (p : ℕ) → p < limits.players → (shown p).got p ≡ length (inputs p)
  pub held : (q p : ℕ) → q < limits.players → p < limits.players → (shown q).got p ≤ (shown p).got p
  pub run : (q p : ℕ) (player : Player W) → HasPlayer g q player → p < limits.players
      → end_settled (surviving_of (linked player.link)) p ≡ None → ran_by (shown q) ≤ (shown q).got p
  -- an end is at most what the player made; and of any two of whom neither gave up the other it is at least what the
  -- other has, and the same, once each has the commands before the one that it knows
  pub at_most : (q p a : ℕ) (player : Player W) → HasPlayer g q player → p < limits.players
      → end_settled (surviving_of (linked player.link)) p ≡ Some a → a ≤ (shown p).got p
  pub at_least : (q r p a : ℕ) (one : Player W) → HasPlayer g q one → Together limits.players gone q r → p < limits.players
      → end_settled (surviving_of (linked one.link)) p ≡ Some a → (shown r).got p ≤ a
  pub ends : (q r p a b : ℕ) (one other : Player W) → HasPlayer g q one → HasPlayer g r other
      → Together limits.players gone q r → p < limits.players
      → end_settled (surviving_of (linked one.link)) p ≡ Some a → end_settled (surviving_of (linked other.link)) p ≡ Some b
      → a ≡ b
  -- and the worlds of two such players are the same as long as both ran as many tics
  pub worlds : (q r : ℕ) (one other : Player W) → HasPlayer g q one → HasPlayer g r other
      → Together limits.players gone q r → ran_by (shown q) ≡ ran_by (shown r) → state one.world ≡ state other.world
