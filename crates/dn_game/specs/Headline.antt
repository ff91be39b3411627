-- The headline of a game that was played, by what the readers of its nodes return. It speaks of no packet, no event
-- and no answer: what these do is said in `Promised`.
use Rattle.std.specs.Prelude.{◌≡◌, ◌≢◌, ◌<◌, ℕ, [], List, ◌||◌, fold, length, nat_lt, slice_get, Some}
use Rattle.dn_setup.specs.Settings.{Settings, start_of}
use Rattle.dn_world.specs.Physics.{Physics}
use Rattle.dn_demo.specs.Layout.{long_tics}
use Rattle.dn_demo.specs.Text.{demo_text}
use Rattle.dn_machine.specs.Headline.{Headline, Shown, ran_by, whole_rows}
use Rattle.dn_machine.specs.Node.{is_ended}
use Rattle.dn_machine.specs.declared.answers.Phase.TheVariants.{Playing}
use Rattle.dn_lockstep.specs.Agreed.{recorded_in}
use Rattle.dn_lockstep.specs.Tables.{ring_at}
use Rattle.dn_lockstep.specs.Rows.{seats_of}
use Rattle.dn_node.specs.Kept.{Kept}
use Rattle.dn_game.specs.Contents.{Contents}

-- A node of a game of these settings shows this: its readers return it, and the rows are those by which its world
-- was stepped and its demo was written.
pub record Shows {W S : Type 0} (state : W → S) (physics : Physics S) (settings : Settings) (players me : ℕ)
    (n : Kept W) (shown : Shown ℕ) : Type 0 where
  pub phase : shown.phase ≡ n.phase
  pub ran : ran_by shown ≡ n.ran
  pub got : (player : ℕ) → player < players → shown.got player ≡ (ring_at n.rings player).count
  -- its rings keep the last twelve commands of each player
  pub places : n.places ≡ 12
  -- the bytes of the demo's commands
  pub demo : shown.demo ≡ recorded_in n.demo.bytes
  -- who plays has started: it has a demo
  pub started : n.phase ≡ Playing → n.demo.bytes ≢ []
  -- once it has one, its world began with the settings' start and was stepped by the rows
  pub world : n.demo.bytes ≢ []
      → state n.world ≡ fold physics.step (physics.begin (start_of settings) (seats_of players)) shown.rows
  -- and its demo is the text of the rows before the first that lacks a player. It is closed once the node ran a
  -- row that lacks one, or has ended
  pub rows : n.demo.bytes ≢ []
      → n.demo.bytes ≡ demo_text long_tics (start_of settings) me (seats_of players) (whole_rows players shown.rows)
      (is_ended n.phase || nat_lt (length (whole_rows players shown.rows)) n.ran)

-- The headline holds of what the nodes of a game of so many players show. Each number below `players` is that of a
-- node, and what is shown of it is what `Shows` says.
pub record HaveAgreed {W S : Type 0} (state : W → S) (physics : Physics S) (settings : Settings) (players : ℕ)
    (g : Contents W) : Type 0 where
  pub places : length g.nodes ≡ players
  pub shown : ℕ → Shown ℕ
  pub nodes : (i : ℕ) (n : Kept W) → slice_get g.nodes i ≡ Some n → Shows state physics settings players i n (shown i)
  pub headline : Headline players shown
