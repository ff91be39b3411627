-- What holds between the nodes of a game: their locksteps agree, and their worlds are those of the inputs.
use Rattle.std.specs.Prelude.{◌≡◌, ℕ, [], false, slice_get, Option, Some, None, ◌<◌, ◌≤◌, length}
use Rattle.dn_tic.specs.declared.command.TicCmd.{TicCmd}
use Rattle.dn_setup.specs.Settings.{Settings}
use Rattle.dn_demo.specs.declared.recorder.Stage.TheVariants.{Blank}
use Rattle.dn_demo.specs.Reading.{state_after}
use Rattle.dn_machine.specs.declared.answers.Phase.TheVariants.{Listening}
use Rattle.dn_machine.specs.Node.{no_peer}
use Rattle.dn_machine.specs.Running.{tic_limit}
use Rattle.dn_machine.specs.Worlds.{Inputs, Rules, command, world}
use Rattle.dn_lockstep.specs.Contents as lockstep
use Rattle.dn_lockstep.specs.Tables.{slot, ring_at}
use Rattle.dn_lockstep.specs.Agreed as agreement
use Rattle.dn_lockstep.specs.Agreed.{rows_made, demo_made}
use Rattle.dn_lockstep.specs.Told.{HasStarted, command_told}
use Rattle.dn_node.specs.Kept.{Kept}
use Rattle.dn_node.specs.Contents as node
use Rattle.dn_node.specs.Contents.{locked}
use Rattle.dn_game.specs.Contents.{Contents}

-- The nodes of a game, and the locksteps in them.

-- a game has this node in this place
abbrev pub HasNode : {W : Type 0} → Contents W → ℕ → node.Contents W → Type 0
HasNode {W} g place n = (one : Kept W) × (slice_get g.nodes place ≡ Some one) × (n ≡ node.contents one)

-- a lockstep of no game: what stands where a game has no node
abbrev pub no_lockstep : lockstep.Contents
no_lockstep =
    record {
      players = 0;
      me = 0;
      extra = false;
      capacity = 0;
      ahead = 0;
      places = 0;
      phase = Listening;
      played = false;
      settings = None;
      gather = record { players = 0; noted = [] };
      hold = 0;
      ran = 0;
      rings = ring_at [];
      peers = λ player. no_peer;
      marks = slot [];
      demo = record { limit = 0; stage = Blank; bytes = [] };
    }

abbrev pub lockstep_in : {W : Type 0} → Option (Kept W) → lockstep.Contents
lockstep_in None = no_lockstep
lockstep_in (Some one) = locked (node.contents one)

-- the lockstep of the node in each place
abbrev pub lockstep_at : {W : Type 0} → Contents W → ℕ → lockstep.Contents
lockstep_at g place = lockstep_in (slice_get g.nodes place)

-- the nodes agree, on a game of these settings in which the players' builds took these inputs
pub record AreAgreed {W S : Type 0} (state : W → S) (rules : Rules S) (settings : Settings)
    (inputs : Inputs) (g : Contents W) : Type 0 where
  -- each player has a node, there are four at most, and where there is any, a demo has room for no more tics
  -- than may be run
  pub places : length g.nodes ≡ rules.players
  pub few : rules.players ≤ 4
  pub short : 0 < rules.players → rules.capacity ≤ tic_limit
  -- what the nodes' locksteps tell of themselves agrees
  pub locksteps : agreement.AreAgreed rules.limits settings inputs (lockstep_at g)
  -- a command that a node tells is the one that its player's inputs make, with its mark
  pub commands : (i player tic : ℕ) (one : TicCmd) → i < rules.players
      → command_told (lockstep_at g i) player tic ≡ Some one → one ≡ command rules settings inputs player tic
  -- every started node's world is the one that the inputs lead to
  pub worlds : (i : ℕ) (n : node.Contents W) → HasNode g i n → HasStarted (locked n)
      → state n.world ≡ world rules settings inputs n.ran
  -- and its demo leads there too, where it has every tic that the node ran
  pub replayed : (i : ℕ) (n : node.Contents W) → HasNode g i n → HasStarted (locked n)
      → n.ran ≡ length (rows_made rules.players inputs n.ran)
      → state n.world ≡ state_after rules.physics (demo_made rules.players settings inputs i n.ran)
