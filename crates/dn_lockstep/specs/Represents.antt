-- When a lockstep represents a node of the machine.
use Rattle.std.specs.Prelude.{◌≡◌, ℕ, ◌+◌, ◌%◌, ◌<◌, ◌≤◌, min, ℤ, Bool, true, ◌||◌, nat_lt, List, [], length, Option, Some, None, if◌then◌else◌}
use Rattle.dn_tic.specs.declared.input.Input.{Input}
use Rattle.dn_tic.specs.Inputs.{hold_of}
use Rattle.dn_tic.specs.declared.command.Move.{Move}
use Rattle.dn_tic.specs.declared.command.TicCmd.{TicCmd}
use Rattle.dn_ring.specs.Ring.{Ring}
use Rattle.dn_setup.specs.Settings.{Settings, start_of}
use Rattle.dn_setup.specs.Gathered.{is_noted, is_peer}
use Rattle.dn_demo.specs.Layout.{long_tics}
use Rattle.dn_demo.specs.Text.{demo_text, AreWritable}
use Rattle.dn_demo.specs.Recorded.{Recorded, is_closed}
use Rattle.dn_machine.specs.declared.answers.Phase.{Phase}
use Rattle.dn_machine.specs.Limits.{Limits}
use Rattle.dn_machine.specs.Node as machine
use Rattle.dn_machine.specs.Node.{own_mark, ends_of, is_ended, demo_rows}
use Rattle.dn_machine.specs.declared.peer.Peer.{Peer}
use Rattle.dn_lockstep.specs.Contents.{Contents}
use Rattle.dn_lockstep.specs.Tables.{ring_of}
use Rattle.dn_lockstep.specs.Rows.{seats_of}

-- the demo is closed once a row that lacks a player was run, or the node has ended
abbrev pub is_demo_closed : Limits → machine.Node → Bool
is_demo_closed limits m = is_ended m.phase || nat_lt (length (demo_rows limits.players m)) (machine.ran m)

-- the demo of a node that has played with these settings: the rows before the first that lacks a player
abbrev pub demo_with : Limits → ℕ → machine.Node → Option Settings → List ℕ
demo_with limits me m None = []
demo_with limits me m (Some settings) =
    demo_text long_tics (start_of settings) me (seats_of limits.players) (demo_rows limits.players m)
    (is_demo_closed limits m)

-- nothing before the start
abbrev pub demo_of : Limits → ℕ → machine.Node → List ℕ
demo_of limits me m = if m.played then demo_with limits me m m.settings else []

-- rows that a demo of the game can have
unfoldable pub CanBeWritten : ℕ → List (List (Option Move)) → Type 0
CanBeWritten players rows = AreWritable (seats_of players) rows

-- whose it is, and of what game
pub record BelongsTo (limits : Limits) (me count own : ℕ) (repeats : Bool)
    (tics gathered lead room : ℕ) : Type 0 where
  pub players : count ≡ limits.players
  pub number : own ≡ me
  pub extra : repeats ≡ limits.extra
  pub capacity : tics ≡ limits.capacity
  pub gathers : gathered ≡ limits.players
  pub ahead : lead ≡ limits.ahead
  pub places : room ≡ limits.places
  pub most : 12 ≡ limits.most

-- where it stands, and where the machine's does
pub record StandsAs (here there : Phase) (has_played played_there : Bool)
    (chosen chosen_there : Option Settings) : Type 0 where
  pub phase : here ≡ there
  pub played : has_played ≡ played_there
  pub settings : chosen ≡ chosen_there

-- what it has of the players' commands
pub record HasCommands (players turned : ℕ) (kept : ℕ → Ring) (inputs : List Input)
    (held : ℕ → List TicCmd) : Type 0 where
  -- the turn hold is that of the inputs of its builds
  pub hold : turned ≡ hold_of inputs
  -- each ring counts the commands held of its player and keeps the last of them, as many as a window can need
  pub rings : (p : ℕ) → p < players → kept p ≡ ring_of (held p)

-- what it keeps of its peers
pub record KnowsPeers (players : ℕ) (peers there : ℕ → Peer) (heard noted_there : ℕ → Bool) : Type 0 where
  pub known : (p : ℕ) → p < players → peers p ≡ there p
  pub noted : (p : ℕ) → is_peer players p ≡ true → heard p ≡ noted_there p

-- up to which tic a player's marks are kept: of the tics that were run, but of none from a known end on
abbrev pub marked_to : ℕ → Option ℕ → ℕ
marked_to tics None = tics
marked_to tics (Some end) = min tics end

-- which marks it keeps
pub record HasTable (players count : ℕ) (table : ℕ → ℕ → ℤ) (tics : ℕ) (own : ℕ → ℕ → ℤ)
    (ends : ℕ → Option ℕ) : Type 0 where
  -- it ran as many tics
  pub ran : count ≡ tics
  -- a player's slot has the mark of the last tic up to there whose remainder by twelve is the slot's, and 0
  -- where there is none: that is, for each of the twelve tics from there on, the mark that it was told twelve
  -- tics before, and 0 below tic 12. So the slots of a player who is gone stay as they are
  pub marks : (p tic : ℕ) → p < players → marked_to tics (ends p) ≤ tic → tic < marked_to tics (ends p) + 12
      → table p (tic % 12) ≡ own p tic

-- what it has recorded
pub record HasRecorded (players : ℕ) (recorded : Recorded) (played : Bool) (text : List ℕ) (is_done : Bool)
    (rows : List (List (Option Move))) : Type 0 where
  -- its demo is this text; once it has played, the marker is written just where `is_done` says
  pub bytes : recorded.bytes ≡ text
  pub closed : played ≡ true → is_closed recorded.stage ≡ is_done
  -- and no move of those rows would read as the marker
  pub writable : CanBeWritten players rows

-- the parts; each speaks only of the fields that it names, so a step that does not change those keeps it
pub record Represents (limits : Limits) (me : ℕ) (n : Contents) (m : machine.Node) : Type 0 where
  pub whose : BelongsTo limits me n.players n.me n.extra n.capacity n.gather.players
      n.ahead n.places
  pub stands : StandsAs n.phase m.phase n.played m.played n.settings m.settings
  pub commands : HasCommands limits.players n.hold n.rings m.inputs m.held
  pub peers : KnowsPeers limits.players n.peers m.peers (is_noted n.gather) m.noted
  pub table : HasTable limits.players n.ran n.marks (machine.ran m) (own_mark m) (ends_of m)
  pub demo : HasRecorded limits.players n.demo m.played (demo_of limits me m) (is_demo_closed limits m)
      (demo_rows limits.players m)
