-- What every event keeps.
use Rattle.std.proofs.Common.{false, ◌∷◌, ◌++◌, sym, subst, arith, inl, inr, ℕ, ◌+◌, ◌<◌, ◌≤◌, Bool, true, List, [], ◌≡◌, ◌≢◌, ◌⊎◌, ℤ, get_or, length, Option, Some, slice_get}
use Rattle.dn_tic.specs.declared.command.{TicCmd.TicCmd, Move.Move}
use Rattle.dn_setup.specs.Settings.{Settings}
use Rattle.dn_machine.specs.Making.{Making}
use Rattle.dn_machine.specs.{declared.answers.Phase.TheVariants.{Playing, Gathering, Ended}, Limits.IsWindow, Worlds.{Inputs, RulesBy, command, row, world}, Flight.{SetUp, Exit, Flight, end_of}}
use Rattle.dn_machine.specs.{Node.{Node, ends_of, blank, has_left, is_whole, demo_rows, put}, Running.{tic_limit, row_held}, Game.Game}
use Rattle.dn_machine.proofs.Put.{put_two_off, slice_get_push, longer, pushed}
use Rattle.dn_machine.specs.declared.answers.Cause.TheVariants as Cause

-- A packet that was sent is a piece of what its sender has.
pub record IsPiece {making : Making} {S : Type 0} (rules : RulesBy making S) (settings : Settings) (inputs : Inputs) (left : ℕ → Bool)
    (flight : Flight) : Type 0 where
  pub sender : flight.from < rules.players
  pub receiver : flight.to < rules.players
  pub apart : flight.from ≢ flight.to
  -- it carries commands that its sender has made, each at its own tic
  pub reached : end_of flight ≤ length (inputs flight.from)
  pub commands : (j : ℕ) → j < length flight.commands
      → get_or flight.commands j blank ≡ command rules settings inputs flight.from (flight.start + j)
  -- a set-up packet carries the key player's settings
  pub set_up : (s : Settings) → flight.kind ≡ SetUp s → s ≡ settings
  -- a request is for a tic that the receiver has reached
  pub request : (tic : ℕ) → flight.request ≡ Some tic → tic ≤ length (inputs flight.to)
  -- an EXIT packet ends with the last command of one who has left
  pub exit : flight.kind ≡ Exit → (left flight.from ≡ true) × (end_of flight ≡ length (inputs flight.from))

-- What all nodes together have done: the inputs, the commands held, the rows run, the ends known, and who
-- has left.
pub record History : Type 0 where
  pub inputs : Inputs
  pub held : ℕ → ℕ → List TicCmd
  pub rows : ℕ → List (List (Option Move))
  pub ends : ℕ → ℕ → Option ℕ
  pub left : ℕ → Bool

-- a node knows a player's end, and has all commands before it
abbrev pub HoldsAll : History → ℕ → ℕ → Type 0
HoldsAll history q p = (end : ℕ) × (history.ends q p ≡ Some end) × (end ≤ length (history.held q p))

-- All that was held, run and sent is what the players' inputs make, and no node is ahead of what it has been
-- sent.
pub record ComesFromInputs {making : Making} {S : Type 0} (rules : RulesBy making S) (settings : Settings) (history : History)
    (flights : List Flight) : Type 0 where
  -- a node has as many own commands as inputs
  pub counted : (p : ℕ) → p < rules.players → length (history.held p p) ≡ length (history.inputs p)
  -- tics run, commands held, commands made: each at most the next, and the last not further ahead of its own
  -- first; but the tics run go on past the commands of a player all of whose commands are held
  pub run : (q p : ℕ) → q < rules.players → p < rules.players
      → (length (history.rows q) ≤ length (history.held q p)) ⊎ HoldsAll history q p
  pub got : (q p : ℕ) → q < rules.players → p < rules.players
      → length (history.held q p) ≤ length (history.inputs p)
  pub ahead : (p : ℕ) → p < rules.players → length (history.inputs p) ≤ length (history.rows p) + rules.ahead
  -- a node has at most twice as many commands of a player that it has not run yet
  pub unread : (q p : ℕ) → q < rules.players → p < rules.players
      → length (history.held q p) ≤ length (history.rows q) + (rules.ahead + rules.ahead)
  -- what was held and run is true
  pub commands : (q p tic : ℕ) → q < rules.players → p < rules.players → tic < length (history.held q p)
      → get_or (history.held q p) tic blank ≡ command rules settings history.inputs p tic
  pub moves : (q tic : ℕ) → q < rules.players → tic < length (history.rows q)
      → get_or (history.rows q) tic [] ≡ row rules settings history.inputs tic
  -- a known end is that of one who has left, and comes right after the last command
  pub ended : (q p end : ℕ) → q < rules.players → p < rules.players → history.ends q p ≡ Some end
      → (history.left p ≡ true) × (end ≡ length (history.inputs p))
  pub pieces : (which : ℕ) (flight : Flight) → slice_get flights which ≡ Some flight
      → IsPiece rules settings history.inputs history.left flight

-- One node by itself.
pub record IsSound {making : Making} {S : Type 0} (rules : RulesBy making S) (settings : Settings) (me : ℕ) (node : Node) : Type 0 where
  -- who plays or has played, and who gathers, has the key player's settings
  pub played : node.played ≡ true → node.settings ≡ Some settings
  pub playing : node.phase ≡ Playing → node.played ≡ true
  pub gathering : node.phase ≡ Gathering → node.settings ≡ Some settings
  -- no mark was off
  pub consistent : (player : ℕ) (was should : ℤ) → node.phase ≢ Ended (Cause.Inconsistent player was should)
  -- no resend starts past what was built
  pub resend : (to : ℕ) → (node.peers to).resend ≤ length (node.held me)
  -- the demo's rows fit into it, and they are all rows while the next lacks nobody
  pub room : length (demo_rows rules.players node) ≤ rules.capacity
  pub whole : is_whole rules.players (row_held rules.limits node) ≡ true → demo_rows rules.players node ≡ node.rows
  pub most : rules.capacity ≤ tic_limit → length node.rows ≤ tic_limit

abbrev pub history_of : Game → History
history_of game = record {
  inputs = λ q. (game.nodes q).inputs;
  held = λ q. (game.nodes q).held;
  rows = λ q. (game.nodes q).rows;
  ends = λ q. ends_of (game.nodes q);
  left = λ q. has_left (game.nodes q);
}

-- the marks that a node kept are those of the worlds of the players' inputs, for each player who has made a
-- command for the tic
abbrev pub HasTrueMarks : {making : Making} {S : Type 0} → RulesBy making S → Settings → Inputs → Node → Type 0
HasTrueMarks rules settings inputs node =
    (p tic : ℕ) → p < rules.players → tic < length node.rows → tic < length (inputs p)
    → node.marks tic p ≡ rules.physics.mark (world rules settings inputs tic) p

-- The whole game.
pub record IsKept {making : Making} {S : Type 0} (rules : RulesBy making S) (settings : Settings) (game : Game) : Type 0 where
  pub window : IsWindow rules.limits
  pub from_inputs : ComesFromInputs rules settings (history_of game) game.flights
  pub sound : (q : ℕ) → q < rules.players → IsSound rules settings q (game.nodes q)
  pub marks : (q : ℕ) → q < rules.players
      → HasTrueMarks rules settings (λ p. (game.nodes p).inputs) (game.nodes q)

-- The commands held, the rows run, the known ends and the packets sent stay pieces of what the players' inputs make:
-- when a node learns an end, leaves, runs a tic or sends.

module _ {making : Making} {S : Type 0} (rules : RulesBy making S) (settings : Settings) (history : History) (flights : List Flight)
    (from_inputs : ComesFromInputs rules settings history flights) where
  -- a player who has not left holds back all others
  pub ran_below : (q p : ℕ) → q < rules.players → p < rules.players → history.left p ≡ false
      → length (history.rows q) ≤ length (history.inputs p)
  ran_below q p l m stays =
      let bound = from_inputs.got q p l m in grind arith

  -- made counts are at most the window above that of a player who has not left
  pub close : (p q : ℕ) → p < rules.players → q < rules.players → history.left q ≡ false
      → length (history.inputs p) ≤ length (history.inputs q) + rules.ahead
  close p q l m stays = grind (arith, ran_below)

  -- with other leavers and packets, of which the same is so
  with_others : (left : ℕ → Bool) (others : List Flight)
      → ((q p end : ℕ) → q < rules.players → p < rules.players → history.ends q p ≡ Some end
      → (left p ≡ true) × (end ≡ length (history.inputs p)))
      → ((which : ℕ) (flight : Flight) → slice_get others which ≡ Some flight
      → IsPiece rules settings history.inputs left flight)
      → ComesFromInputs rules settings (record history { left = left }) others
  with_others left others ended pieces = grind arith

  -- a packet that is sent
  pub sends : (flight : Flight) → IsPiece rules settings history.inputs history.left flight
      → ComesFromInputs rules settings history (flights ++ flight ∷ [])
  sends flight piece = with_others history.left (flights ++ flight ∷ []) from_inputs.ended
      (λ which other h. elim (slice_get_push flights flight which other h) [
        | inl before ↦ from_inputs.pieces which other before
        | inr last ↦ subst (λ (f : Flight). IsPiece rules settings history.inputs history.left f) (sym last) piece
      ])

  -- more players who have left
  piece_left : (left : ℕ → Bool) → ((q : ℕ) → history.left q ≡ true → left q ≡ true) → (flight : Flight)
      → IsPiece rules settings history.inputs history.left flight → IsPiece rules settings history.inputs left flight
  piece_left left more flight piece = grind arith

  pub leaves : (left : ℕ → Bool) → ((q : ℕ) → history.left q ≡ true → left q ≡ true)
      → ComesFromInputs rules settings (record history { left = left }) flights
  leaves left more = with_others left flights
      (λ q p end l m h. let old = from_inputs.ended q p end l m h in (more p old.0, old.1))
      (λ which flight h. piece_left left more flight (from_inputs.pieces which flight h))

  -- an end that an EXIT packet tells
  module _ (me : ℕ) (mine : me < rules.players) (flight : Flight)
      (piece : IsPiece rules settings history.inputs history.left flight) (leaving : flight.kind ≡ Exit) where
    pub learns : ComesFromInputs rules settings
        (record history
        { ends = put history.ends me (put (history.ends me) flight.from (Some (end_of flight))) }) flights
    learns = grind (arith, put_two_off)

  -- a tic that is run
  module _ (me : ℕ) (mine : me < rules.players) (there : (p : ℕ) → p < rules.players
      → (length (history.rows me) < length (history.held me p))
      ⊎ ((end : ℕ) × (history.ends me p ≡ Some end) × (end ≤ length (history.rows me))))
      (new : List (Option Move)) (true_row : new ≡ row rules settings history.inputs (length (history.rows me))) where
    pub runs : ComesFromInputs rules settings
        (record history { rows = put history.rows me (history.rows me ++ new ∷ []) }) flights
    runs = grind (arith, longer, pushed)
