-- A node of a game that has what every event keeps, and what it leaves when this node alone changes.
use Rattle.std.proofs.Common.{◌≡◌, ℕ, ◌+◌, ◌<◌, ◌≤◌, ◌≢◌, Bool, true, false, List, length, refl, Option, Some, ℤ, arith, slice_get}
use Rattle.dn_tic.specs.declared.command.{TicCmd.TicCmd, Move.Move}
use Rattle.dn_setup.specs.Settings.{Settings}
use Rattle.dn_machine.specs.Making.{Making}
use Rattle.dn_machine.specs.{declared.answers.Cause.Cause, declared.answers.Phase.Phase, declared.answers.Phase.TheVariants.{Gathering, Playing, Ended}, declared.peer.Peer.Peer, Worlds.{Inputs, RulesBy, mark_in, worlds_to}, Flight.Flight}
use Rattle.dn_machine.specs.{Node.{Node, put, with_peer, ends_of, made, own_mark, has_left}, Game.{Game, with_node}, Running.is_over}
use Rattle.dn_machine.proofs.{Invariant.{History, ComesFromInputs, IsSound, HasTrueMarks, IsKept, history_of}, Put.view_kept, Truth.own_mark_true, Demos.whole_held}
use Rattle.dn_machine.proofs.Invariant

-- equal lists tell the same
along : {making : Making} {S : Type 0} (rules : RulesBy making S) (settings : Settings) (a b : History) (flights : List Flight)
    → b.inputs ≡ a.inputs → b.held ≡ a.held → b.rows ≡ a.rows → b.ends ≡ a.ends → b.left ≡ a.left
    → ComesFromInputs rules settings a flights → ComesFromInputs rules settings b flights
along rules settings a b flights k h r e l from_inputs = grind arith

module _ {making : Making} {S : Type 0} (rules : RulesBy making S) (settings : Settings) (game : Game)
    (kept : IsKept rules settings game) (i : ℕ) (mine : i < rules.players) where
  abbrev pub inputs_now : Inputs
  inputs_now q = (game.nodes q).inputs

  -- another node that is sound leaves all sound
  sound_placed : (new : Node) → IsSound rules settings i new → (q : ℕ) → q < rules.players
      → IsSound rules settings q (put game.nodes i new q)
  sound_placed new sound q l = grind arith

  -- and whoever had left has left
  pub left_placed : (new : Node) → (has_left (game.nodes i) ≡ true → has_left new ≡ true) → (q : ℕ)
      → has_left (game.nodes q) ≡ true → has_left (put game.nodes i new q) ≡ true
  left_placed new more q gone = grind arith

  -- marks that are true at the new node and the others are true at all
  pub marks_placed : (new : Node) (inputs : Inputs) → HasTrueMarks rules settings inputs new
      → ((q : ℕ) → q < rules.players → q ≢ i → HasTrueMarks rules settings inputs (game.nodes q))
      → (q : ℕ) → q < rules.players → HasTrueMarks rules settings inputs (put game.nodes i new q)
  marks_placed new inputs own others q l = grind arith

  -- where no tic is run they are those of before
  pub marks_kept : (new : Node) → new.rows ≡ (game.nodes i).rows → new.marks ≡ (game.nodes i).marks
      → (q : ℕ) → q < rules.players → HasTrueMarks rules settings inputs_now (put game.nodes i new q)
  marks_kept new rows marks = grind arith

  -- a node and the flights after a change that keeps what is so
  pub placed : (new : Node) (stopped : ℕ → Bool) (flights : List Flight) (history : History)
      → ◌≡◌ {A = Inputs} (λ q. (put game.nodes i new q).inputs) history.inputs
      → ◌≡◌ {A = ℕ → ℕ → List TicCmd} (λ q. (put game.nodes i new q).held) history.held
      → ◌≡◌ {A = ℕ → List (List (Option Move))} (λ q. (put game.nodes i new q).rows) history.rows
      → ◌≡◌ {A = ℕ → ℕ → Option ℕ} (λ q. ends_of (put game.nodes i new q)) history.ends
      → ((q : ℕ) → history.left q ≡ true → has_left (put game.nodes i new q) ≡ true)
      → ComesFromInputs rules settings history flights → IsSound rules settings i new
      → ((q : ℕ) → q < rules.players → HasTrueMarks rules settings history.inputs (put game.nodes i new q))
      → IsKept rules settings (record { nodes = put game.nodes i new; stopped = stopped; flights = flights })
  placed new stopped flights history k h r e more from_inputs sound marks = record {
    from_inputs = along rules settings (record history { left = λ q. has_left (put game.nodes i new q) }) _
        flights k h r e refl (grind (arith, Invariant.leaves));
    window = kept.window;
    sound = sound_placed new sound;
    marks = grind arith;
  }

  -- a node whose lists are as they were, and other flights
  pub quiet_with : (new : Node) (stopped : ℕ → Bool) (flights : List Flight) → new.inputs ≡ (game.nodes i).inputs
      → new.held ≡ (game.nodes i).held → new.rows ≡ (game.nodes i).rows → ends_of new ≡ ends_of (game.nodes i)
      → new.marks ≡ (game.nodes i).marks → (has_left (game.nodes i) ≡ true → has_left new ≡ true)
      → ComesFromInputs rules settings (history_of game) flights → IsSound rules settings i new
      → IsKept rules settings (record { nodes = put game.nodes i new; stopped = stopped; flights = flights })
  quiet_with new stopped flights a b c d t more from_inputs sound =
      placed new stopped flights (history_of game) (view_kept (λ (n : Node). n.inputs) game.nodes i new a)
      (view_kept (λ (n : Node). n.held) game.nodes i new b)
      (view_kept (λ (n : Node). n.rows) game.nodes i new c) (view_kept ends_of game.nodes i new d)
      (left_placed new more) from_inputs sound (marks_kept new c t)

  pub quiet : (new : Node) → new.inputs ≡ (game.nodes i).inputs → new.held ≡ (game.nodes i).held
      → new.rows ≡ (game.nodes i).rows → ends_of new ≡ ends_of (game.nodes i)
      → new.marks ≡ (game.nodes i).marks → (has_left (game.nodes i) ≡ true → has_left new ≡ true)
      → IsSound rules settings i new → IsKept rules settings (with_node game i new)
  quiet new a b c d t more sound = quiet_with new game.stopped game.flights a b c d t more kept.from_inputs sound

  pub same_node : IsKept rules settings (with_node game i (game.nodes i))
  same_node = quiet (game.nodes i) refl refl refl refl refl (λ h. h) (kept.sound i mine)

  -- a node that differs in its phase and in whom it has heard
  pub restated : (phase : Phase) (played : Bool) (chosen : Option Settings) (noted : ℕ → Bool)
      → (played ≡ true → chosen ≡ Some settings) → (phase ≡ Playing → played ≡ true)
      → (phase ≡ Gathering → chosen ≡ Some settings)
      → ((player : ℕ) (was should : ℤ) → phase ≢ Ended (Cause.Inconsistent player was should))
      → IsSound rules settings i
      (record (game.nodes i) { phase = phase; played = played; settings = chosen; noted = noted })
  restated phase played chosen noted a b c d = grind arith

  -- a playing node has not left
  pub playing_stays : (game.nodes i).phase ≡ Playing → has_left (game.nodes i) ≡ false
  playing_stays e = grind arith

  -- its own mark is the true one, of any tic up to twelve past those that it ran and that the player made
  pub own_mark_kept : (p t : ℕ) → p < rules.players → t < length (game.nodes i).rows + 12
      → t < length (inputs_now p) + 12 → own_mark (game.nodes i) p t ≡ mark_in
      rules.physics (slice_get (worlds_to rules settings inputs_now t) 12) p
  own_mark_kept p t = own_mark_true rules settings inputs_now (game.nodes i) p t (kept.marks i mine)

  -- another thing kept of a peer, with whatever commands of others: whoever was absent is
  module _ (from : ℕ) (peer : Peer) (held : ℕ → List TicCmd) (low : peer.resend ≤ made i (game.nodes i))
      (still : (tic : ℕ) → is_over (ends_of (game.nodes i) from) tic ≡ true → is_over peer.end tic ≡ true) where
    abbrev pub kept_peer : Node
    kept_peer = record (with_peer (game.nodes i) from peer) { held = held }

    pub peer_sound : held i ≡ (game.nodes i).held i → IsSound rules settings i kept_peer
    peer_sound own = grind (arith, whole_held)
