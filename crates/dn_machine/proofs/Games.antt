-- The game as it opens has what every event keeps, each event keeps it, and so does every list of events.
use Rattle.std.proofs.Common.{◌≡◌, ℕ, ◌-◌, ◌<◌, ◌≤◌, ◌≢◌, false, List, ◌++◌, length, get_or, drop, refl, sym, ◌∙◌, ap, arith, Bool, true, cond, Option, Some, not, ◌&&◌, [], ◌∷◌, None, ltb, ◌⊎◌, slice_get}
use Rattle.std.proofs.lemmas.List.{length-append, length-drop, get_or_append_left, get_or-append_right, get_or-drop}
use Rattle.std.proofs.lemmas.Bool.{ltb-true, and_parts}
use Rattle.dn_tic.specs.declared.{command.TicCmd.TicCmd, input.Input.TheVariants.Pressed}
use Rattle.dn_setup.specs.Settings.{Settings}
use Rattle.dn_machine.specs.Making.{Making}
use Rattle.dn_machine.specs.{Worlds.{Inputs, RulesBy, command}, Flight.{Flight, end_of, Kind, Exit, is_exit}, Node.{put, blank, Node, with_peer, ends_of, got, made, is_ended, has_left}, declared.answers.Phase.Phase}
use Rattle.dn_machine.specs.{declared.answers.Phase.TheVariants.{Listening, Gathering, Playing}, declared.answers.Heard.Heard, declared.peer.Peer.Peer, Game.{Game, with_node, opening_game, refused_at, refused, delivered, on_event, applied_if, applied}, Runs.{Next, Leads, Runs}, Hearing.on_packet, Running.is_over}
use Rattle.dn_machine.specs.{declared.events.Event.Event, declared.events.Event.TheVariants.{Build, Send, Deliver, Run, Quit, Stop, Give}, declared.events.Refusal.Refusal, Limits.IsWindow}
use Rattle.dn_machine.proofs.{Invariant.{History, IsPiece, ComesFromInputs, IsKept, history_of}, Put.{put_off, view_put, view_kept}, Peers.asked_end, Calls.{packet_cases, sender_after}}
use Rattle.dn_machine.proofs.{OwnKeeps.{builds, runs, quits, sends}, EachEvent.leads_keep}
use Rattle.dn_machine.proofs.Invariant
use Rattle.dn_machine.proofs.Placing

-- A packet that comes to a node keeps it.

module _ {making : Making} {S : Type 0} (rules : RulesBy making S) (settings : Settings) (history : History) (flights : List Flight)
    (from_inputs : ComesFromInputs rules settings history flights) where
  -- commands of a peer that are taken from a packet, by a player who has not left
  module _ (me : ℕ) (mine : me < rules.players) (stays : history.left me ≡ false) (flight : Flight)
      (piece : IsPiece rules settings history.inputs history.left flight) (other : me ≢ flight.from)
      (low : flight.start ≤ length (history.held me flight.from))
      (high : length (history.held me flight.from) ≤ end_of flight) where
    length_new : length (history.held me flight.from
        ++ drop (length (history.held me flight.from) - flight.start) flight.commands) ≡ end_of flight
    length_new = grind (arith, length-append, length-drop)

    true_new : (t : ℕ) → t < end_of flight
        → get_or (history.held me flight.from ++ drop (length (history.held me flight.from) - flight.start)
        flight.commands) t blank ≡ command rules settings history.inputs flight.from t
    true_new t l = grind (arith, get_or_append_left, get_or-append_right, get_or-drop)

    abbrev held_after : ℕ → ℕ → List TicCmd
    held_after = put history.held me
        (put (history.held me) flight.from
        (history.held me flight.from ++ drop (length (history.held me flight.from) - flight.start)
        flight.commands))

    -- how many commands of whom each node has then
    counts : (q p : ℕ)
        → ((length (held_after q p) ≡ end_of flight)
        × (length (history.held q p) ≡ length (history.held me flight.from))
        × (length (history.inputs p) ≡ length (history.inputs flight.from))
        × (length (history.rows q) ≡ length (history.rows me)))
        ⊎ (length (held_after q p) ≡ length (history.held q p))
    counts q p = grind (arith, length_new)

    pub lists_taken : ComesFromInputs rules settings (record history { held = held_after }) flights
    lists_taken = grind (arith, counts, Invariant.close, true_new)

-- a packet that tells an end is an EXIT packet
pub exit_is : (kind : Kind) → is_exit kind ≡ true → kind ≡ Exit
exit_is kind e = grind arith

module _ {making : Making} {S : Type 0} (rules : RulesBy making S) (settings : Settings) (game : Game)
    (kept : IsKept rules settings game) (i : ℕ) (mine : i < rules.players) where
  abbrev inputs_now : Inputs
  inputs_now q = (game.nodes q).inputs

  -- whoever had left still has, where the phase is not one of an end
  in_play_left : {A : Type 0} (phase : Phase) → (game.nodes i).phase ≡ phase → is_ended phase ≡ false
      → has_left (game.nodes i) ≡ true → A
  in_play_left phase e f h = grind arith

  -- a packet of commands: its sender's end is told or not, and its commands are taken or not
  module _ (flight : Flight) (piece : IsPiece rules settings inputs_now (λ q. has_left (game.nodes q)) flight)
      (here : i ≡ flight.to) where
    -- the node that keeps this of the sender, and these commands
    abbrev after_peer : Peer → (ℕ → List TicCmd) → Node
    after_peer peer held = record (with_peer (game.nodes i) flight.from peer) { held = held }

    abbrev end_after : Bool → Option ℕ
    end_after exit = cond exit (Some (end_of flight)) (ends_of (game.nodes i) flight.from)

    -- the history after the end was told
    abbrev history_with_end : Bool → History
    history_with_end exit = record (history_of game) {
      ends = cond exit
          (put (λ q. ends_of (game.nodes q)) i
          (put (ends_of (game.nodes i)) flight.from (Some (end_of flight))))
          (λ q. ends_of (game.nodes q));
    }

    end_from_inputs : (exit : Bool) → (exit ≡ true → flight.kind ≡ Exit)
        → ComesFromInputs rules settings (history_with_end exit) game.flights
    end_from_inputs true leaving = Invariant.learns rules settings (history_of game) game.flights kept.from_inputs i
        mine flight piece (leaving refl)
    end_from_inputs false leaving = kept.from_inputs

    end_over : (exit : Bool) → (exit ≡ true → flight.kind ≡ Exit) → (tic : ℕ)
        → is_over (ends_of (game.nodes i) flight.from) tic ≡ true → is_over (end_after exit) tic ≡ true
    end_over exit leaving tic h = grind arith

    module _ (exit : Bool) (leaving : exit ≡ true → flight.kind ≡ Exit) (peer : Peer)
        (told : peer.end ≡ end_after exit) (low : peer.resend ≤ made i (game.nodes i)) where
      still : (tic : ℕ) → is_over (ends_of (game.nodes i) flight.from) tic ≡ true → is_over peer.end tic ≡ true
      still tic h = ap (λ (o : Option ℕ). is_over o tic) told ∙ end_over exit leaving tic h

      ends_view : (held : ℕ → List TicCmd)
          → ◌≡◌ {A = ℕ → ℕ → Option ℕ}
          (λ q. ends_of (put game.nodes i (after_peer peer held) q)) (history_with_end exit).ends
      ends_view held = grind arith

      -- no commands are taken
      hears_only : IsKept rules settings (with_node game i (with_peer (game.nodes i) flight.from peer))
      hears_only =
          Placing.placed rules settings game kept i mine
          (with_peer (game.nodes i) flight.from peer) game.stopped game.flights (history_with_end exit)
          (view_kept (λ (n : Node). n.inputs) game.nodes i _ refl)
          (view_kept (λ (n : Node). n.held) game.nodes i _ refl)
          (view_kept (λ (n : Node). n.rows) game.nodes i _ refl) (ends_view (game.nodes i).held) (grind arith)
          (end_from_inputs exit leaving) (search (rules, Placing.peer_sound, still)) (grind arith)

      abbrev taken : ℕ → List TicCmd
      taken = put (game.nodes i).held flight.from
          ((game.nodes i).held flight.from ++ drop (got (game.nodes i) flight.from - flight.start)
          flight.commands)

      -- commands are taken
      takes_too : (game.nodes i).phase ≡ Playing → flight.start ≤ got (game.nodes i) flight.from
          → got (game.nodes i) flight.from < end_of flight
          → IsKept rules settings (with_node game i (after_peer peer taken))
      takes_too plays first high =
          let apart : i ≢ flight.from = λ e. piece.apart (sym e ∙ here) in
          let next : Node = after_peer peer taken in
          Placing.placed rules settings game kept i mine next game.stopped game.flights _
          (view_kept (λ (n : Node). n.inputs) game.nodes i next refl)
          (view_put (λ (n : Node). n.held) game.nodes i next)
          (view_kept (λ (n : Node). n.rows) game.nodes i next refl) (ends_view taken)
          (Placing.left_placed rules settings game kept i mine next (λ h. h))
          (lists_taken rules settings (history_with_end exit) game.flights (end_from_inputs exit leaving) i mine
          (Placing.playing_stays rules settings game kept i mine plays) flight piece apart first (omega arith))
          (search (rules, Placing.peer_sound, still, put_off))
          (Placing.marks_kept rules settings game kept i mine next refl refl)

    -- hear
    pub hears : IsKept rules settings (with_node game i (on_packet rules.limits i (game.nodes i) flight).0)
    hears =
        let node : Node = game.nodes i in
        let sound = kept.sound i mine in
        let same = Placing.same_node rules settings game kept i mine in
        let leaving : is_exit flight.kind ≡ true → flight.kind ≡ Exit = exit_is flight.kind in
        let peer : Peer = sender_after rules.limits i (game.nodes i) flight in
        let told : peer.end ≡ end_after (is_exit flight.kind) = grind arith in
        let low : peer.resend ≤ made i (game.nodes i) = grind arith in
        packet_cases rules.limits i (game.nodes i) flight
        (λ (r : Node × Heard). IsKept rules settings (with_node game i r.0)) (record {
          dropped = λ number why. same;
          starts = λ s e k. Placing.quiet rules settings game kept i mine _ refl refl refl refl refl
              (in_play_left Listening e refl)
              (Placing.restated rules settings game kept i mine Playing true (Some s) node.noted
              (λ h. ap (λ (z : Settings). Some z) (piece.set_up s k)) (λ h. refl)
              (λ h. ap (λ (z : Settings). Some z) (piece.set_up s k)) (λ p w z h. cc));
          completes = λ word e all. Placing.quiet rules settings game kept i mine _ refl refl refl refl refl
              (in_play_left Gathering e refl) (grind arith);
          notes = search (rules, Placing.quiet);
          commands = search (rules, hears_only, takes_too);
          requests = λ ended. hears_only false (λ e. absurd (cc)) _
              (asked_end rules.places (made i (game.nodes i)) ((game.nodes i).peers flight.from) flight.request)
              (grind arith);
        })

-- Each event and every list of events keep it.

-- the first part is left out of a pair that refuses nothing
pub passes : {A : Type 0} (b : Bool) (x : A) (rest : Option A) → cond (not b) (Some x) rest ≡ None → b ≡ true
passes b x rest h = grind arith

module _ {making : Making} {S : Type 0} (rules : RulesBy making S) (settings : Settings) where
  pub opens : IsWindow rules.limits → IsKept rules settings (opening_game settings)
  unfolding opening_game
  opens window = grind arith

  module _ (game : Game) (kept : IsKept rules settings game) where
    -- an event on one node that is not refused names a node
    named : (node : ℕ) → refused_at rules.players game node ≡ None → node < rules.players
    named node h = ltb-true node rules.players (passes (ltb node rules.players) _ _ h)

    delivers : (o : Option Flight) (which : ℕ) → slice_get game.flights which ≡ o
        → IsKept rules settings (delivered rules game o).0
    delivers None which h = kept
    delivers (Some flight) which h =
        let piece = kept.from_inputs.pieces which flight h in search (rules, hears)

    pub happens_keeps : (event : Event) → refused rules.players game event ≡ None
        → IsKept rules settings (on_event rules game event).0
    happens_keeps (Build node keys) h = builds rules settings game kept node (named node h) (Pressed keys)
    happens_keeps (Give node command) h = search (rules, builds, named)
    happens_keeps (Send node to) h =
        let both = and_parts (ltb node rules.players) (ltb to rules.players)
        (passes (ltb node rules.players && ltb to rules.players) _ _ h) in search (rules, sends, ltb-true)
    happens_keeps (Deliver which) h = delivers (slice_get game.flights which) which refl
    happens_keeps (Run node) h = runs rules settings game kept node (named node h)
    happens_keeps (Quit node) h = quits rules settings game kept node (named node h)
    happens_keeps (Stop node) h = record { window = kept.window; from_inputs = kept.from_inputs; sound = kept.sound; marks = kept.marks }

    pub applied_keeps : (event : Event) → IsKept rules settings (applied rules game event).0
    unfolding applied
    applied_keeps event = go (refused rules.players game event) refl
      where
        go : (o : Option Refusal) → refused rules.players game event ≡ o
            → IsKept rules settings (applied_if rules game event o).0
        go (Some refusal) h = kept
        go None h = happens_keeps event h

  pub leads_keeps : (events : List Event) (game last : Game) → IsKept rules settings game
      → Leads rules game events last → IsKept rules settings last
  leads_keeps = search (rules, leads_keep, applied_keeps)

  -- what every event keeps holds after every list of events
  pub always : IsWindow rules.limits → (events : List Event) (game : Game) → Runs rules settings events game
      → IsKept rules settings game
  always window events game run = leads_keeps events (opening_game settings) game (opens window) run

  -- one more event, applied or left out
  pub goes_on : (events : List Event) (event : Event) (game mid last : Game) → Leads rules game events mid
      → Next rules mid event last → Leads rules game (events ++ event ∷ []) last
  goes_on [] event game mid last same next = grind arith
  goes_on (e ∷ events) event game mid last way next = (way.0, way.1, goes_on events event way.0 mid last way.2 next)
