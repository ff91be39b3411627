-- How a game opens: the key player gathers and the others listen, and the key player starts once all others
-- have played.
use Rattle.std.proofs.Common.{◌≡◌, ℕ, ◌<◌, ◌≤◌, ◌≢◌, true, false, List, length, refl, sym, ◌∙◌, arith, Option, Some, None, ltb-true, slice_get}
use Rattle.dn_setup.specs.{Settings.Settings, Gathered.all_noted}
use Rattle.dn_machine.specs.{declared.answers.Phase.TheVariants.{Listening, Gathering, Playing}, declared.events.Event.Event, declared.events.Event.TheVariants.{Build, Send, Deliver, Run, Quit, Stop, Give}, Limits.IsWindow, Worlds.Rules}
use Rattle.dn_machine.specs.{Flight.Flight, Node.{Node, is_ended}, Sending.on_send, Game.{Game, opening_game, with_node, posted, refused, delivered, on_event, applied, own_marks, built}, Runs.Runs}
use Rattle.dn_machine.proofs.{Invariant.IsKept, Put.{put_at, put_off, slice_get_push}, Games.{opens, applied_keeps}, EachEvent.leads_keep, Calls.{IsWord, each_noted, Change, Same, Starts, Notes, Completes, Gone, build_change, send_change, run_change, quit_change, hear_change}}
use Rattle.dn_tic.specs.declared.input.Input.{Input, TheVariants.{Pressed, Given}}

-- Where a node stands: the key player gathers, any other listens, until it plays; and then it may end.
pub data Stands (i : ℕ) (node : Node) : Type 0 where
  Gathers : i ≡ 0 → node.phase ≡ Gathering → node.played ≡ false → length node.rows ≡ 0 → Stands i node
  Listens : i ≢ 0 → node.phase ≡ Listening → node.played ≡ false → Stands i node
  Plays : node.phase ≡ Playing → Stands i node
  HasGone : is_ended node.phase ≡ true → Stands i node

plays_on : (players from : ℕ) (spoke ends : Type 0) (old new : Node) → Change players from spoke ends old new
    → old.played ≡ true → new.played ≡ true
plays_on players from spoke ends old new h e = grind arith

-- What every event keeps of the opening.
pub record IsOpen {S : Type 0} (rules : Rules S) (game : Game) : Type 0 where
  pub stands : (q : ℕ) → Stands q (game.nodes q)
  pub noted : (p : ℕ) → (game.nodes 0).noted p ≡ true → (game.nodes p).played ≡ true
  pub all : (game.nodes 0).played ≡ true → (p : ℕ) → 0 < p → p < rules.players → (game.nodes p).played ≡ true
  pub missing : (game.nodes 0).phase ≡ Gathering → all_noted rules.players (game.nodes 0).noted ≡ false
  pub sent : (which : ℕ) (flight : Flight) → slice_get game.flights which ≡ Some flight → IsWord flight.kind
      → (game.nodes flight.from).played ≡ true

-- a node that plays has not just listened
never_listens : (i : ℕ) (node : Node) → i ≡ 0 → Stands i node → node.phase ≡ Listening → ⊥
never_listens i node z h l = grind arith

module _ {S : Type 0} (rules : Rules S) (game : Game) (is_open : IsOpen rules game) where
  -- one node after a call, and the packets as they were
  module _ (i from : ℕ) (spoke ends : Type 0) (new : Node)
      (change : Change rules.players from spoke ends (game.nodes i) new)
      (spoken : spoke → (game.nodes from).played ≡ true) where
    abbrev next : Game
    next = with_node game i new

    -- what the key player's node is like, by whether it is this one
    key_noted : (old : Node) (here : Node) → Change rules.players from spoke ends old here
        → ((p : ℕ) → old.noted p ≡ true → (game.nodes p).played ≡ true) → (p : ℕ) → here.noted p ≡ true
        → (game.nodes p).played ≡ true
    key_noted old here changed was p h = grind arith

    key_all : (old : Node) (here : Node) → Change rules.players from spoke ends old here
        → (old.phase ≡ Listening → ⊥) → ((p : ℕ) → old.noted p ≡ true → (game.nodes p).played ≡ true)
        → (old.played ≡ true → (p : ℕ) → 0 < p → p < rules.players → (game.nodes p).played ≡ true)
        → here.played ≡ true → (p : ℕ) → 0 < p → p < rules.players → (game.nodes p).played ≡ true
    key_all old here (Same a b c r) never marks was h = was (sym b ∙ h)
    key_all old here (Starts l a b c) never marks was h = absurd (never l)
    key_all old here (Gone x a b c) never marks was h = was (sym b ∙ h)
    key_all old here (Notes w g a b c d r) never marks was h = was (sym b ∙ h)
    key_all old here (Completes w g a b c d) never marks was h =
        λ p l m. key_noted old here (Completes w g a b c d) marks p (each_noted rules.players here.noted p d l m)

    key_missing : (old : Node) (here : Node) → Change rules.players from spoke ends old here
        → (old.phase ≡ Gathering → all_noted rules.players old.noted ≡ false) → here.phase ≡ Gathering
        → all_noted rules.players here.noted ≡ false
    key_missing old here e was h = grind arith

    key_change : Change rules.players from spoke ends (game.nodes 0) (next.nodes 0)
    key_change = grind arith

    still_plays : (p : ℕ) → (game.nodes p).played ≡ true → (next.nodes p).played ≡ true
    still_plays p h = grind arith

    pub placed_open : IsOpen rules next
    placed_open = record {
      stands = grind arith;
      noted = grind (arith, still_plays, key_change);
      all = λ h p l m. still_plays p (key_all (game.nodes 0) (next.nodes 0) key_change
          (never_listens 0 (game.nodes 0) refl (is_open.stands 0)) is_open.noted is_open.all h p l m);
      missing = key_missing (game.nodes 0) (next.nodes 0) key_change is_open.missing;
      sent = grind arith;
    }

  posted_open : (base : Game) (o : Option Flight) → IsOpen rules base
      → ((flight : Flight) → o ≡ Some flight → IsWord flight.kind → (base.nodes flight.from).played ≡ true)
      → IsOpen rules (posted base o).0
  posted_open base o was spoke = grind (arith, slice_get_push)

module _ {S : Type 0} (rules : Rules S) (settings : Settings) (game : Game)
    (kept : IsKept rules settings game) (is_open : IsOpen rules game) where
  -- whoever sends commands has played
  send_played : (i : ℕ) → i < rules.players → (to : ℕ) (flight : Flight)
      → (on_send rules.limits i (game.nodes i) to).1 ≡ Some flight → IsWord flight.kind
      → (game.nodes flight.from).played ≡ true
  unfolding on_send
  send_played i l to flight e w = grind arith

  delivers_open : (o : Option Flight) (which : ℕ) → slice_get game.flights which ≡ o
      → IsOpen rules (delivered rules game o).0
  delivers_open None which h = is_open
  delivers_open (Some flight) which h =
      placed_open rules game is_open flight.to flight.from (IsWord flight.kind) ⊥ _
      (hear_change rules.limits flight.to (game.nodes flight.to) flight) (is_open.sent which flight h)

  built_open : (node : ℕ) (input : Input) → IsOpen rules (built rules game node input).0
  built_open node input = placed_open rules game is_open node 0 ⊥ ⊥ _
      (build_change rules.limits node (game.nodes node) input) (λ x. absurd x)

  -- an event that is not refused
  happens_open : (event : Event) → refused rules.players game event ≡ None
      → IsOpen rules (on_event rules game event).0
  happens_open (Build node keys) h = built_open node (Pressed keys)
  happens_open (Give node command) h = built_open node (Given command)
  happens_open (Send node to) h =
      posted_open rules game is_open (with_node game node (on_send rules.limits node (game.nodes node) to).0)
      (on_send rules.limits node (game.nodes node) to).1
      (placed_open rules game is_open node 0 ⊥ ⊥ _ (send_change rules.limits node (game.nodes node) to)
      (λ x. absurd x))
      (λ flight e w. grind (arith, send_played, ltb-true, put_at, put_off, plays_on, send_change))
  happens_open (Deliver which) h = delivers_open (slice_get game.flights which) which refl
  happens_open (Run node) h = placed_open rules game is_open node 0 ⊥ (Unit {0}) _
      (run_change rules.limits node (game.nodes node) (own_marks rules (game.nodes node))) (λ x. absurd x)
  happens_open (Quit node) h = placed_open rules game is_open node 0 ⊥ (Unit {0}) _
      (quit_change rules.limits node (game.nodes node)) (λ x. absurd x)
  happens_open (Stop node) h = grind arith

  pub applied_open : (event : Event) → IsOpen rules (applied rules game event).0
  unfolding applied
  applied_open event = grind (arith, happens_open)

module _ {S : Type 0} (rules : Rules S) (settings : Settings) (several : 2 ≤ rules.players) where
  opening_open : IsOpen rules (opening_game settings)
  unfolding opening_game
  opening_open = grind arith

  pub always_open : IsWindow rules.limits → (events : List Event) (game : Game) → Runs rules settings events game → IsOpen rules game
  always_open window events game run =
      (leads_keep rules (λ (now : Game). IsKept rules settings now × IsOpen rules now)
      (λ now event both. search (rules, applied_keeps, applied_open)) events (opening_game settings) game (opens rules settings window, opening_open) run).1
