-- A node that wants a resend lacks a command that was made, so the tic that it asks for lies at most the
-- window before the packet's first; and so it is where commands are relayed.
use Rattle.std.proofs.{Common.{ℤ, ◌≡◌, ℕ, ◌+◌, ◌<◌, ◌≤◌, ◌≢◌, ◌++◌, [], ◌∷◌, true, ◌&&◌, List, refl, sym, subst, arith, Option, Some, None, inl, inr, ltb, get_or, ltb-true, length-append, slice_get, map}, lemmas.Bool.and_parts}
use Rattle.std.proofs.lemmas.Option.{none-some}
use Rattle.dn_tic.specs.declared.{input.Input.{Input, TheVariants.{Pressed, Given}}}
use Rattle.dn_setup.specs.Settings.{Settings}
use Rattle.dn_machine.specs.{declared.answers.Heard.Heard, declared.events.Event.Event, declared.events.Event.TheVariants.{Build, Send, Deliver, Run, Quit, Stop, Give}, Limits.{Limits, IsWindow}, Worlds.{Rules, command}, Flight.{Play, Flight, end_of}}
use Rattle.dn_machine.specs.{Node.{Node, put, got, made, has_left, held_at, blank}, Sending.{on_build, first_sent, set_up_flight, left_kind, commands_flight, request_to, on_send}, Hearing.on_packet, Running.{on_run, on_quit}}
use Rattle.dn_machine.specs.Game.{Game, opening_game, with_node, posted, own_marks, refused_at, refused, delivered, on_event, applied}
use Rattle.dn_machine.specs.Runs.{Runs, Leads}
use Rattle.dn_machine.specs.Relaying.{relayed, RelayEvent, Own, Relay, CanRelay, with_relayed, NextRelayed, LeadsRelayed, RunsRelayed}
use Rattle.dn_machine.proofs.{Invariant.{IsKept, IsPiece}, Put.slice_get_push, Calls.{build_cases, send_cases, quit_cases, packet_cases}, OwnKeeps.first_reached, EachEvent.{leads_keep, next_keeps}, Games.{applied_keeps, passes}}
use Rattle.dn_machine.proofs.Invariant

-- each node that wants a resend of a player lacks a command of that player
abbrev pub Lacks : ℕ → (ℕ → Node) → Type 0
Lacks players nodes =
    (q p : ℕ) → q < players → p < players → q ≢ p → ((nodes q).peers p).want ≡ true
    → got (nodes q) p < made p (nodes p)

-- no packet asks for a tic further before its first than the window
abbrev pub AskClose : ℕ → List Flight → Type 0
AskClose ahead flights =
    (which : ℕ) (flight : Flight) (tic : ℕ) → slice_get flights which ≡ Some flight → flight.request ≡ Some tic
    → flight.start ≤ tic + ahead

module _ (players : ℕ) (nodes : ℕ → Node) (lacks : Lacks players nodes) (i : ℕ) (mine : i < players) where
  -- what a node in its place has to keep to
  record Keeps (new : Node) : Type 0 where
    own : made i (nodes i) ≤ made i new
    others : (p : ℕ) → p < players → i ≢ p → (new.peers p).want ≡ true → got new p < made p (nodes p)

  same : Keeps (nodes i)
  same = record { own = omega arith; others = λ p l n w. lacks i p mine l n w }

  placed : (new : Node) → Keeps new → Lacks players (put nodes i new)
  placed new keeps q p l m n w = grind arith

  module _ (limits : Limits) where
    builds : (input : Input) → Keeps (on_build limits i (nodes i) input).0
    builds input = build_cases limits i (nodes i) (λ (new : Node). Keeps new) input (λ full. same)
        (λ plays free. grind (arith, length-append))

    sends : (to : ℕ) → Keeps (on_send limits i (nodes i) to).0
    unfolding on_send
    sends to = grind arith

    runs : (marks : ℕ → ℤ) → Keeps (on_run limits (nodes i) marks).0
    unfolding on_run
    runs marks = grind arith

    quits : Keeps (on_quit (nodes i)).0
    quits = quit_cases limits i (nodes i) (λ (new : Node). Keeps new) same
        (λ on. record { own = omega arith; others = λ p l n w. lacks i p mine l n w })

    module _ (flight : Flight) (apart : i ≢ flight.from)
        (reached : end_of flight ≤ made flight.from (nodes flight.from)) where
      hears : Keeps (on_packet limits i (nodes i) flight).0
      hears = packet_cases limits i (nodes i) flight (λ (r : Node × Heard). Keeps r.0) (grind arith)

-- the whole game
pub record IsAsking {S : Type 0} (rules : Rules S) (settings : Settings) (game : Game) : Type 0 where
  pub kept : IsKept rules settings game
  pub lacks : Lacks rules.players game.nodes
  pub close : AskClose rules.ahead game.flights

module _ {S : Type 0} (rules : Rules S) (settings : Settings) (game : Game)
    (asking : IsAsking rules settings game) where
  -- a packet that asks starts at most the window past the tic that it asks for
  pub starts_close : (me to : ℕ) → me < rules.players → to < rules.players → me ≢ to
      → ((game.nodes me).peers to).want ≡ true
      → first_sent rules.limits me (game.nodes me) to ≤ got (game.nodes me) to + rules.ahead
  starts_close me to l m apart wants =
      let kept = asking.kept in
      let first = first_reached rules settings game kept me l to in
      let low = asking.lacks me to l m apart wants in
      elim (kept.from_inputs.run me to l m) [
        | inl le ↦ omega arith
        | inr h ↦ let end = (kept.from_inputs.ended me to h.0 l m h.1).1 in absurd (omega arith)
      ]

  joins : (flight : Flight) → ((tic : ℕ) → flight.request ≡ Some tic → flight.start ≤ tic + rules.ahead)
      → AskClose rules.ahead (game.flights ++ flight ∷ [])
  joins flight close which other tic at asks = grind (arith, slice_get_push)

  module _ (me : ℕ) (mine : me < rules.players) where
    set_up_closes : (new : Node) (to : ℕ) (o : Option Settings)
        → AskClose rules.ahead (posted (with_node game me new) (set_up_flight me to o)).0.flights
    set_up_closes new to None = asking.close
    set_up_closes new to (Some s) = joins _ (λ tic e. absurd (none-some tic e))

    send_closes : (to : ℕ) → to < rules.players
        → AskClose rules.ahead (posted (with_node game me (on_send rules.limits me (game.nodes me) to).0)
        (on_send rules.limits me (game.nodes me) to).1).0.flights
    send_closes to l = send_cases rules.limits me (game.nodes me)
        (λ (r : Node × Option Flight). AskClose rules.ahead (posted (with_node game me r.0) r.1).0.flights) to
        asking.close (λ other e. set_up_closes (game.nodes me) to (game.nodes me).settings)
        (λ other plays. joins (commands_flight rules.limits me (game.nodes me) to Play
        (request_to (game.nodes me) to)) (λ tic e.
        grind (arith, starts_close)))
        (λ other left. joins (commands_flight rules.limits me (game.nodes me) to
        (left_kind rules.limits me (game.nodes me) to) None) (λ tic e. absurd (none-some tic e)))

  posted_nodes : (base : Game) (o : Option Flight) → (posted base o).0.nodes ≡ base.nodes
  posted_nodes base o = grind arith

  named : (node : ℕ) → refused_at rules.players game node ≡ None → node < rules.players
  named node h = ltb-true node rules.players (passes (ltb node rules.players) _ _ h)

  abbrev After : Game → Type 0
  After next = Lacks rules.players next.nodes × AskClose rules.ahead next.flights

  delivers : (which : ℕ) (o : Option Flight) → slice_get game.flights which ≡ o → After (delivered rules game o).0
  delivers which None h = (asking.lacks, asking.close)
  delivers which (Some flight) h =
      let piece = asking.kept.from_inputs.pieces which flight h in (
        placed rules.players game.nodes asking.lacks flight.to piece.receiver _
            (hears rules.players game.nodes asking.lacks flight.to piece.receiver rules.limits flight
            (λ e. piece.apart (sym e)) (omega arith)),
        asking.close,
      )

  put_in : (node : ℕ) (h : refused_at rules.players game node ≡ None) (new : Node)
      → Keeps rules.players game.nodes asking.lacks node (named node h) new → After (with_node game node new)
  put_in node h new keeps = (placed rules.players game.nodes asking.lacks node (named node h) new keeps, asking.close)

  happens : (event : Event) → refused rules.players game event ≡ None → After (on_event rules game event).0
  happens (Build node keys) h = put_in node h _
      (builds rules.players game.nodes asking.lacks node (named node h) rules.limits (Pressed keys))
  happens (Give node command) h = put_in node h _
      (builds rules.players game.nodes asking.lacks node (named node h) rules.limits (Given command))
  happens (Send node to) h =
      let both = and_parts (ltb node rules.players) (ltb to rules.players)
      (passes (ltb node rules.players && ltb to rules.players) _ _ h) in
      let mine = ltb-true node rules.players both.0 in
      let new : Node × Option Flight = on_send rules.limits node (game.nodes node) to in (
        subst (λ (nodes : ℕ → Node). Lacks rules.players nodes)
            (sym (posted_nodes (with_node game node new.0) new.1))
            (placed rules.players game.nodes asking.lacks node mine _
            (sends rules.players game.nodes asking.lacks node mine rules.limits to)),
        send_closes node mine to (ltb-true to rules.players both.1),
      )
  happens (Deliver which) h = delivers which (slice_get game.flights which) refl
  happens (Run node) h = put_in node h _
      (runs rules.players game.nodes asking.lacks node (named node h) rules.limits (own_marks rules (game.nodes node)))
  happens (Quit node) h = put_in node h _
      (quits rules.players game.nodes asking.lacks node (named node h) rules.limits)
  happens (Stop node) h = (asking.lacks, asking.close)

  pub applied_asking : (event : Event) → IsAsking rules settings (applied rules game event).0
  unfolding applied
  applied_asking event = record {
    kept = applied_keeps rules settings game asking.kept event;
    lacks = grind (arith, happens);
    close = grind (arith, happens);
  }

module _ {S : Type 0} (rules : Rules S) (settings : Settings) where
  pub opens_asking : IsWindow rules.limits → IsAsking rules settings (opening_game settings)
  unfolding opening_game
  opens_asking window = grind arith

  -- after every list of events
  pub always_asking : IsWindow rules.limits → (events : List Event) (game : Game) → Runs rules settings events game
      → IsAsking rules settings game
  always_asking window events game run = leads_keep rules (λ (now : Game). IsAsking rules settings now)
      (λ now event asking. applied_asking rules settings now asking event)
      events (opening_game settings) game (opens_asking window) run

-- A packet with a command of a third player keeps what every event keeps.

module _ {S : Type 0} (rules : Rules S) (settings : Settings) where
  module _ (game : Game) (kept : IsKept rules settings game) (node player to tic : ℕ)
      (can : CanRelay rules.players game node player to tic) where
    -- its one command is the maker's
    only : (j : ℕ) → j < 1
        → get_or (held_at (game.nodes node) player tic ∷ []) j blank
        ≡ command rules settings (λ q. (game.nodes q).inputs) player (tic + j)
    only j l = grind arith

    -- it is a piece of what its maker has
    piece : IsPiece rules settings (λ q. (game.nodes q).inputs) (λ q. has_left (game.nodes q))
        (relayed (game.nodes node) player to tic)
    piece = grind arith

    pub keeps : IsKept rules settings (with_relayed game node player to tic)
    keeps = grind (arith, Invariant.sends)

  -- it asks for nothing
  asks_not : (game : Game) → IsAsking rules settings game → (node player to tic : ℕ)
      → CanRelay rules.players game node player to tic
      → IsAsking rules settings (with_relayed game node player to tic)
  asks_not game asking node player to tic can = grind (arith, keeps, slice_get_push)

  one : (game next : Game) (event : RelayEvent) → IsAsking rules settings game
      → NextRelayed rules game event next → IsAsking rules settings next
  one game next (Own event) asking step = next_keeps rules (λ (now : Game). IsAsking rules settings now)
      (λ now event asking. applied_asking rules settings now asking event) game next event asking step
  one game next (Relay node player to tic) asking step =
      subst (λ (now : Game). IsAsking rules settings now) (sym step.1)
      (asks_not game asking node player to tic step.0)

  leads : (events : List RelayEvent) (game last : Game) → IsAsking rules settings game
      → LeadsRelayed rules game events last → IsAsking rules settings last
  leads [] game last asking same = subst (λ (now : Game). IsAsking rules settings now) (sym same) asking
  leads (event ∷ events) game last asking way = leads events way.0 last (one game way.0 event asking way.1) way.2

  -- after every list of events
  pub always_asking_relayed : IsWindow rules.limits → (events : List RelayEvent) (game : Game)
      → RunsRelayed rules settings events game → IsAsking rules settings game
  always_asking_relayed window events game run = leads events (opening_game settings) game
      (opens_asking rules settings window) run

  pub always : IsWindow rules.limits → (events : List RelayEvent) (game : Game)
      → RunsRelayed rules settings events game → IsKept rules settings game
  always window events game run = (always_asking_relayed window events game run).kept

  -- one more event
  pub goes_on : (events : List RelayEvent) (event : RelayEvent) (game mid last : Game)
      → LeadsRelayed rules game events mid → NextRelayed rules mid event last
      → LeadsRelayed rules game (events ++ event ∷ []) last
  goes_on [] event game mid last same next = grind arith
  goes_on (e ∷ events) event game mid last way next = (way.0, way.1, goes_on events event way.0 mid last way.2 next)

-- and a game of own events is one with packets given on
pub own_events : {S : Type 0} (rules : Rules S) (events : List Event) (game last : Game) → Leads rules game events last
    → LeadsRelayed rules game (map Own events) last
own_events rules [] game last same = same
own_events rules (event ∷ events) game last way = (way.0, way.1, own_events rules events way.0 last way.2)
