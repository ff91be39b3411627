-- The locksteps of one game stay those of one game, call by call.
use Rattle.std.proofs.Common.{zero, suc, ◌-◌, map, ◌≡◌, ◌≢◌, ◌<◌, ◌≤◌, ◌+◌, ◌||◌, ℕ, ℤ, pos, Bool, true, false, List, [], ◌∷◌, ◌++◌, fold, Option, Some, None, refl, ap, sym, ◌∙◌, subst, arith, inl, inr, append_assoc, append-nil, ◌⊎◌, nat_lt, get_or, slice_get, IfSome, option_map}
use Rattle.std.proofs.lemmas.{Bool.{cases_Bool, ltb-true, ltb-false, lt-ltb, cond_both}, Option.none-some}
use Rattle.std.proofs.Math.Seq.{take-length}
use Rattle.dn_setup.specs.Settings.{IsSettings, bit, Settings}
use Rattle.dn_machine.specs.Game.{fresh, opening_game, own_marks, delivered, refused_at, refused_flight, refused}
use Rattle.dn_machine.specs.{Game.{applied_if, applied, on_event}, Sending.{on_build, on_build_by, set_up_flight}}
use Rattle.dn_machine.specs.Started.{started_node, set_up_of, answer_of, start_flights, start_events}
use Rattle.dn_machine.specs.{Relaying.{Own, Relay, CanRelay, packet_of_one, relayed, with_relayed}, Hearing.on_packet}
use Rattle.dn_machine.specs.declared.events.{Event.{TheVariants.{Send, Deliver, Run, Quit}, Event}, Refusal.Refusal}
use Rattle.dn_machine.specs.{Worlds.{Inputs, Rules, world_after}, Running.{is_over, on_run, on_quit}, Progress.build_of}
use Rattle.dn_machine.specs.{declared.answers.{Heard.Heard, Made.Made, Ran.Ran}, Limits.{Limits, IsWindow}}
use Rattle.dn_machine.specs.{Nearness.is_start_near, Flight.{Flight, is_near}, Node.{put, is_ended}}
use Rattle.dn_machine.proofs.{Started.comes_there, Calls.{build_cases, send_cases, packet_cases, run_cases, quit_cases}}
use Rattle.dn_machine.proofs.{Invariant.IsKept, Put.{put_at, put_off, slice_get_push}, Asking.IsAsking}
use Rattle.dn_machine.proofs.{Nearness.{asks, numbered}, GoingOn.accepted_build}
use Rattle.dn_lockstep.specs.{Sent.{IsFair, sent_to, bytes_of}, OneGame.{beside, world_told, AreOneGame, IsGivenAs, Session, opening_session, with_lockstep, taken_on, after_build, given_on, after_packet, after_relays, told_on, after_run}}
use Rattle.dn_lockstep.specs.{Opening.IsGame, OneGame.started_session, Contents.{Contents, end_in}, Hearing.HearsNear}
use Rattle.dn_lockstep.specs.{Marking.{History, Marking, free}, Represents.Represents, Rows.is_gone, Steps.marks_in}
use Rattle.dn_lockstep.specs.{Steps.{RunsBy, Steps, Tells, IsAfter}, Told.{made, command_told}, Phases.is_listening}
use Rattle.dn_lockstep.proofs.{After.along, Shown.{got_is, tells_held}, Running.{kept_same, run_same, run_tells}}
use Rattle.dn_tic.specs.declared.{command.{Move.Move, TicCmd.TicCmd}, input.Input.Input}
use Rattle.dn_machine.specs.Node as machine
use Rattle.dn_machine.proofs.Asking
use Rattle.dn_machine.proofs.Promises
use Rattle.dn_machine.specs.Drops as drops

abbrev pub Rows : Type 0
Rows = List (List (Option Move))

-- who is not gone has no end, as a lockstep that has not ended tells it, that is not after the next tic
pub not_past : (n : Contents) (p : ℕ) → is_ended n.phase ≡ false → is_gone n.peers n.ran p ≡ false
    → is_over (end_in n p) n.ran ≡ false
not_past n p going here = grind arith

-- no call but a run changes the rows, and none but a build the inputs
abbrev pub IsQuiet : machine.Node → machine.Node → Type 0
IsQuiet m after = (after.rows ≡ m.rows) × (after.inputs ≡ m.inputs)

pub build_rows : (limits : Limits) (me : ℕ) (m : machine.Node) (input : Input)
    → (on_build limits me m input).0.rows ≡ m.rows
build_rows limits me m input = build_cases limits me m
    (λ (x : machine.Node). x.rows ≡ m.rows) input (λ full. refl) (λ plays free. refl)

pub send_quiet : (limits : Limits) (me : ℕ) (m : machine.Node) (to : ℕ) → IsQuiet m (sent_to to limits me m).0
send_quiet limits me m to =
    let P : machine.Node × Option Flight → Type 0 = λ x. IsQuiet m x.0 in
    cond_both (nat_lt to limits.players) _ _ P
    (λ below. send_cases limits me m P to (refl, refl) (λ other e. (refl, refl)) (λ other e. (refl, refl))
    (λ other e. (refl, refl)))
    (λ past. (refl, refl))

pub hear_quiet : (limits : Limits) (me : ℕ) (m : machine.Node) (flight : Flight)
    → IsQuiet m (on_packet limits me m flight).0
hear_quiet limits me m flight =
    packet_cases limits me m flight (λ (x : machine.Node × Heard). IsQuiet m x.0) (grind arith)

pub quit_quiet : (limits : Limits) (me : ℕ) (m : machine.Node) → IsQuiet m (on_quit m).0
quit_quiet limits me m = quit_cases limits me m (IsQuiet m) (refl, refl) (λ goes_on. (refl, refl))

run_inputs : (limits : Limits) (me : ℕ) (m : machine.Node) (marks : ℕ → ℤ)
    → (on_run limits m marks).0.inputs ≡ m.inputs
run_inputs limits me m marks = run_cases limits me m marks (λ (x : machine.Node). x.inputs ≡ m.inputs)
    (λ waits. refl) (λ player plays none off. refl) (λ plays none full. refl) (λ plays none room. refl)

pub build_inputs : (limits : Limits) (me : ℕ) (m : machine.Node) (input : Input)
    → (on_build limits me m input).0.inputs ≡ taken_on m.inputs input (on_build limits me m input).1
unfolding on_build_by
build_inputs limits me m input = grind arith

-- a packet goes from the node that is asked to the one that it is asked for
abbrev pub GoesBetween : ℕ → ℕ → Option Flight → Type 0
GoesBetween from to flight = IfSome flight (λ flight. (flight.from ≡ from) × (flight.to ≡ to))

set_up_between : (me to : ℕ) (settings : Option Settings) → GoesBetween me to (set_up_flight me to settings)
set_up_between me to settings = grind arith

pub sent_between : (limits : Limits) (me : ℕ) (m : machine.Node) (to : ℕ)
    → GoesBetween me to (sent_to to limits me m).1
sent_between limits me m to =
    let P : machine.Node × Option Flight → Type 0 = λ x. GoesBetween me to x.1 in
    cond_both (nat_lt to limits.players) _ _ P
    (λ below. send_cases limits me m P to tt (λ other e. set_up_between me to m.settings)
    (λ other e. (refl, refl)) (λ other e. (refl, refl)))
    (λ past. tt)

-- packets that are fair, with one more that is, if one is given
pub fair_on : (packets : List Flight)
    → ((which : ℕ) (flight : Flight) → slice_get packets which ≡ Some flight → IsFair flight)
    → (o : Option Flight) → IfSome o IsFair → (which : ℕ) (flight : Flight)
    → slice_get (given_on packets o) which ≡ Some flight → IsFair flight
fair_on packets all None fair which flight h = all which flight h
fair_on packets all (Some one) fair which flight h = elim (slice_get_push packets one which flight h) [
  | inl before ↦ all which flight before
  | inr last ↦ subst IsFair (sym last) fair
]

module _ (marking : Marking) (limits : Limits) (settings : Settings) where
  abbrev pub rules : Rules History
  rules = beside marking limits

  -- a world that is a history is begun and stepped as its caller is told
  folds : (history : History) (rows : Rows) → fold (free marking).step history rows
      ≡ record history { rows = history.rows ++ rows }
  folds history [] = λ i. record history { rows = sym (append-nil history.rows) i }
  folds history (row ∷ rows) = folds (record history { rows = history.rows ++ row ∷ [] }) rows
      ∙ (λ i. record history { rows = append_assoc history.rows (row ∷ []) rows i })

  pub own_is : (m : machine.Node) (p : ℕ) → m.settings ≡ Some settings
      → own_marks rules m p ≡ marking (world_told limits settings m.rows) p
  unfolding world_after
  own_is m p known = grind (arith, known, take-length, folds)

  pub opens : (locksteps : ℕ → Contents) → IsWindow limits
      → ((p : ℕ) → p < limits.players → Represents limits p (locksteps p) (fresh settings p))
      → AreOneGame marking limits settings (opening_session locksteps)
  unfolding opening_game
  opens locksteps window each = record {
    window = window;
    events = [];
    last = opening_game settings;
    runs = refl;
    nodes = each;
    inputs = λ p. refl;
    flights = refl;
    rows = λ p. refl;
    fair = λ which flight h. absurd (none-some flight h);
    going = λ p. refl;
  }

  -- where everybody plays from the beginning on, each packet that was given is fair
  bit_low : (b : Bool) → bit b ≤ 1
  bit_low b = grind arith

  set_up_fair : IsSettings settings → (player : ℕ) → IsFair (set_up_of settings player)
  set_up_fair fits player = record { packet = grind (arith, bit_low); kind = (refl, fits) }

  answer_fair : (player : ℕ) → player < 256 → IsFair (answer_of player)
  answer_fair player low = record { packet = grind arith; kind = refl }

  pub start_fair : IsSettings settings → (others : ℕ) → others < 255 → (which : ℕ) (flight : Flight)
      → slice_get (start_flights settings others) which ≡ Some flight → IsFair flight
  unfolding start_flights
  start_fair fits zero low which flight h = absurd (none-some flight h)
  start_fair fits (suc others) low which flight h =
      let before = start_flights settings others in
      let one = set_up_of settings (others + 1) in
      let other = answer_of (others + 1) in
      fair_on (before ++ one ∷ []) (fair_on before (start_fair fits others (omega arith)) (Some one)
      (set_up_fair fits (others + 1))) (Some other) (answer_fair (others + 1) (omega arith)) which flight
      (ap (λ (l : List Flight). slice_get l which) (append_assoc before (one ∷ []) (other ∷ [])) ∙ h)

  pub starts : (locksteps : ℕ → Contents) → IsWindow limits → IsGame limits.players → IsSettings settings
      → ((p : ℕ) → p < limits.players → Represents limits p (locksteps p) (started_node limits.players settings p))
      → AreOneGame marking limits settings (started_session limits.players settings locksteps)
  starts locksteps window few fits each =
      let there = comes_there rules settings few.0 in
      record {
        window = window;
        events = map Own (start_events (limits.players - 1));
        last = there.0;
        runs = Asking.own_events rules (start_events (limits.players - 1)) (opening_game settings) there.0 there.1;
        nodes = λ p below. along (there.2.nodes p below) (each p below);
        inputs = grind (arith, nat_lt, ltb-true, ltb-false);
        flights = there.2.flights;
        rows = grind (arith, nat_lt, ltb-true, ltb-false);
        fair = start_fair fits (limits.players - 1) (omega (arith, few));
        going = there.2.going;
      }

  module _ {session : Session} (game : AreOneGame marking limits settings session) where
    abbrev pub node : ℕ → machine.Node
    node = game.last.nodes

    pub kept : IsKept rules settings game.last
    kept = Asking.always rules settings game.window game.events game.last game.runs

    -- a lockstep that is what it was
    pub keeps : (i : ℕ) (new : Contents) → new ≡ session.locksteps i
        → AreOneGame marking limits settings (with_lockstep session i new)
    keeps i new same = grind arith

    -- what is read off the nodes, where one of them is another now
    read_on : {A : Type 0} (f : machine.Node → A) (values : ℕ → A) (i : ℕ) (m : machine.Node) (value : A)
        → ((p : ℕ) → f (node p) ≡ values p) → f m ≡ value → (p : ℕ) → f (put node i m p) ≡ put values i value p
    read_on f values i m value each same p = grind arith

    pub read_same : {A : Type 0} (f : machine.Node → A) (values : ℕ → A) (i : ℕ) (m : machine.Node)
        → ((p : ℕ) → f (node p) ≡ values p) → f m ≡ f (node i) → (p : ℕ) → f (put node i m p) ≡ values p
    read_same {A = A} f values i m each same p = grind arith

    pub rows_stay : (i : ℕ) (m : machine.Node) → m.rows ≡ (node i).rows → (p : ℕ)
        → (put node i m p).rows ≡ session.told p
    rows_stay i m = read_same (λ (x : machine.Node). x.rows) session.told i m game.rows

    pub inputs_stay : (i : ℕ) (m : machine.Node) → m.inputs ≡ (node i).inputs → (p : ℕ)
        → (put node i m p).inputs ≡ session.inputs p
    inputs_stay i m = read_same (λ (x : machine.Node). x.inputs) session.inputs i m game.inputs

    module _ (i : ℕ) (mine : i < limits.players) where
      accepts : refused_at limits.players game.last i ≡ None
      accepts = rw (lt-ltb i limits.players mine, game.going i) refl

      -- after an event that changes this node alone, and adds to the packets
      pub changes : (event : Event) (m : machine.Node) (flights more : List Flight) (inputs : Inputs)
          (rows : ℕ → Rows) (new : Contents)
          → (applied rules game.last event).0
          ≡ record { nodes = put node i m; stopped = game.last.stopped; flights = flights }
          → Represents limits i new m → ((p : ℕ) → (put node i m p).inputs ≡ inputs p) → flights ≡ more
          → ((which : ℕ) (flight : Flight) → slice_get more which ≡ Some flight → IsFair flight)
          → ((p : ℕ) → (put node i m p).rows ≡ rows p) → AreOneGame marking limits settings
          (record { inputs = inputs; given = more; told = rows; locksteps = put session.locksteps i new })
      changes event m flights more inputs rows new is shows takes same fair tells = record {
        window = game.window;
        events = game.events ++ Own event ∷ [];
        last = record { nodes = put node i m; stopped = game.last.stopped; flights = flights };
        runs = grind (arith, Asking.goes_on);
        nodes = grind (arith, put_at, put_off);
        inputs = takes;
        flights = same;
        rows = tells;
        fair = fair;
        going = game.going;
      }

      -- where neither packets nor rows nor inputs join the session
      pub moves : (event : Event) (m : machine.Node) (new : Contents)
          → (applied rules game.last event).0
          ≡ record { nodes = put node i m; stopped = game.last.stopped; flights = game.last.flights }
          → Represents limits i new m → IsQuiet (node i) m
          → AreOneGame marking limits settings (with_lockstep session i new)
      moves event m new is shows quiet =
          changes event m game.last.flights session.given session.inputs session.told new is shows
          (inputs_stay i m quiet.1) game.flights game.fair (rows_stay i m quiet.0)

      -- and after a call that changes nothing of what is represented
      pub stays : (new : Contents) → Represents limits i new (node i)
          → AreOneGame marking limits settings (with_lockstep session i new)
      stays new shows = record {
        window = game.window;
        events = game.events;
        last = game.last;
        runs = game.runs;
        nodes = grind (arith, put_at, put_off);
        inputs = game.inputs;
        flights = game.flights;
        rows = game.rows;
        fair = game.fair;
        going = game.going;
      }

      by_event : (event : Event) → refused limits.players game.last event ≡ None
          → (applied rules game.last event).0 ≡ (on_event rules game.last event).0
      unfolding applied
      by_event event none = ap (λ (o : Option Refusal). (applied_if rules game.last event o).0) none

      pub builds : (new : Contents) (input : Input) (made : Made)
          → Steps (session.locksteps i) new (λ limits me m. on_build limits me m input) (λ answer. made ≡ answer)
          → AreOneGame marking limits settings (after_build session i input made new)
      builds new input made steps =
          let after = steps.step limits i (node i) (game.nodes i mine) in
          let taken : (on_build limits i (node i) input).0.inputs ≡ taken_on (session.inputs i) input made =
          grind (arith, build_inputs) in
          changes (build_of i input) (on_build limits i (node i) input).0 game.last.flights session.given
          (put session.inputs i (taken_on (session.inputs i) input made)) session.told new
          (accepted_build rules game.last i input accepts) after.node
          (read_on (λ (x : machine.Node). x.inputs) session.inputs i _ _ game.inputs taken)
          game.flights game.fair (rows_stay i _ (build_rows limits i (node i) input))

      pub quits : (new : Contents) (quit : Bool)
          → Steps (session.locksteps i) new (λ limits me m. on_quit m) (λ answer. quit ≡ answer)
          → AreOneGame marking limits settings (with_lockstep session i new)
      quits new quit steps =
          moves (Quit i) (on_quit (node i)).0 new (by_event (Quit i) accepts)
          (steps.step limits i (node i) (game.nodes i mine)).node (quit_quiet limits i (node i))

      -- run: the marks of the caller's world are those of the node's own
      pub runs : (new : Contents) (marks : List ℤ) (ran : Ran) (row : Option (List (Option Move)))
          → ((tic other : ℕ) → ran ≡ Ran.Ran tic → other < limits.players
          → is_over (end_in (session.locksteps i) other) (session.locksteps i).ran ≡ false
          → get_or marks other (pos 0) ≡ marking (world_told limits settings (session.told i)) other)
          → RunsBy marks (session.locksteps i) new (λ limits m marks. on_run limits m marks)
          (λ answer told. (ran ≡ answer) × (row ≡ told))
          → AreOneGame marking limits settings (after_run session i row new)
      runs new marks ran row duty by =
          let r = game.nodes i mine in
          let m : machine.Node = node i in
          let after = by.step limits i m r in
          let same : ◌≡◌ {A = machine.Node × Ran} (on_run limits m (marks_in marks))
          (on_run limits m (own_marks rules m)) =
          run_same limits m (marks_in marks) (own_marks rules m) (λ tic plays tells.
          kept_same limits m (marks_in marks) (own_marks rules m) (λ p below present.
          let sound = kept.sound i mine in grind (arith, not_past, own_is))) in
          let shows = subst (λ (x : machine.Node × Ran). Represents limits i new x.0) same after.node in
          let tells : (on_run limits m (own_marks rules m)).0.rows ≡ told_on (session.told i) row =
          grind (arith, run_tells) in
          changes (Run i) (on_run limits m (own_marks rules m)).0 game.last.flights session.given session.inputs
          (put session.told i (told_on (session.told i) row)) new (by_event (Run i) accepts) shows
          (inputs_stay i _ (run_inputs limits i m (own_marks rules m))) game.flights game.fair
          (read_on (λ (x : machine.Node). x.rows) session.told i _ _ game.rows tells)

      sends_to : (to : ℕ) → (applied rules game.last (Send i to)).0
          ≡ record {
            nodes = put node i (sent_to to limits i (node i)).0;
            stopped = game.last.stopped;
            flights = given_on game.last.flights (sent_to to limits i (node i)).1;
          }
      unfolding applied
      sends_to to = grind arith

      -- a send
      pub gave : (to : ℕ) (new : Contents) → Represents limits i new (sent_to to limits i (node i)).0
          → IfSome (sent_to to limits i (node i)).1 IsFair
          → AreOneGame marking limits settings (after_packet session i (sent_to to limits i (node i)).1 new)
      gave to new shows fair =
          changes (Send i to) (sent_to to limits i (node i)).0 _
          (given_on session.given (sent_to to limits i (node i)).1) session.inputs session.told new (sends_to to)
          shows (inputs_stay i _ (send_quiet limits i (node i) to).1)
          (ap (λ (fs : List Flight). given_on fs (sent_to to limits i (node i)).1) game.flights)
          (fair_on session.given game.fair _ fair) (rows_stay i _ (send_quiet limits i (node i) to).0)

      pub gives : (to : ℕ) (new : Contents) (bytes : Option (List ℕ))
          → Tells (session.locksteps i) (λ limits me m. IfSome (sent_to to limits me m).1 IsFair)
          → Steps (session.locksteps i) new (λ limits me m. sent_to to limits me m)
          (λ flight. bytes ≡ option_map bytes_of flight)
          → (flight : Option Flight) × IsGivenAs (session.locksteps i) i to bytes flight
          × AreOneGame marking limits settings (after_packet session i flight new)
      gives to new bytes fair steps = grind (arith, sent_between, gave)

      -- a command that is told may be given to another
      pub relays : (player to tic : ℕ) (command : TicCmd) → player < limits.players → to < limits.players
          → player ≢ to → command_told (session.locksteps i) player tic ≡ Some command
          → IsFair (packet_of_one player to tic command)
          → AreOneGame marking limits settings (after_relays session (packet_of_one player to tic command ∷ []))
      relays player to tic command its there apart told fair =
          let has = tells_held limits i (session.locksteps i) (node i) (game.nodes i mine) player tic command told in
          let can : CanRelay limits.players game.last i player to tic =
          record { giver = mine; maker = its; receiver = there; apart = apart; has = has.1 } in
          let same : relayed (node i) player to tic ≡ packet_of_one player to tic command =
          ap (packet_of_one player to tic) (sym has.2) in
          record {
            window = game.window;
            events = game.events ++ Relay i player to tic ∷ [];
            last = with_relayed game.last i player to tic;
            runs = grind (arith, Asking.goes_on);
            nodes = game.nodes;
            inputs = game.inputs;
            flights = grind arith;
            rows = game.rows;
            fair = fair_on session.given game.fair (Some (packet_of_one player to tic command)) fair;
            going = game.going;
          }

    -- a packet that was given
    module _ (which : ℕ) (flight : Flight) (at : slice_get session.given which ≡ Some flight) where
      given_there : slice_get game.last.flights which ≡ Some flight
      given_there = ap (λ (fs : List Flight). slice_get fs which) game.flights ∙ at

      -- its receiver's count is that of the node
      receiver_made : made (session.locksteps flight.to) ≡ machine.made flight.to (node flight.to)
      receiver_made = grind (arith, (kept.from_inputs.pieces which flight given_there).receiver, got_is)

      asking : IsAsking rules settings game.last
      asking = Asking.always_asking_relayed rules settings game.window game.events game.last game.runs

      pub numbered_near : is_start_near limits (made (session.locksteps flight.to)) flight.start ≡ true
          → is_near (made (session.locksteps flight.to)) flight ≡ true
      numbered_near near = grind (arith, receiver_made, numbered, asking, given_there)

      pub asks_close : (tic : ℕ) → flight.request ≡ Some tic
          → (flight.start ≤ tic + limits.ahead) × (tic ≤ made (session.locksteps flight.to))
      asks_close tic e = grind (arith, receiver_made, asks, asking, given_there)

    -- and comes as it was given
    module _ (which : ℕ) (flight : Flight) (new : Contents) (heard : Heard)
        (at : slice_get session.given which ≡ Some flight)
        (near : is_near (made (session.locksteps flight.to)) flight ≡ true)
        (by : HearsNear flight.from (bytes_of flight) (session.locksteps flight.to) new heard) where
      there : slice_get game.last.flights which ≡ Some flight
      there = given_there which flight at

      received_by : flight.to < limits.players
      received_by = (kept.from_inputs.pieces which flight there).receiver

      receiver : Represents limits flight.to (session.locksteps flight.to) (node flight.to)
      receiver = game.nodes flight.to received_by

      accepted_there : refused_flight game.last (Some flight) ≡ None
      accepted_there = grind (arith, receiver_made)

      heard_there : IsAfter limits flight.to new (on_packet limits flight.to (node flight.to) flight)
          (λ answer. heard ≡ answer)
      heard_there =
          let r = receiver in
          let piece = kept.from_inputs.pieces which flight there in
          let steps = by flight (game.fair which flight at) refl refl (omega (arith, piece.sender, r.whose.players))
          (λ e. piece.apart (e ∙ r.whose.number)) near in
          steps.step limits flight.to (node flight.to) r

      pub hears : AreOneGame marking limits settings (with_lockstep session flight.to new)
      hears =
          moves flight.to received_by (Deliver which) (on_packet limits flight.to (node flight.to) flight).0 new
          (by_event flight.to received_by (Deliver which) (ap (refused_flight game.last) there ∙ accepted_there)
          ∙ ap (λ (o : Option Flight). (delivered rules game.last o).0) there)
          heard_there.node (hear_quiet limits flight.to (node flight.to) flight)

      -- where it is dropped as by a lockstep that does not play, that one listens or has ended
      pub not_playing : heard ≡ Heard.Dropped drops.not_playing
          → (is_listening (session.locksteps flight.to).phase || is_ended (session.locksteps flight.to).phase) ≡ true
      unfolding on_packet
      not_playing dropped = grind (arith, receiver, heard_there)

      -- it is dropped only as set-up out of place, or by a lockstep that does not play
      pub steady : (number : ℕ) → heard ≡ Heard.Dropped number
          → (number ≡ drops.out_of_place) ⊎ (number ≡ drops.not_playing)
      steady number dropped =
          (Promises.steady rules settings game.last kept).kept which flight number there accepted_there
          (sym heard_there.answer ∙ dropped)
