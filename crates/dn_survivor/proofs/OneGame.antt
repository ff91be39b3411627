-- The survivors of one game stay those of one game, call by call.
use Rattle.std.proofs.Common.{◌-◌, ltb-true, ltb-false, map, ◌≡◌, ◌≢◌, ◌<◌, ◌≤◌, ℕ, ℤ, pos, Bool, true, false, List, [], ◌∷◌, ◌++◌, Option, Some, None, refl, ap, sym, ◌∙◌, subst, arith, inl, inr, nat_lt, get_or, slice_get, if◌then◌else◌, IfSome, option_map}
use Rattle.std.proofs.lemmas.{Bool.{cases_Bool, cases_lt, both_ways, cond-true, lt-ltb, le-ltb}, Option.none-some}
use Rattle.dn_setup.specs.Settings.{IsSettings, Settings}
use Rattle.dn_machine.specs.{Started.{started_node, start_events}, declared.answers.{Heard.Heard, Made.Made, Ran.Ran}}
use Rattle.dn_machine.specs.{declared.{events.{Event.Event, Refusal.Refusal}, peer.Peer.Peer}, Sending.on_build}
use Rattle.dn_machine.specs.Game.{applied_if, delivered, on_event}
use Rattle.dn_machine.specs.{Flight.Flight, Flight.is_near, Hearing.on_packet, Limits.Limits, Limits.IsWindow, Node.put, Node.is_ended, Progress.build_of, Running.is_over, Running.on_quit, Sparing.on_run_but}
use Rattle.dn_machine.specs.{Worlds.Inputs, Worlds.Rules, Relaying.packet_of_one, Relaying.relayed, Relaying.with_relayed, declared.events.Event.TheVariants.Send, declared.events.Event.TheVariants.Deliver}
use Rattle.dn_machine.specs.{declared.events.Event.TheVariants.Run, declared.events.Event.TheVariants.Quit, Game.fresh, Game.opening_game, Game.own_marks, Game.refused_at, Game.refused_flight, Game.refused, Game.applied}
use Rattle.dn_machine.proofs.{Started.comes_there, GoingOn.accepted_build, Put.{put_at, put_off}}
use Rattle.dn_lockstep.specs.{Opening.IsGame, Contents.{Contents, end_in}, Hearing.{HearsNear, Spares}, Rows.is_gone}
use Rattle.dn_lockstep.specs.{Marking.{History, Marking}, Sent.{IsFair, bytes_of, sent_to}, Told.{made, command_told}}
use Rattle.dn_lockstep.specs.OneGame.{beside, world_told, given_on, taken_on, told_on}
use Rattle.dn_lockstep.specs.Steps.{RunsBy, marks_in, Steps, Tells, IsAfter}
use Rattle.dn_lockstep.proofs.OneGame.{start_fair, IsQuiet, Rows, build_inputs, build_rows, fair_on, hear_quiet}
use Rattle.dn_lockstep.proofs.OneGame.{not_past, own_is, quit_quiet, send_quiet, sent_between}
use Rattle.dn_lockstep.proofs.{Shown.{got_is, tells_held}, Running.{but_same, but_tells, kept_same}}
use Rattle.dn_remain.proofs.{Quiet.stays_quiet, Relayed.{as_relayed, goes_on_by, reached_by}, Known.IsTold}
use Rattle.dn_remain.proofs.{Followed.there, Vanished.Put.{at_put, own_put}, Reached.IsReached}
use Rattle.dn_remain.specs.{Relaying.Own as plain, Vanished.Commands.Holder, declared.events.RemainEvent.RemainEvent}
use Rattle.dn_remain.specs.Remaining.{NextRemain, Remaining, Telling, wary_of, with_wary, with_telling, unless}
use Rattle.dn_remain.specs.Remaining.{after_event, after_hearing, after_run, after_telling, is_barred, is_barred_flight}
use Rattle.dn_remain.specs.{Remaining.opening_remaining, Wary.{Report, Wary, on_give_up, on_report, report_to, now_of}}
use Rattle.dn_remain.specs.declared.events.RemainEvent.TheVariants.{Own, GiveUp, Tell, Hear}
use Rattle.dn_survivor.specs.Represents.{nobody_gone}
use Rattle.dn_survivor.specs.OneGame.{started_session, after_report, opening_session, with_survivor}
use Rattle.dn_survivor.specs.{declared.report.Report.Report as Told, OfOthers.nothing_kept, Telling.MayRelay, Telling.told_gone, Calls.GivesUp, Calls.HearsReport, Calls.sent_unless, OneGame.AreRemaining}
use Rattle.dn_survivor.specs.{OneGame.AreTelling, OneGame.IsGivenAs, OneGame.IsTelling, Represents.Represents, Represents.given_up_is, Represents.reported_is, Surviving.Surviving, Surviving.has_given_up}
use Rattle.dn_survivor.specs.{Telling.report_for, declared.answers.GivenUp.GivenUp, declared.answers.Reported.Reported, OneGame.Given, OneGame.Session, OneGame.after_build, OneGame.after_packet, OneGame.after_relays}
use Rattle.dn_tic.specs.{declared.command.Move.Move, declared.command.TicCmd.TicCmd, declared.input.Input.Input, declared.input.Input.TheVariants.Pressed, declared.input.Input.TheVariants.Given as Handed}
use Rattle.dn_survivor.proofs.{Decided.gone_can, Decided.told_can, Steps.give_up_quiet, Steps.report_quiet, Steps.run_inputs, Reports.telling_at, Reports.telling_more, Reports.told_apart}
use Rattle.dn_machine.specs.Drops as drops
use Rattle.dn_machine.specs.Node as machine
use Rattle.dn_lockstep.specs.Represents as lockstep
use Rattle.dn_survivor.specs.OfOthers as others
use Rattle.dn_remain.specs.Relaying as relaying
use Rattle.dn_survivor.specs.OneGame as session_of
use Rattle.dn_survivor.proofs.Reports as telling
use Rattle.dn_survivor.proofs.Steps as steps
use Rattle.dn_survivor.proofs.Waries as waries

-- what is read off the nodes, where one of them is another now
read_on : {A : Type 0} (f : machine.Node → A) (nodes : ℕ → machine.Node) (values : ℕ → A) (i : ℕ)
    (m : machine.Node) (value : A) → ((p : ℕ) → f (nodes p) ≡ values p) → f m ≡ value → (p : ℕ)
    → f (put nodes i m p) ≡ put values i value p
read_on f nodes values i m value each same p = grind arith

read_same : {A : Type 0} (f : machine.Node → A) (nodes : ℕ → machine.Node) (values : ℕ → A) (i : ℕ)
    (m : machine.Node) → ((p : ℕ) → f (nodes p) ≡ values p) → f m ≡ f (nodes i) → (p : ℕ)
    → f (put nodes i m p) ≡ values p
read_same {A = A} f nodes values i m each same p = grind (arith, read_on, own_put)

module _ (marking : Marking) (limits : Limits) (settings : Settings) where
  abbrev pub rules : Rules History
  rules = beside marking limits

  pub opens : (survivors : ℕ → Surviving) → IsWindow limits → limits.players ≤ 4 → limits.places ≤ 24
      → ((p : ℕ) → p < limits.players → lockstep.Represents limits p (survivors p).lockstep (fresh settings p))
      → ((p : ℕ) → p < limits.players → (survivors p).others ≡ nothing_kept)
      → AreRemaining marking limits settings (opening_session survivors)
  unfolding opening_remaining opening_game
  opens survivors window few kept each nothing = record {
    window = window;
    events = [];
    last = opening_remaining settings;
    runs = refl;
    nodes = λ p below. steps.opened limits p (survivors p) (fresh settings p) below few kept (each p below)
        (nothing p below);
    inputs = λ p. refl;
    packets = refl;
    reports = tt;
    rows = λ p. refl;
    fair = λ which packet h. absurd (none-some packet h);
    going = λ p. refl;
  }

  pub starts : (survivors : ℕ → Surviving) → IsWindow limits → IsGame limits.players → limits.places ≤ 24
      → IsSettings settings
      → ((p : ℕ) → p < limits.players
      → lockstep.Represents limits p (survivors p).lockstep (started_node limits.players settings p))
      → ((p : ℕ) → p < limits.players → (survivors p).others ≡ nothing_kept)
      → AreRemaining marking limits settings (started_session limits.players settings survivors)
  unfolding opening_remaining
  starts survivors window few kept fits each nothing =
      let there = comes_there rules settings few.0 in
      let events = start_events (limits.players - 1) in
      let last : Remaining = record (opening_remaining settings) { game = there.0 } in
      record {
        window = window;
        events = map plain (map Own events);
        last = last;
        runs = as_relayed rules settings (map Own events) last (stays_quiet rules settings events there.0 there.1);
        nodes = λ p below. subst (λ (m : machine.Node). Represents limits p (survivors p) (nobody_gone m))
            (sym (there.2.nodes p below)) (steps.opened limits p (survivors p)
            (started_node limits.players settings p) below few.1 kept (each p below) (nothing p below));
        inputs = grind (arith, nat_lt, ltb-true, ltb-false);
        packets = there.2.flights;
        reports = tt;
        rows = grind (arith, nat_lt, ltb-true, ltb-false);
        fair = start_fair marking limits settings fits (limits.players - 1) (omega (arith, few));
        going = there.2.going;
      }

  module _ {session : Session} (game : AreRemaining marking limits settings session) where
    -- the survivors of this session are those of one game too
    abbrev Still : Session → Type 0
    Still = AreRemaining marking limits settings

    abbrev pub all : Remaining
    all = game.last

    abbrev pub node : ℕ → machine.Node
    node = game.last.game.nodes

    pub known : (older : List (ℕ → Holder TicCmd)) × IsReached rules settings game.last older
    known = reached_by rules settings game.events game.last game.runs

    -- a survivor that is what it was
    pub keeps : (i : ℕ) (new : Surviving) → new ≡ session.survivors i → Still (with_survivor session i new)
    keeps i new same = grind (arith, own_put)

    rows_stay : (i : ℕ) (m : machine.Node) → m.rows ≡ (node i).rows → (p : ℕ)
        → (put node i m p).rows ≡ session.told p
    rows_stay i m = read_same (λ (x : machine.Node). x.rows) node session.told i m game.rows

    inputs_stay : (i : ℕ) (m : machine.Node) → m.inputs ≡ (node i).inputs → (p : ℕ)
        → (put node i m p).inputs ≡ session.inputs p
    inputs_stay i m = read_same (λ (x : machine.Node). x.inputs) node session.inputs i m game.inputs

    module _ (i : ℕ) (mine : i < limits.players) where
      abbrev old : Surviving
      old = session.survivors i

      abbrev wary : Wary
      wary = wary_of game.last i

      abbrev me : machine.Node
      me = node i

      accepts : refused_at limits.players game.last.game i ≡ None
      accepts = rw (lt-ltb i limits.players mine, game.going i) refl

      shown : Represents limits i old wary
      shown = game.nodes i mine

      -- of all players the survivor is another in one place, and of those where the nodes stay it is as it was
      placed : (next : Remaining) (new : Surviving) → ((p : ℕ) → p ≢ i → wary_of next p ≡ wary_of game.last p)
          → Represents limits i new (wary_of next i) → (p : ℕ) → p < limits.players
          → Represents limits p (put session.survivors i new p) (wary_of next p)
      placed next new rest shows = at_put (λ p s. p < limits.players → Represents limits p s (wary_of next p))
          session.survivors i new (λ below. shows) (λ p n below.
          subst (Represents limits p (session.survivors p)) (sym (rest p n)) (game.nodes p below))

      -- the session with another survivor of this player, and what else joined it
      abbrev with_own : Inputs → List Flight → (ℕ → Rows) → Surviving → Session
      with_own inputs packets rows new =
          record session { inputs = inputs; packets = packets; told = rows; survivors = put session.survivors i new }

      -- after an event that changes this node alone
      changes : (event : RemainEvent) (next : Remaining) (inputs : Inputs) (packets : List Flight)
          (rows : ℕ → Rows) (new : Surviving) → NextRemain rules game.last event next
          → ((p : ℕ) → p ≢ i → wary_of next p ≡ wary_of game.last p) → Represents limits i new (wary_of next i)
          → ((p : ℕ) → (next.game.nodes p).inputs ≡ inputs p) → next.game.flights ≡ packets
          → next.reports ≡ game.last.reports → ((p : ℕ) → (next.game.nodes p).rows ≡ rows p)
          → ((which : ℕ) (packet : Flight) → slice_get packets which ≡ Some packet → IsFair packet)
          → next.game.stopped ≡ game.last.game.stopped → Still (with_own inputs packets rows new)
      changes event next inputs packets rows new step rest shows takes same told tells fair on = record {
        window = game.window;
        events = game.events ++ relaying.Own event ∷ [];
        last = next;
        runs = goes_on_by rules settings game.events (relaying.Own event) (opening_remaining settings) game.last next
            game.runs step;
        nodes = placed next new rest shows;
        inputs = takes;
        packets = same;
        reports = subst (AreTelling limits session.reports) (sym told) game.reports;
        rows = tells;
        fair = fair;
        going = λ p. ap (λ (f : ℕ → Bool). f p) on ∙ game.going p;
      }

      -- after a call that changes nothing of what is represented
      stays : (new : Surviving) → Represents limits i new wary → Still (with_survivor session i new)
      stays new shows = record {
        window = game.window;
        events = game.events;
        last = game.last;
        runs = game.runs;
        nodes = placed game.last new (λ p n. refl) shows;
        inputs = game.inputs;
        packets = game.packets;
        reports = game.reports;
        rows = game.rows;
        fair = game.fair;
        going = game.going;
      }

      -- after an event of the machine, which adds to the packets
      owns : (event : Event) (m : machine.Node) (flights packets : List Flight) (inputs : Inputs)
          (rows : ℕ → Rows) (new : Surviving) → is_barred game.last event ≡ false → after_event rules game.last
          event ≡ record { nodes = put node i m; stopped = game.last.game.stopped; flights = flights }
          → Represents limits i new (record wary { node = m }) → ((p : ℕ) → (put node i m p).inputs ≡ inputs p)
          → flights ≡ packets → ((which : ℕ) (packet : Flight) → slice_get packets which ≡ Some packet → IsFair
          packet) → ((p : ℕ) → (put node i m p).rows ≡ rows p) → Still (with_own inputs packets rows new)
      owns event m flights packets inputs rows new free is shows takes same fair tells =
          changes (Own event) (record game.last {
            game = record { nodes = put node i m; stopped = game.last.game.stopped; flights = flights };
          }) inputs packets rows new (inr (
            free,
            record { nodes = put node i m; stopped = game.last.game.stopped; flights = flights },
            inl (sym is),
            refl,
          ))
          (λ p n. ap (λ (x : machine.Node). record {
            node = x;
            gone = game.last.gone p;
            newest = game.last.newest p;
          }) (put_off node i p m n))
          (subst (λ (x : machine.Node). Represents limits i new (record {
            node = x;
            gone = game.last.gone i;
            newest = game.last.newest i;
          })) (sym (put_at node i i m refl)) shows) takes same refl tells fair refl

      -- and where neither packets nor rows nor inputs join the session
      moves : (event : Event) (m : machine.Node) (new : Surviving) → is_barred game.last event ≡ false
          → after_event rules game.last event
          ≡ record { nodes = put node i m; stopped = game.last.game.stopped; flights = game.last.game.flights }
          → Represents limits i new (record wary { node = m }) → IsQuiet me m → Still (with_survivor session i new)
      moves event m new free is shows quiet =
          owns event m game.last.game.flights session.packets session.inputs session.told new free is shows
          (inputs_stay i m quiet.1) game.packets game.fair (rows_stay i m quiet.0)

      by_event : (event : Event) → refused limits.players game.last.game event ≡ None
          → (applied rules game.last.game event).0 ≡ (on_event rules game.last.game event).0
      unfolding applied
      by_event event none = ap (λ (o : Option Refusal). (applied_if rules game.last.game event o).0) none

      -- a build
      is_built : (input : Input) → after_event rules game.last (build_of i input)
          ≡ record {
            nodes = put node i (on_build limits i me input).0;
            stopped = game.last.game.stopped;
            flights = game.last.game.flights;
          }
      is_built (Pressed keys) = accepted_build rules game.last.game i (Pressed keys) accepts
      is_built (Handed command) = accepted_build rules game.last.game i (Handed command) accepts

      free_build : (input : Input) → is_barred game.last (build_of i input) ≡ false
      free_build (Pressed keys) = refl
      free_build (Handed command) = refl

      pub builds : (new : Surviving) (input : Input) (made : Made)
          → Steps old.lockstep new.lockstep (λ limits me m. on_build limits me m input)
          (λ answer. made ≡ answer) → new.others ≡ old.others → Still (after_build session i input made new)
      builds new input made by same =
          let after = by.step limits i me shown.node in
          let taken : (on_build limits i me input).0.inputs ≡ taken_on (session.inputs i) input made = grind (arith, build_inputs) in
          owns (build_of i input) (on_build limits i me input).0 game.last.game.flights session.packets
          (put session.inputs i (taken_on (session.inputs i) input made)) session.told new (free_build input)
          (is_built input) (steps.stepped limits i old new wary _ shown after.node same)
          (read_on (λ (x : machine.Node). x.inputs) node session.inputs i _ _ game.inputs taken)
          game.packets game.fair (rows_stay i _ (build_rows limits i me input))

      -- a quit
      pub quits : (new : Surviving) (quit : Bool)
          → Steps old.lockstep new.lockstep (λ limits me m. on_quit m) (λ answer. quit ≡ answer)
          → new.others ≡ old.others → Still (with_survivor session i new)
      quits new quit by same =
          moves (Quit i) (on_quit me).0 new refl (by_event (Quit i) accepts)
          (steps.stepped limits i old new wary _ shown (by.step limits i me shown.node).node same)
          (quit_quiet limits i me)

      -- a run: the marks of the caller's world are those of the node's own
      pub runs : (new : Surviving) (marks : List ℤ) (ran : Ran) (row : Option (List (Option Move)))
          → ((tic other : ℕ) → ran ≡ Ran.Ran tic → other < limits.players
          → is_over (end_in old.lockstep other) old.lockstep.ran ≡ false
          → get_or marks other (pos 0) ≡ marking (world_told limits settings (session.told i)) other)
          → RunsBy marks old.lockstep new.lockstep
          (λ limits m marks. on_run_but limits (has_given_up old) m marks)
          (λ answer told. (ran ≡ answer) × (row ≡ told)) → new.others ≡ old.others
          → Still (session_of.after_run session i row new)
      runs new marks ran row duty by others_same =
          let n : Contents = old.lockstep in
          let m : machine.Node = node i in
          let r = shown.node in
          let gone : ℕ → Bool = game.last.gone i in
          let after = steps.runs limits i old new wary shown marks ran row by others_same in
          let same : ◌≡◌ {A = machine.Node × Ran} (on_run_but limits gone m (marks_in marks))
          (on_run_but limits gone m (own_marks rules m)) =
          but_same limits gone m (marks_in marks) (own_marks rules m)
          (λ tic plays tells. kept_same limits m (marks_in marks) (own_marks rules m)
          (λ p below present. duty tic p (after.1 ∙ tells) below (not_past n p
          (ap is_ended (r.stands.phase ∙ plays)) (ap (λ (x : ℕ). is_gone n.peers x p) r.table.ran ∙ ap
          (λ (x : Option ℕ). is_over x (machine.ran m)) (ap (λ (x : Peer). x.end) (r.peers.known p below))
          ∙ present)) ∙ ap (λ (rows : Rows). marking (world_told limits settings rows) p) (sym (game.rows i))
          ∙ sym (own_is marking limits settings m p ((known.1.set.nodes i).played
          ((known.1.set.nodes i).plays plays))))) in
          let shows = subst (λ (x : machine.Node × Ran). Represents limits i new
          (record wary { node = x.0 })) same after.0 in
          let tells : (on_run_but limits gone m (own_marks rules m)).0.rows ≡ told_on (session.told i) row = grind (arith, but_tells, Rows) in
          owns (Run i) (on_run_but limits gone m (own_marks rules m)).0 game.last.game.flights session.packets
          session.inputs (put session.told i (told_on (session.told i) row)) new refl
          (ap (after_run rules game.last i) accepts) shows
          (inputs_stay i _ (run_inputs limits gone m (own_marks rules m))) game.packets game.fair
          (read_on (λ (x : machine.Node). x.rows) node session.told i _ _ game.rows tells)

      sends_to : (to : ℕ) → after_event rules game.last (Send i to)
          ≡ record {
            nodes = put node i (sent_to to limits i me).0;
            stopped = game.last.game.stopped;
            flights = given_on game.last.game.flights (sent_to to limits i me).1;
          }
      unfolding applied
      sends_to to = grind arith

      -- who is not given up here is not given up there
      free_of : (to : ℕ) → has_given_up old to ≡ false → game.last.gone i to ≡ false
      free_of to free = grind (arith, shown, both_ways)

      -- its lockstep gives a packet in this way, and a datagram can carry it
      abbrev IsFairBy : (Limits → ℕ → machine.Node → machine.Node × Option Flight) → Type 0
      IsFairBy by = Tells old.lockstep (λ limits me m. IfSome (by limits me m).1 IsFair)

      abbrev GivesBy : (Limits → ℕ → machine.Node → machine.Node × Option Flight) → Surviving
          → Option (List ℕ) → Type 0
      GivesBy by new bytes = Steps old.lockstep new.lockstep by (λ packet. bytes ≡ option_map bytes_of packet)

      pub gave_to : (to : ℕ) (new : Surviving) (bytes : Option (List ℕ))
          → has_given_up old to ≡ false → IsFairBy (sent_to to) → GivesBy (sent_to to) new bytes
          → new.others ≡ old.others → (packet : Option Flight) × IsGivenAs old i to bytes packet
          × Still (after_packet session i packet new)
      gave_to to new bytes free fair by same =
          let r = shown.node in
          let after = by.step limits i me r in (
            (sent_to to limits i me).1,
            record {
              players = sent_between limits i me to;
              bytes = after.answer;
              aim = λ open_to numbers tells. tells limits i me r;
            },
            owns (Send i to) (sent_to to limits i me).0 _
                (given_on session.packets (sent_to to limits i me).1) session.inputs session.told new
                (free_of to free) (sends_to to) (steps.stepped limits i old new wary _ shown after.node same)
                (inputs_stay i _ (send_quiet limits i me to).1)
                (ap (λ (fs : List Flight). given_on fs (sent_to to limits i me).1) game.packets)
                (fair_on session.packets game.fair _ (fair limits i me r)) (rows_stay i _ (send_quiet limits i me to).0),
          )

      pub gives : (to : ℕ) (new : Surviving) (bytes : Option (List ℕ)) → IsFairBy (sent_unless old.others to)
          → GivesBy (sent_unless old.others to) new bytes → new.others ≡ old.others
          → (packet : Option Flight) × IsGivenAs old i to bytes packet × Still (after_packet session i packet new)
      gives to new bytes fair by same = elim (cases_Bool (has_given_up old to)) [
        | inr free ↦ gave_to to new bytes free (as_sent free fair) (as_stepped free by) same
        | inl given ↦
            let after = subst (λ (x : machine.Node × Option Flight).
            IsAfter limits i new.lockstep x (λ packet. bytes ≡ option_map bytes_of packet)) (none_sent given)
            (by.step limits i me shown.node) in (
              None,
              record {
                players = tt;
                bytes = after.answer;
                aim = λ open_to numbers tells. absurd (both_ways (has_given_up old to) open_to given);
              },
              stays new (steps.stepped limits i old new wary _ shown after.node same),
            )
      ]
        where
          sent_if : Bool → Limits → ℕ → machine.Node → machine.Node × Option Flight
          sent_if b limits me m = if b then (m, None) else sent_to to limits me m

          none_sent : has_given_up old to ≡ true
              → ◌≡◌ {A = machine.Node × Option Flight} (sent_unless old.others to limits i me) (node i, None)
          none_sent given = rw given refl

          as_sent : has_given_up old to ≡ false → IsFairBy (sent_unless old.others to) → IsFairBy (sent_to to)
          as_sent free told = subst (λ (b : Bool). IsFairBy (sent_if b)) free told

          as_stepped : has_given_up old to ≡ false
              → GivesBy (sent_unless old.others to) new bytes → GivesBy (sent_to to) new bytes
          as_stepped free told = subst (λ (b : Bool). GivesBy (sent_if b) new bytes) free told

      -- another node is put in its place, with whom it has given up and what it has heard
      elsewhere : (w : Wary) (p : ℕ) → p ≢ i → wary_of (with_wary game.last i w) p ≡ wary_of game.last p
      elsewhere w p n = grind (arith, put_off)

      becomes : (event : RemainEvent) (w : Wary) (new : Surviving)
          → NextRemain rules game.last event (with_wary game.last i w) → Represents limits i new w
          → IsQuiet me w.node → Still (with_survivor session i new)
      becomes event w new step shows quiet = grind (arith, changes, elsewhere, there, inputs_stay, rows_stay)

      -- a give-up
      module _ (player : ℕ) (new : Surviving) (answer : GivenUp) (by : GivesUp player old new answer) where
        pub gave_up_is : Represents limits i new (on_give_up limits i wary player).0
            × (answer ≡ given_up_is (on_give_up limits i wary player).1)
        gave_up_is =
            waries.gave_up limits i old new wary shown player answer
            (λ phase peer can. gone_can rules settings game.window game.events game.last game.runs i player mine
            (grind (arith, peer)) (λ e. absurd (grind (arith, peer, e))) phase can) by

        pub gives_up : Still (with_survivor session i new)
        gives_up =
            becomes (GiveUp i player) (on_give_up limits i wary player).0 new
            (sym (ap (λ (o : Option Refusal). unless o game.last (with_wary game.last i
            (on_give_up limits i wary player).0)) accepts)) gave_up_is.0 (give_up_quiet limits i wary player)

      -- a report, if one is given
      module _ (to : ℕ) where
        -- to a number that is no player's there is none
        none_past : limits.players ≤ to → report_for old to ≡ None
        none_past past = grind (arith, shown, le-ltb)

        tells_to : (to < limits.players) → (given : Option Told) (told : Option Report)
            → report_to limits i wary to ≡ told → others.AreTold limits.players limits.places to i given told
            → Still (after_report session i to given)
        tells_to low None None is h = game
        tells_to low None (Some told) is h = absurd h
        tells_to low (Some given) None is h = absurd h
        tells_to low (Some given) (Some told) is h = record {
          window = game.window;
          events = game.events ++ relaying.Own (Tell i to) ∷ [];
          last = with_telling game.last i to (Some told);
          runs = goes_on_by rules settings game.events (relaying.Own (Tell i to)) (opening_remaining settings)
              game.last _ game.runs (inl (sym (told_step is)));
          nodes = game.nodes;
          inputs = game.inputs;
          packets = game.packets;
          reports = telling_more limits session.reports game.last.reports
              (record { from = i; to = to; report = given }) (record { from = i; to = to; report = told })
              game.reports (record {
                from = refl;
                to = refl;
                sender = mine;
                apart = told_apart limits i wary to told is;
                tells = h;
              });
          rows = game.rows;
          fair = game.fair;
          going = game.going;
        }
          where
            told_step : report_to limits i wary to ≡ Some told
                → after_telling limits game.last i to ≡ with_telling game.last i to (Some told)
            told_step is = grind (arith, lt-ltb, unless, nat_lt, accepts, cond-true)

        pub tells : (report : Option Told) → report ≡ report_for old to → Still (after_report session i to report)
        tells report is = elim (cases_lt to limits.players) [
          | inl low ↦ tells_to low report (report_to limits i wary to) refl
              (subst (λ (o : Option Told). others.AreTold limits.players limits.places to i o
              (report_to limits i wary to)) (sym is) (telling.told limits i old wary shown to low))
          | inr past ↦ subst (λ (o : Option Told). Still (after_report session i to o))
              (sym (is ∙ none_past past)) game
        ]

      -- whom it has given up is one whom it knows the other to have given up
      known_gone : (to player : ℕ) (given : Option Told) (told : Option Report)
          → others.AreTold limits.players limits.places i to given told → player < limits.players
          → told_gone given player ≡ true → relaying.told_gone told player ≡ true
      known_gone to player given told is below h = grind arith

      -- a command that is told may be given to another
      pub relays : (player to tic : ℕ) (command : TicCmd) → player < limits.players → to < limits.players
          → player ≢ to → MayRelay old to → command_told old.lockstep player tic ≡ Some command
          → IsFair (packet_of_one player to tic command)
          → Still (after_relays session (packet_of_one player to tic command ∷ []))
      relays player to tic command its there apart may told fair =
          let has = tells_held limits i old.lockstep me shown.node player tic command told in
          let same : relayed me player to tic ≡ packet_of_one player to tic command =
          ap (packet_of_one player to tic) (sym has.2) in
          let can : relaying.CanRelay limits.players game.last i player to tic =
          record {
            can = record { giver = mine; maker = its; receiver = there; apart = apart; has = has.1 };
            open_to = sym (shown.others.given_up to there) ∙ may.stays;
            within = λ p gone.
                let below : p < limits.players = peer_below p gone in
                known_gone to p _ _ (shown.others.told to there) below
                (may.within p (omega (arith, below, shown.few)) (shown.others.given_up p below ∙ gone));
          } in
          record {
            window = game.window;
            events = game.events ++ relaying.Relay i player to tic ∷ [];
            last = record game.last { game = with_relayed game.last.game i player to tic };
            runs = goes_on_by rules settings game.events (relaying.Relay i player to tic) (opening_remaining settings)
                game.last _ game.runs (can, refl);
            nodes = game.nodes;
            inputs = game.inputs;
            packets = ap (λ (fs : List Flight). fs ++ relayed me player to tic ∷ []) game.packets
                ∙ ap (λ (f : Flight). session.packets ++ f ∷ []) same;
            reports = game.reports;
            rows = game.rows;
            fair = fair_on session.packets game.fair (Some (packet_of_one player to tic command)) fair;
            going = game.going;
          }
        where
          peer_below : (p : ℕ) → game.last.gone i p ≡ true → p < limits.players
          peer_below p gone = grind (arith, cases_lt, le-ltb)

    -- a packet that was given
    module _ (which : ℕ) (packet : Flight) (at : slice_get session.packets which ≡ Some packet) where
      abbrev there_now : Surviving
      there_now = session.survivors packet.to

      abbrev its : machine.Node
      its = node packet.to

      pub given_there : slice_get game.last.game.flights which ≡ Some packet
      given_there = ap (λ (fs : List Flight). slice_get fs which) game.packets ∙ at

      pub told_there : IsTold limits.players (now_of game.last.game game.last.gone ∷ known.0) packet
      told_there = known.1.followed.follows.flights which packet given_there

      receiver : Represents limits packet.to there_now (wary_of game.last packet.to)
      receiver = game.nodes packet.to told_there.receiver

      receiver_made : made there_now.lockstep ≡ machine.made packet.to its
      receiver_made = grind (arith, receiver, got_is, told_there)

      -- comes as it was given
      module _ (new : Surviving) (heard : Heard) (near : is_near (made there_now.lockstep) packet ≡ true)
          (by : has_given_up there_now packet.from ≡ false
          → HearsNear packet.from (bytes_of packet) there_now.lockstep new.lockstep heard) where
        accepted_there : refused_flight game.last.game (Some packet) ≡ None
        accepted_there = grind (arith, receiver_made)

        pub heard_there : has_given_up there_now packet.from ≡ false
            → IsAfter limits packet.to new.lockstep (on_packet limits packet.to its packet)
            (λ answer. heard ≡ answer)
        heard_there free =
            let r = receiver.node in
            let told = told_there in
            let steps = by free packet (game.fair which packet at) refl refl
            (omega (arith, told.sender, r.whose.players)) (λ e. told.apart (e ∙ r.whose.number)) near in
            steps.step limits packet.to its r

        delivers : after_event rules game.last (Deliver which)
            ≡ record {
              nodes = put node packet.to (on_packet limits packet.to its packet).0;
              stopped = game.last.game.stopped;
              flights = game.last.game.flights;
            }
        delivers =
            by_event packet.to told_there.receiver (Deliver which)
            (ap (refused_flight game.last.game) given_there ∙ accepted_there)
            ∙ ap (λ (o : Option Flight). (delivered rules game.last.game o).0) given_there

        pub hears : (has_given_up there_now packet.from ≡ true → heard ≡ Heard.Dropped drops.given_up)
            → Spares there_now new heard → new.others ≡ there_now.others
            → Still (with_survivor session packet.to new)
        hears barred spares same = elim (cases_Bool (has_given_up there_now packet.from)) [
          | inl given ↦ keeps packet.to new (spares 15 (barred given))
          | inr free ↦
              moves packet.to told_there.receiver (Deliver which) (on_packet limits packet.to its packet).0
              new (ap (is_barred_flight game.last) given_there ∙ free_of packet.to told_there.receiver
              packet.from free) delivers (steps.stepped limits packet.to there_now new
              (wary_of game.last packet.to) _ receiver (heard_there free).node same)
              (hear_quiet limits packet.to its packet)
        ]

    -- a report that was given, and comes as it was given
    module _ (which : ℕ) (given : Given) (at : slice_get session.reports which ≡ Some given) where
      pub told_at : (t : Telling) × (slice_get game.last.reports which ≡ Some t) × IsTelling limits given t
      told_at = telling_at limits session.reports game.last.reports game.reports which given at

      abbrev pub holder : Report
      holder = told_at.0.report

      pub there_at : slice_get game.last.reports which
          ≡ Some (record { from = given.from; to = given.to; report = holder })
      there_at = grind (arith, told_at)

      pub to_one : (given.to < limits.players) × (holder.gone given.to ≡ false)
      to_one = known.1.told which (record { from = given.from; to = given.to; report = holder }) there_at

      module _ (new : Surviving) (answer : Reported)
          (by : HearsReport given.from given.report (session.survivors given.to) new answer) where
        pub reported : Represents limits given.to new
            (on_report limits given.to (wary_of game.last given.to) given.from holder).0
            × (answer ≡ reported_is (on_report limits given.to (wary_of game.last given.to) given.from holder).1)
        reported =
            waries.heard limits given.to (session.survivors given.to) new (wary_of game.last given.to)
            (game.nodes given.to to_one.0) given.from given.report holder answer told_at.2.sender told_at.2.apart
            told_at.2.tells
            (λ phase can. told_can rules settings game.window game.events game.last game.runs which
            (record { from = given.from; to = given.to; report = holder }) there_at phase can) by

        pub reports : Still (with_survivor session given.to new)
        reports =
            becomes given.to to_one.0 (Hear which) (on_report limits given.to (wary_of game.last given.to)
            given.from holder).0 new (sym (ap (after_hearing limits game.last) there_at ∙ ap
            (λ (o : Option Refusal). unless o game.last (with_wary game.last given.to
            (on_report limits given.to (wary_of game.last given.to) given.from holder).0))
            (accepts given.to to_one.0))) reported.0 (report_quiet limits given.to (wary_of game.last given.to)
            given.from holder)
