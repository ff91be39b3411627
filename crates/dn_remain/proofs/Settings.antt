-- The key player's settings are everybody's, after every list of events.
use Rattle.std.proofs.Common.{◌≡◌, ℕ, refl, ap, arith, Bool, ℤ, true, Option, Some, false, if◌then◌else◌}
use Rattle.std.proofs.{Common.{None, slice_get}, lemmas.{Bool.{cond_both, true≢false}, Option.none-some}}
use Rattle.dn_setup.specs.Settings.{Settings}
use Rattle.dn_tic.specs.declared.input.Input.{Input, TheVariants.{Pressed, Given}}
use Rattle.dn_machine.specs.declared.answers.{Heard.Heard, Phase.{Phase, TheVariants.{Gathering, Playing, Listening}}}
use Rattle.dn_machine.specs.declared.events.Event.{Event, TheVariants.{Build, Give, Send, Deliver, Run, Quit, Stop}}
use Rattle.dn_machine.specs.{Flight.{SetUp, Flight}, Limits.Limits, Node.Node, Hearing.on_packet, Running.on_quit}
use Rattle.dn_machine.specs.{Sending.{on_build, set_up_flight, on_send}, Sparing.on_run_but, Worlds.Rules}
use Rattle.dn_machine.specs.Game.{own_marks, posted, refused, delivered, on_event, with_node, Game, opening_game}
use Rattle.dn_machine.proofs.{Calls.{build_cases, send_cases, quit_cases, packet_cases}, Put.slice_get_push}
use Rattle.dn_remain.proofs.{Each.run_but_cases, Each.IsNoRun, Each.each_event, Each.each_remain, Each.news_cases, Each.give_up_cases, Each.report_cases, Vanished.Put.at_put}
use Rattle.dn_remain.specs.{Wary.Report, Wary.settled, Wary.noted_gone, Vanished.Commands.on_decision, Remaining.Remaining, Remaining.wary_of, Remaining.NextRemain, declared.events.RemainEvent.RemainEvent, Wary.Wary}
use Rattle.dn_remain.specs.{Wary.report_of, Wary.or_fresh, Wary.after_news, Wary.with_gone, Wary.with_report, Wary.on_give_up, Wary.on_report}

-- Every node that has started has the key player's settings, whoever was given up.

-- who gathers, or has started, has these settings; and who plays has started
pub record IsSet (settings : Settings) (node : Node) : Type 0 where
  pub gathers : node.phase ≡ Gathering → node.settings ≡ Some settings
  pub played : node.played ≡ true → node.settings ≡ Some settings
  pub plays : node.phase ≡ Playing → node.played ≡ true

-- a set-up packet carries them
abbrev pub Carries : Settings → Flight → Type 0
Carries settings flight = (s : Settings) → flight.kind ≡ SetUp s → s ≡ settings

-- with another phase, that is not Gathering
ended_set : (settings : Settings) (node new : Node) → IsSet settings node → new.settings ≡ node.settings
    → new.played ≡ node.played → (new.phase ≡ Gathering → node.phase ≡ Gathering)
    → (new.phase ≡ Playing → node.phase ≡ Playing) → IsSet settings new
ended_set settings node new h s p e f = grind arith

-- a node that starts
started_set : (settings : Settings) (new : Node) → new.settings ≡ Some settings → new.played ≡ true → IsSet settings new
started_set settings new s p = record { gathers = λ g. s; played = λ t. s; plays = λ g. p }

module _ (settings : Settings) (limits : Limits) (me : ℕ) (node : Node) (h : IsSet settings node) where
  pub set_build : (input : Input) → IsSet settings (on_build limits me node input).0
  set_build input = build_cases limits me node (λ (n : Node). IsSet settings n) input (λ full. h)
      (λ plays room. ended_set settings node _ h refl refl (λ g. g) (λ g. g))

  pub set_run : (but : ℕ → Bool) (marks : ℕ → ℤ) → IsSet settings (on_run_but limits but node marks).0
  set_run but marks = run_but_cases limits me but node marks (λ (n : Node). IsSet settings n) (λ waits. h)
      (λ player plays ready off. ended_set settings node _ h refl refl (λ g. absurd (cc)) (λ g. absurd (cc)))
      (λ plays ready full. ended_set settings node _ h refl refl (λ g. absurd (cc)) (λ g. absurd (cc)))
      (λ plays ready room. ended_set settings node _ h refl refl (λ g. g) (λ g. g))

  pub set_quit : IsSet settings (on_quit node).0
  set_quit = quit_cases limits me node (λ (n : Node). IsSet settings n) h
      (λ on. ended_set settings node _ h refl refl (λ g. absurd (cc)) (λ g. absurd (cc)))

  pub set_sent : (to : ℕ) → IsSet settings (on_send limits me node to).0
      × ((flight : Flight) → (on_send limits me node to).1 ≡ Some flight → Carries settings flight)
  set_sent to = send_cases limits me node
      (λ (r : Node × Option Flight). IsSet settings r.0 × ((flight : Flight) → r.1 ≡ Some flight → Carries settings flight)) to
      (h, λ flight e. absurd (none-some flight e))
      (λ other g. (h, λ flight e. carried node.settings (h.gathers g) flight e))
      (λ other plays. (ended_set settings node _ h refl refl (λ g. g) (λ g. g), λ flight e s k. absurd (cc)))
      (λ other left. (ended_set settings node _ h refl refl (λ g. g) (λ g. g), λ flight e s k. absurd (grind arith)))
    where
      carried : (o : Option Settings) → o ≡ Some settings → (flight : Flight) → set_up_flight me to o ≡ Some flight
          → Carries settings flight
      carried o is flight e s k = grind arith

  pub set_hears : (flight : Flight) → Carries settings flight → IsSet settings (on_packet limits me node flight).0
  set_hears flight carries = packet_cases limits me node flight (λ (r : Node × Heard). IsSet settings r.0) (record {
    dropped = λ number why. h;
    starts = λ s listens kind. started_set settings _ (ap (λ (i : Settings). Some i) (carries s kind)) refl;
    completes = λ word g all. started_set settings _ (h.gathers g) refl;
    notes = λ word g some. ended_set settings node _ h refl refl (λ e. e) (λ e. e);
    commands = grind (arith, ended_set);
    requests = λ ended. ended_set settings node _ h refl refl (λ g. g) (λ g. g);
  })

  pub set_noted : (player : ℕ) (phase : Phase) → node.phase ≡ phase → IsSet settings (noted_gone limits node player phase)
  set_noted player phase e = grind (arith, cond_both, started_set, ended_set)

  pub set_settled : (gone : ℕ → Bool) (decided : Report) → IsSet settings (settled node gone decided)
  set_settled gone decided = ended_set settings node _ h refl refl (λ g. g) (λ g. g)

module _ (settings : Settings) where
  -- every node, and every packet that was sent
  pub record AreSet (game : Game) : Type 0 where
    pub nodes : (q : ℕ) → IsSet settings (game.nodes q)
    pub flights : (which : ℕ) (flight : Flight) → slice_get game.flights which ≡ Some flight → Carries settings flight

  put_set : (game : Game) → AreSet game → (q : ℕ) (new : Node) → IsSet settings new → AreSet (with_node game q new)
  put_set game a q new h = grind (arith, at_put)

  pub post_set : (game : Game) → AreSet game → (o : Option Flight)
      → ((flight : Flight) → o ≡ Some flight → Carries settings flight) → AreSet (posted game o).0
  post_set game a o h = grind (arith, slice_get_push, Carries)

  module _ (limits : Limits) (me : ℕ) (wary : Wary) (h : IsSet settings wary.node) where
    set_news : IsSet settings (after_news limits me wary).node
    set_news = news_cases limits me wary (λ (w : Wary). IsSet settings w.node) h
        (λ can. set_settled settings limits me wary.node h wary.gone
        (on_decision limits.players me (report_of wary) (λ player. or_fresh (wary.newest player))))

  module _ (limits : Limits) (me : ℕ) (wary : Wary) (h : IsSet settings wary.node) where
    set_give_up : (player : ℕ) → IsSet settings (on_give_up limits me wary player).0.node
    set_give_up player = give_up_cases limits me wary (λ (w : Wary). IsSet settings w.node) player h
        (λ phase low apart new. set_news limits me (with_gone limits wary player)
        (set_noted settings limits me wary.node h player wary.node.phase refl))

    set_report : (from : ℕ) (report : Report) → IsSet settings (on_report limits me wary from report).0.node
    set_report from report = report_cases limits me wary (λ (w : Wary). IsSet settings w.node) from report h
        (λ phase here there newer. set_news limits me (with_report wary from report) h)

  opened : (b : Bool) → (if b then Gathering else Listening) ≡ Gathering
      → (if b then Some settings else None) ≡ Some settings
  opened true e = refl
  opened false e = absurd (cc)

  not_playing : (b : Bool) → (if b then Gathering else Listening) ≡ Playing → ⊥
  not_playing true e = absurd (cc)
  not_playing false e = absurd (cc)

  module _ {S : Type 0} (rules : Rules S) where
    happens : (game : Game) → AreSet game → (event : Event) → refused rules.players game event ≡ None → IsNoRun event
        → AreSet (on_event rules game event).0
    happens game a (Build node keys) none n = put_set game a node _
        (set_build settings rules.limits node (game.nodes node) (a.nodes node) (Pressed keys))
    happens game a (Give node command) none n = put_set game a node _
        (set_build settings rules.limits node (game.nodes node) (a.nodes node) (Given command))
    happens game a (Send node to) none n = grind (arith, set_sent, post_set, with_node, on_send, put_set)
    happens game a (Deliver which) none n = delivers (slice_get game.flights which) refl
      where
        delivers : (o : Option Flight) → slice_get game.flights which ≡ o → AreSet (delivered rules game o).0
        delivers None e = a
        delivers (Some flight) e = put_set game a flight.to _ (set_hears settings rules.limits flight.to
            (game.nodes flight.to) (a.nodes flight.to) flight (a.flights which flight e))
    happens game a (Run node) none n = absurd n
    happens game a (Quit node) none n = put_set game a node _
        (set_quit settings rules.limits node (game.nodes node) (a.nodes node))
    happens game a (Stop node) none n = record { nodes = a.nodes; flights = a.flights }

    pub by_event : (all next : Remaining) → AreSet all.game → (event : RemainEvent) → NextRemain rules all event next
        → AreSet next.game
    by_event all next a event = each_remain rules all (λ r. AreSet r.game) a
        (λ event goes. each_event rules all (λ event g. AreSet g) (λ event. a) (happens all.game a)
        (λ node none. put_set all.game a node _ (set_run settings rules.limits node (all.game.nodes node)
        (a.nodes node) (all.gone node) (own_marks rules (all.game.nodes node)))) event)
        (λ node player none. put_set all.game a node _
        (set_give_up rules.limits node (wary_of all node) (a.nodes node) player))
        (λ node to low report is. a)
        (λ which t e none. put_set all.game a t.to _
        (set_report rules.limits t.to (wary_of all t.to) (a.nodes t.to) t.from t.report)) event next

    pub opens : AreSet (opening_game settings)
    unfolding opening_game
    opens = grind (arith, opened, true≢false, not_playing, none-some)
