-- In every game an end that was told past a gap is that of one who has left, and what a give-up or a report
-- lets a node decide can be taken.
use Rattle.std.proofs.Common.{◌≡◌, ◌≢◌, ℕ, ℤ, ◌+◌, ◌<◌, ◌≤◌, refl, sym, ap, subst, ◌∙◌, arith, inl, inr, List, ◌∷◌, length, take, negsuc, [], ◌||◌, true, false, Option, Some, None, slice_get, ◌⊎◌, Bool, option_map}
use Rattle.std.proofs.lemmas.Bool.{and_parts, both_ways, cases_lt, ne_eqb, cond_both, cond-true, cases_Bool}
use Rattle.std.proofs.lemmas.{Int.ints, List.{get_or_default, length-append, Folds.list_any-append}}
use Rattle.std.proofs.lemmas.Option.{none-some, same_Some}
use Rattle.std.specs.List.{list_any}
use Rattle.dn_tic.specs.{declared.command.TicCmd.TicCmd, Inputs.made_by, declared.input.Input.Input, declared.input.Input.TheVariants.Pressed, declared.input.Input.TheVariants.Given}
use Rattle.dn_tic.proofs.Making.{made_by-forward}
use Rattle.dn_setup.specs.Settings.{Settings}
use Rattle.dn_machine.specs.{Limits.{IsWindow, Limits}, Worlds.Rules, Promise.IsPrefixOf, Sending.{on_build, on_send}}
use Rattle.dn_machine.specs.{Node.{blank, ends_of, got, has_left, made, own_mark, ran, Node, put}, Flight.Flight}
use Rattle.dn_machine.specs.declared.{answers.{Heard.Heard, Phase.Phase}, peer.Peer.Peer, events.Event.Event}
use Rattle.dn_machine.specs.declared.events.Event.TheVariants.{Build, Give, Send, Deliver, Run, Quit, Stop}
use Rattle.dn_machine.specs.{Hearing.on_packet, Running.on_quit, Sparing.on_run_but}
use Rattle.dn_machine.specs.Game.{Game, own_marks, posted, delivered, on_event, opening_game}
use Rattle.dn_machine.proofs.Put.{put_at, put_off, view_kept}
use Rattle.dn_machine.proofs.Calls.{build_cases, packet_cases, quit_cases, send_cases}
use Rattle.dn_remain.specs.{Vanished.Calls.every, Vanished.Calls.is_heard, Vanished.Calls.is_report, Vanished.Calls.is_within_at, Vanished.Commands.Holder, Vanished.Commands.seen, Vanished.Commands.past_seen}
use Rattle.dn_remain.specs.{Wary.end_seen, Wary.now_of, Wary.reached, Promise.CanBeTaken, Promise.commands_decided, Wary.Report, Wary.Wary, Wary.can_settle, Wary.newest_seen, Wary.report_of}
use Rattle.dn_remain.specs.{Remaining.Remaining, Remaining.wary_of, Remaining.with_wary, Remaining.Telling, Relaying.RelayEvent, Relaying.RunsRelayed, Wary.is_in_game, Wary.with_gone, Wary.with_report}
use Rattle.dn_remain.specs.{Wary.after_news, Wary.noted_gone, Wary.on_give_up, Wary.on_report, Vanished.Commands.Had, Remaining.NextRemain, Relaying.NextRelayed, Relaying.LeadsRelayed}
use Rattle.dn_remain.specs.{declared.events.RemainEvent.RemainEvent, Remaining.after_run, Remaining.is_barred, Remaining.is_barred_flight, Remaining.opening_remaining}
use Rattle.dn_remain.proofs.{Vanished.Always.always, Vanished.Windows.fits, Vanished.Handing.handed, Vanished.Handing.was_seen, Vanished.Invariant.IsKept, Vanished.Tests.every_at, Followed.IsFollowed}
use Rattle.dn_remain.proofs.{Followed.AreFollowed, Marked.IsMarked, Followed.there, Taken.taken_of, Seeing.length_rows, Seeing.reached_none, Seeing.reached_some, News.gives, News.here, News.keeps, News.noted}
use Rattle.dn_remain.proofs.{Relayed.reached_by, Each.run_but_cases, Each.give_up_cases, Each.news_cases, Each.report_cases, Vanished.Invariant.IsLater, Reached.IsReached, Each.IsNoRun, Followed.anchored}
use Rattle.dn_remain.proofs.{Each.{each_event, each_remain}, Vanished.Put.at_put}
use Rattle.dn_lockstep.specs.{Tables.is_stop, Settling.is_other_end}
use Rattle.dn_lockstep.proofs.Keeping.{none_stops}
use Rattle.dn_survivor.specs.{OfOthers.AreWithin, Represents.{CanTake, CanTakeAll}}
use Rattle.dn_survivor.proofs.Waries.{news_gone}
use Rattle.dn_machine.specs.Node as machine
use Rattle.dn_remain.specs.Vanished.Node as counted
use Rattle.dn_remain.proofs.Known
use Rattle.dn_remain.specs.Relaying as relaying
use Rattle.dn_remain.proofs.Relayed as relayed
use Rattle.dn_remain.proofs.Reached

-- In every game an end that was told past a gap is that of one who has left.

-- Of one who is given up no call tells another end, but a decision.

-- the end that is known of each of these is as it was, or lies behind all commands of the player that are there
abbrev IsFrozen : (ℕ → Bool) → Node → Node → Type 0
IsFrozen gone old new = (p : ℕ) → gone p ≡ true
    → (ends_of new p ≡ ends_of old p) ⊎ (ends_of new p ≡ Some (got new p))

module _ (limits : Limits) (me : ℕ) (gone : ℕ → Bool) (node : Node) where
  frozen_sent : (to : ℕ) → IsFrozen gone node (on_send limits me node to).0
  frozen_sent to = send_cases limits me node (λ (x : Node × Option Flight). IsFrozen gone node x.0) to
      (λ p g. inl refl)
      (λ other gathers p g. inl refl)
      (λ other plays p g. inl (ap (λ (ends : ℕ → Option ℕ). ends p)
      (view_kept (λ (x : Peer). x.end) node.peers to _ refl)))
      (λ other left p g. inl (ap (λ (ends : ℕ → Option ℕ). ends p)
      (view_kept (λ (x : Peer). x.end) node.peers to _ refl)))

  frozen_quit : IsFrozen gone node (on_quit node).0
  frozen_quit = quit_cases limits me node (λ (n : Node). IsFrozen gone node n) (λ p g. inl refl)
      (λ on p g. inl refl)

  frozen_built : (input : Input) → IsFrozen gone node (on_build limits me node input).0
  frozen_built input = build_cases limits me node (λ (n : Node). IsFrozen gone node n) input (λ same p g. inl refl)
      (λ plays room p g. inl refl)

  frozen_ran : (set : ℕ → Bool) (marks : ℕ → ℤ) → IsFrozen gone node (on_run_but limits set node marks).0
  frozen_ran set marks = run_but_cases limits me set node marks (λ (n : Node). IsFrozen gone node n)
      (λ same p g. inl refl) (λ player plays nobody off p g. inl refl) (λ plays nobody full p g. inl refl)
      (λ plays nobody room p g. inl refl)

  -- nothing of one who is given up is heard
  frozen_heard : (flight : Flight) → gone flight.from ≡ false
      → IsFrozen gone node (on_packet limits me node flight).0
  frozen_heard flight open_from = packet_cases limits me node flight
      (λ (x : Node × Heard). IsFrozen gone node x.0) (record {
        dropped = λ number why p g. inl refl;
        starts = λ s listens kind p g. inl refl;
        completes = λ word g all p given. inl refl;
        notes = λ word g some p given. inl refl;
        commands = grind (arith, put_off);
        requests = λ ended p g. inl (ap (λ (x : Peer). x.end) (put_off node.peers flight.from p _ (another p g)));
      })
    where
      another : (p : ℕ) → gone p ≡ true → p ≢ flight.from
      another p g e = both_ways (gone p) (ap gone e ∙ open_from) g

-- to need to hear no more of one tells no end
noted_peers : (limits : Limits) (node : Node) (player : ℕ) (phase : Phase)
    → (noted_gone limits node player phase).peers ≡ node.peers
noted_peers limits node player phase = grind (arith, cond_both)

module _ (limits : Limits) (me : ℕ) (wary : Wary) where
  frozen_news : IsFrozen wary.gone wary.node (after_news limits me wary).node
  frozen_news = grind (arith, news_cases, cond-true)

-- and nothing else tells one
frozen_after : (limits : Limits) (me : ℕ) (wary : Wary) (old : Node)
    → ((p : ℕ) → ends_of wary.node p ≡ ends_of old p)
    → IsFrozen (after_news limits me wary).gone old (after_news limits me wary).node
frozen_after limits me wary old same p g = grind (arith, frozen_news, news_gone)

module _ (limits : Limits) (me : ℕ) (wary : Wary) where
  frozen_report : (from : ℕ) (report : Report) → IsFrozen (on_report limits me wary from report).0.gone wary.node
      (on_report limits me wary from report).0.node
  frozen_report from report = report_cases limits me wary (λ (w : Wary). IsFrozen w.gone wary.node w.node) from
      report (λ p g. inl refl)
      (λ phase here there newer. frozen_after limits me (with_report wary from report) wary.node (λ p. refl))

  frozen_give_up : (player : ℕ)
      → IsFrozen (on_give_up limits me wary player).0.gone wary.node (on_give_up limits me wary player).0.node
  frozen_give_up player = give_up_cases limits me wary (λ (w : Wary). IsFrozen w.gone wary.node w.node) player
      (λ p g. inl refl)
      (λ phase low apart new. frozen_after limits me (with_gone limits wary player) wary.node
      (λ p. ap (λ (ps : ℕ → Peer). (ps p).end) (noted_peers limits wary.node player wary.node.phase)))

-- an end past a gap is that of one who has left, and lies behind all that it made
abbrev AreEnded : Remaining → Type 0
AreEnded all = (q p e : ℕ) → ends_of (all.game.nodes q) p ≡ Some e → got (all.game.nodes q) p < e
    → (has_left (all.game.nodes p) ≡ true) × (e ≡ made p (all.game.nodes p))

-- of those whom each node has given up no end is told anew
abbrev AreFrozen : (ℕ → ℕ → Bool) → Game → Game → Type 0
AreFrozen gone old new = (q : ℕ) → IsFrozen (gone q) (old.nodes q) (new.nodes q)

stays : (gone : ℕ → ℕ → Bool) (old new : Game) → new.nodes ≡ old.nodes → AreFrozen gone old new
stays gone old new same q p g = inl (ap (λ (nodes : ℕ → machine.Node). ends_of (nodes q) p) same)

-- one node is another
one : (gone : ℕ → ℕ → Bool) (old new : Game) (q : ℕ) (node : machine.Node) → new.nodes ≡ put old.nodes q node
    → IsFrozen (gone q) (old.nodes q) node → AreFrozen gone old new
one gone old new q node is frozen x = grind (arith, IsFrozen, at_put)

posted_nodes : (game : Game) (o : Option Flight) → (posted game o).0.nodes ≡ game.nodes
posted_nodes game o = grind arith

module _ {S : Type 0} (rules : Rules S) (all : Remaining) where
  delivers : (o : Option Flight) → is_barred_flight all o ≡ false
      → AreFrozen all.gone all.game (delivered rules all.game o).0
  delivers None free = stays all.gone all.game (delivered rules all.game None).0 refl
  delivers (Some flight) free = one all.gone all.game (delivered rules all.game (Some flight)).0 flight.to _ refl
      (frozen_heard rules.limits flight.to (all.gone flight.to) (all.game.nodes flight.to) flight free)

  happens : (event : Event) → IsNoRun event → is_barred all event ≡ false
      → AreFrozen all.gone all.game (on_event rules all.game event).0
  happens (Build node keys) n b = one all.gone all.game (on_event rules all.game (Build node keys)).0 node _ refl
      (frozen_built rules.limits node (all.gone node) (all.game.nodes node) (Pressed keys))
  happens (Give node command) n b = one all.gone all.game (on_event rules all.game (Give node command)).0 node _ refl
      (frozen_built rules.limits node (all.gone node) (all.game.nodes node) (Given command))
  happens (Send node to) n b = one all.gone all.game (on_event rules all.game (Send node to)).0 node _
      (posted_nodes _ _) (frozen_sent rules.limits node (all.gone node) (all.game.nodes node) to)
  happens (Deliver which) n b = delivers (slice_get all.game.flights which) b
  happens (Run node) n b = absurd n
  happens (Quit node) n b = one all.gone all.game (on_event rules all.game (Quit node)).0 node _ refl
      (frozen_quit rules.limits node (all.gone node) (all.game.nodes node))
  happens (Stop node) n b = stays all.gone all.game (on_event rules all.game (Stop node)).0 refl

  -- another node is put in the place of one, with whom it has given up
  placed : (q : ℕ) (wary : Wary) → IsFrozen wary.gone (all.game.nodes q) wary.node
      → AreFrozen (with_wary all q wary).gone all.game (with_wary all q wary).game
  placed q wary frozen = grind (arith, one, IsFrozen, put_at)

  abbrev Goes : Remaining → Type 0
  Goes next = AreFrozen next.gone all.game next.game

  frozen_on : (event : RemainEvent) (next : Remaining) → NextRemain rules all event next → Goes next
  frozen_on = each_remain rules all Goes (stays all.gone all.game all.game refl)
      (λ event goes. each_event rules all (λ event g. is_barred all event ≡ false → AreFrozen all.gone all.game g)
      (λ event b. stays all.gone all.game all.game refl) (λ event none n b. happens event n b)
      (λ node none b. one all.gone all.game (after_run rules all node None) node _ refl
      (frozen_ran rules.limits node (all.gone node) (all.game.nodes node) (all.gone node)
      (own_marks rules (all.game.nodes node)))) event goes)
      (λ node player none. placed node (on_give_up rules.limits node (wary_of all node) player).0
      (frozen_give_up rules.limits node (wary_of all node) player))
      (λ node to low report is. stays all.gone all.game all.game refl)
      (λ which t e none. placed t.to (on_report rules.limits t.to (wary_of all t.to) t.from t.report).0
      (frozen_report rules.limits t.to (wary_of all t.to) t.from t.report))

  -- so what is known of the ends is known after each event
  module _ (older : List (ℕ → Holder TicCmd)) (h : IsFollowed Known.known rules all older)
      (ended : AreEnded all) (event : RemainEvent) (next : Remaining) (step : NextRemain rules all event next) where
    later : AreFollowed (Had (now_of all.game all.gone ∷ older)) rules next
    later = Reached.followed_after (Had (now_of all.game all.gone ∷ older)) rules all older (record {
      follows = anchored Known.known rules all older h;
      newest = h.newest;
      reports = h.reports;
    }) event next step

    all_kept : IsKept rules.players (past_seen (now_of next.game next.gone ∷ later.0))
    all_kept = always rules.players rules.ahead (past_seen (now_of next.game next.gone ∷ later.0)) later.1.follows.run

    order : (x : ℕ) → IsLater rules.players
        (past_seen (now_of next.game next.gone ∷ later.0)) x (seen (now_of all.game all.gone x))
        (seen (now_of next.game next.gone x))
    order x = all_kept.order x (seen (now_of all.game all.gone x)) (was_seen (now_of next.game next.gone ∷ later.0) x
        (now_of all.game all.gone x) (later.1.follows.knows x (now_of all.game all.gone x) (inl refl)))

    -- who has left stays so, and makes nothing
    left_still : (p e : ℕ) → (has_left (all.game.nodes p) ≡ true) × (e ≡ made p (all.game.nodes p))
        → (has_left (next.game.nodes p) ≡ true) × (e ≡ made p (next.game.nodes p))
    left_still p e k =
        let same = (order p).left k.0 in (
          ap (λ (n : counted.Node). n.left) same ∙ k.0,
          k.1 ∙ sym (ap (λ (n : counted.Node). n.got p) same),
        )

    pub ended_on : AreEnded next
    ended_on q p e is past = elim (cases_Bool (next.gone q p)) [
      | inr free ↦ let end = later.1.follows.ends q p e is free in (end.1, end.3)
      | inl given ↦ elim (frozen_on event next step q p given) [
        | inr new ↦ absurd (let k = same_Some e (got (next.game.nodes q) p) (sym is ∙ new) in omega (arith, k, past))
        | inl same ↦ left_still p e (elim (cases_Bool (all.gone q p)) [
          | inr free ↦
              let end = h.follows.ends q p e (sym same ∙ is) free in
              (end.1, end.3)
          | inl before ↦
              let less : got (all.game.nodes q) p ≤ got (next.game.nodes q) p = (order q).got p in
              ended q p e (sym same ∙ is) (omega (arith, less, past))
        ])
      ]
    ]

module _ {S : Type 0} (rules : Rules S) (settings : Settings) where
  nobody : AreEnded (opening_remaining settings)
  unfolding opening_remaining opening_game
  nobody q p e is past = absurd (none-some e is)

  leads : (events : List RelayEvent) (all last : Remaining)
      → (older : List (ℕ → Holder TicCmd)) × IsReached rules settings all older
      → AreEnded all → LeadsRelayed rules all events last → AreEnded last
  leads [] all last h ended same = subst AreEnded (sym same) ended
  leads (event ∷ events) all last h ended way = leads events way.0 last
      (relayed.one rules settings all way.0 h.0 event h.1 way.1) (goes event way.0 way.1) way.2
    where
      goes : (event : RelayEvent) (next : Remaining) → NextRelayed rules all event next → AreEnded next
      goes (relaying.Own event) next step = ended_on rules all h.0 h.1.followed ended event next step
      goes (relaying.Relay node player to tic) next step = subst AreEnded (sym step.1) ended

  ended_by : (events : List RelayEvent) (all : Remaining) → RunsRelayed rules settings events all → AreEnded all
  ended_by events all run = leads events (opening_remaining settings) all
      (relayed.reached_by rules settings [] (opening_remaining settings) refl) nobody run

-- In every game what is decided can be taken by a survivor.

-- of a list of which none would end a demo no front has one that would
front_fair : (xs ys : List TicCmd) → IsPrefixOf xs ys → list_any is_stop ys ≡ false → list_any is_stop xs ≡ false
front_fair xs ys h fair = grind (arith, list_any-append)

-- of a report that stands none of these are given up, whom the node has not given up
stands_open : (players : ℕ) (me other : ℕ) (node : counted.Node)
    (newest : ℕ → Option counted.Node) (report : counted.Node)
    → is_heard players me node newest other ≡ true → other ≢ me → node.gone other ≡ false
    → newest other ≡ Some report → me < players → node.gone me ≡ false → report.gone me ≡ false
stands_open players me other node newest report heard apart free is mine own =
    let off = ne_eqb other me apart in
    let stands : is_report players node.gone report ≡ true = sym (rw (off, free, is) refl) ∙ heard in
    let parts = and_parts (every players (is_within_at report.gone node.gone))
    (report.left || every players (is_within_at node.gone report.gone)) stands in
    let within = every_at players (is_within_at report.gone node.gone) me parts.0 mine in
    grind (arith, within, own)

module _ {S : Type 0} (rules : Rules S) (window : IsWindow rules.limits) (all : Remaining)
    (older : List (ℕ → Holder TicCmd)) (f : IsFollowed Known.known rules all older) (q : ℕ)
    (mine : q < rules.players) (here : has_left (all.game.nodes q) ≡ false)
    (can : can_settle rules.limits q (wary_of all q) ≡ true) (taken : CanBeTaken rules.limits all q)
    (ended : AreEnded all) (fair : (p : ℕ) → list_any is_stop ((all.game.nodes p).held p) ≡ false) where
  kept : IsKept rules.players (past_seen (now_of all.game all.gone ∷ older))
  kept = always rules.players rules.ahead (past_seen (now_of all.game all.gone ∷ older)) f.follows.run

  own : all.gone q q ≡ false
  own = (kept.sound q (seen (now_of all.game all.gone q)) (inl refl)).own

  module _ (p : ℕ) (low : p < rules.players) (given : all.gone q p ≡ true) where
    abbrev decided : List TicCmd
    decided = commands_decided rules.limits q (wary_of all q) p

    -- what the others told
    told : (other : ℕ) (report : Report) → other < rules.players → other ≢ q → all.gone q other ≡ false
        → all.newest q other ≡ Some report
        → IsPrefixOf (report.held p) ((all.game.nodes p).held p)
        × (length (report.held p) ≤ length ((all.game.nodes q).held p) + rules.limits.places)
    told other report inside apart free is =
        let had = f.newest q other report is in
        let heard = every_at rules.players (is_heard rules.players q (seen (report_of (wary_of all q)))
        (newest_seen (wary_of all q))) other can inside in
        let back : report.gone q ≡ false =
        stands_open rules.players q other (seen (report_of (wary_of all q))) (newest_seen (wary_of all q)) (seen report)
        heard apart free (ap (option_map seen) is) mine own in
        let near = (fits rules.players rules.ahead (past_seen (now_of all.game all.gone ∷ older)) f.follows.run).unheard
        q other p (seen report) mine inside low (λ e. apart (sym e)) here free
        (was_seen (now_of all.game all.gone ∷ older) other report had) back in (
          handed (now_of all.game all.gone ∷ older) f.follows.handed other p report had,
          let twice = window.twice in omega (arith, near, twice),
        )

    within : AreWithin rules.players rules.limits.places q p (report_of (wary_of all q)) (all.newest q)
        ((all.game.nodes p).held p)
    within = record {
      own = handed (now_of all.game all.gone ∷ older) f.follows.handed q p (now_of all.game all.gone q) (inl refl);
      told = told;
    }

    -- an end that is known
    same_end : (o : Option ℕ) → ends_of (all.game.nodes q) p ≡ o
        → is_other_end (ran (all.game.nodes q)) o (length decided) ≡ false
    same_end None is = refl
    same_end (Some k) is = elim (cases_lt (got (all.game.nodes q) p) k) [
      | inr near ↦
          let seen_end : end_seen (all.game.nodes q) p ≡ Some k =
          ap (reached (got (all.game.nodes q) p)) is ∙ reached_some (got (all.game.nodes q) p) k near in
          let same = taken.known p k given seen_end in
          grind (arith, same)
      | inl past ↦
          let last = (ended q p k is past).1 in
          let front = taken.made p given in
          let size = ap length front.1 ∙ refl in
          let long = length-append decided front.0 in
          let none : end_seen (all.game.nodes q) p ≡ None =
          ap (reached (got (all.game.nodes q) p)) is ∙ reached_none (got (all.game.nodes q) p) k past in
          let behind = (kept.sound q (seen (now_of all.game all.gone q)) (inl refl)).ahead p low none in
          let rows = length_rows (end_seen (all.game.nodes q)) (ran (all.game.nodes q)) in
          grind (arith, last, size, long, behind, rows, past)
    ]

    can_take : CanTake rules.limits q (wary_of all q) p
    can_take = grind (arith, within, front_fair, same_end)

  can_take_all : CanTakeAll rules.limits q (wary_of all q)
  can_take_all = can_take

-- nothing of what makes an end differs, where another node is put in the place of one that is in a game
module _ (all : Remaining) (q : ℕ) (wary : Wary) (peers : wary.node.peers ≡ (all.game.nodes q).peers)
    (held : wary.node.held ≡ (all.game.nodes q).held) where
  held_at_all : (x p : ℕ) → ((with_wary all q wary).game.nodes x).held p ≡ (all.game.nodes x).held p
  held_at_all x p = grind (arith, put_at, put_off)

  ends_at_all : (x p : ℕ) → ends_of ((with_wary all q wary).game.nodes x) p ≡ ends_of (all.game.nodes x) p
  ends_at_all x p = grind (arith, put_at, put_off)

  placed_ended : has_left (all.game.nodes q) ≡ false → AreEnded all → AreEnded (with_wary all q wary)
  placed_ended here ended x p e is past =
      let k = ended x p e (sym (ends_at_all x p) ∙ is)
      (subst (λ (cs : List TicCmd). length cs < e) (held_at_all x p) past) in
      grind (arith, both_ways, has_left, here, put_off, held_at_all)

  placed_fair : ((p : ℕ) → list_any is_stop ((all.game.nodes p).held p) ≡ false) → (p : ℕ)
      → list_any is_stop (((with_wary all q wary).game.nodes p).held p) ≡ false
  placed_fair fair p = ap (list_any is_stop) (held_at_all p p) ∙ fair p

-- no command that is made would end a demo
goes_on : (inputs : List Input) (mark : ℤ) → (made_by inputs mark).forward ≢ negsuc 127
goes_on inputs mark e = absurd (omega (arith, ints, made_by-forward inputs mark, e))

all_fair : {S : Type 0} (rules : Rules S) (settings : Settings) (me : ℕ) (node : machine.Node)
    → IsMarked rules settings me node → rules.ahead ≤ 12 → list_any is_stop (node.held me) ≡ false
all_fair rules settings me node marked back = none_stops (node.held me) (λ tic d low e.
    let own = get_or_default (node.held me) tic d blank low ∙ marked.own back tic low in
    goes_on (take (tic + 1) node.inputs) (own_mark node me tic) (sym (ap (λ (c : TicCmd). c.forward) own) ∙ e))

-- what a node that is put there decides can be taken
placed_can_take : {S : Type 0} (rules : Rules S) → IsWindow rules.limits → (all : Remaining) (q : ℕ) (wary : Wary)
    → wary.node.peers ≡ (all.game.nodes q).peers → wary.node.held ≡ (all.game.nodes q).held
    → AreFollowed Known.known rules (with_wary all q wary) → q < rules.players
    → has_left (all.game.nodes q) ≡ false → has_left wary.node ≡ false → can_settle rules.limits q wary ≡ true
    → AreEnded all → ((p : ℕ) → list_any is_stop ((all.game.nodes p).held p) ≡ false)
    → CanTakeAll rules.limits q wary
placed_can_take rules window all q wary peers held (older, f) mine here left can ended fair =
    subst (CanTakeAll rules.limits q) (there all q wary)
    (can_take_all rules window (with_wary all q wary) older f q mine
    (ap (λ (n : machine.Node). has_left n) (put_at all.game.nodes q q wary.node refl) ∙ left)
    (ap (λ (w : Wary). can_settle rules.limits q w) (there all q wary) ∙ can)
    (taken_of rules all q wary (older, f) mine left can)
    (placed_ended all q wary peers held here ended) (placed_fair all q wary peers held fair))

module _ {S : Type 0} (rules : Rules S) (settings : Settings) (window : IsWindow rules.limits)
    (events : List RelayEvent) (all : Remaining) (runs : RunsRelayed rules settings events all) where
  pub gone_can : (q player : ℕ) → q < rules.players → player < rules.players → player ≢ q
      → is_in_game (all.game.nodes q).phase ≡ true
      → can_settle rules.limits q (with_gone rules.limits (wary_of all q) player) ≡ true
      → CanTakeAll rules.limits q (with_gone rules.limits (wary_of all q) player)
  gone_can q player mine low apart phase can =
      let known = reached_by rules settings events all runs in
      let f = known.1.followed in
      let is = noted Known.known rules all known.0 f q mine phase player in
      placed_can_take rules window all q (with_gone rules.limits (wary_of all q) player) is.peers is.held
      (gives Known.known rules all known.0 f q mine phase player low apart) mine
      (here Known.known rules all known.0 f q mine phase) is.left can (ended_by rules settings events all runs)
      (λ p. all_fair rules settings p (all.game.nodes p) (known.1.marked p) window.back)

  pub told_can : (which : ℕ) (t : Telling) → slice_get all.reports which ≡ Some t
      → is_in_game (all.game.nodes t.to).phase ≡ true
      → can_settle rules.limits t.to (with_report (wary_of all t.to) t.from t.report) ≡ true
      → CanTakeAll rules.limits t.to (with_report (wary_of all t.to) t.from t.report)
  told_can which t at phase can =
      let known = reached_by rules settings events all runs in
      let f = known.1.followed in
      let mine = (known.1.told which t at).0 in
      let left = here Known.known rules all known.0 f t.to mine phase in
      placed_can_take rules window all t.to (with_report (wary_of all t.to) t.from t.report) refl refl
      (keeps Known.known rules all known.0 f t.to mine phase t.from t.report (f.reports which t at)) mine left
      left can (ended_by rules settings events all runs)
      (λ p. all_fair rules settings p (all.game.nodes p) (known.1.marked p) window.back)
