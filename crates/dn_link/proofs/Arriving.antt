-- What packets leave that ask for nothing, where there is no gap behind what was there of the maker of any.
use Rattle.std.proofs.Common.{◌≡◌, ◌≢◌, ◌<◌, ◌≤◌, ◌+◌, ◌-◌, ◌/◌, ◌⊎◌, ◌&&◌, ℕ, Bool, true, false, List, [], ◌∷◌, length, refl, ap, sym, ◌∙◌, subst, arith, Option, Some, None, All, inl, inr}
use Rattle.std.proofs.lemmas.{Bool.{and_right, cases_eq, ltb-true, not-false, true≢false}, List.Elements.{All-head, All-tail}}
use Rattle.std.specs.Prelude.{Ok, bit_and, max, nat_lt, not, slice_get, ◌==◌}
use Rattle.dn_packet.specs.Flags as flag
use Rattle.dn_packet.proofs.Texts.{length-commands}
use Rattle.dn_packet.specs.Text.{text}
use Rattle.dn_tic.specs.declared.command.Move.{Move}
use Rattle.dn_setup.specs.Settings.{Settings}
use Rattle.dn_machine.specs.{Flight.{Kind, SetUp, Play, Exit, Flight, packet_of, packet_of_kind, is_close, is_exit, is_request_close, distance, end_of, request_flag}, Hearing.on_packet, Limits.Limits}
use Rattle.dn_machine.specs.{declared.{answers.{Heard.Heard, Phase.{Phase, TheVariants.{Listening, Gathering, Playing, Ended}}}, peer.Peer.Peer}, Node.is_ended}
use Rattle.dn_machine.proofs.Put.{put_at, put_off}
use Rattle.dn_lockstep.specs.{Contents.Contents, Marking.Marking, Sent.{IsFair, bytes_of}, Phases.is_waiting, Represents.Represents, Told.got}
use Rattle.dn_remain.specs.{Remaining.heard_of, Wary.{now_of, reached}}
use Rattle.dn_remain.proofs.{Arriving.{below_made, end_is, made_it}, Known.IsTold, Seeing.reached_cases}
use Rattle.dn_survivor.specs.{OfOthers.has, OneGame.{AreRemaining, Session, with_survivor}, Surviving.Surviving, declared.others.Others.Others}
use Rattle.dn_lockstep.proofs.{OneGame.hear_quiet, Receiving.{told_by, told_is, near_received}}
use Rattle.dn_lockstep.proofs.Shown.{has as holds}
use Rattle.dn_seal.specs.declared.opened.Opened.{Opened}
use Rattle.dn_open.specs.{Arrivals.{HearsOpened, IsRead, SparesSealed, flag_in, heard, on_opened}, declared.hearing.Arrived.Arrived, Sealed.opened_of}
use Rattle.dn_open.proofs.Letters.{alike, flags_at, near_if}
use Rattle.dn_link.specs.{RemainingLinks.WasGiven, CaughtUp.{HasExit, told_end, next_to}, Counting.{has_of, with_end}, Hearing.HearsAll}
use Rattle.dn_link.proofs.{Growing.{HasAsMuch, as_much, has_is, much_on}, Hearer.{IsSpared, Leaves, settings_leave, word_leaves, word_reaches}, Letters.{AreWith, holding, packet_grows}, Makers.{HaveNoGaps, ends_of, then_end}}
use Rattle.dn_machine.specs.Node.{put}
use Rattle.dn_machine.specs.Node as machine
use Rattle.dn_survivor.proofs.OneGame as one_game
use Rattle.dn_survivor.proofs.Pairs

-- who has started, and has not ended, plays
plays_of : (phase : Phase) → is_waiting phase ≡ false → is_ended phase ≡ false → phase ≡ Playing
plays_of Listening started goes_on = absurd (cc)
plays_of Gathering started goes_on = absurd (cc)
plays_of Playing started goes_on = refl
plays_of (Ended cause) started goes_on = absurd (cc)

-- and has started still, if it plays on, or has ended before
started_on : (now next : Phase) → is_waiting now ≡ false → (now ≡ Playing → next ≡ Playing)
    → (is_ended next ≡ false → is_ended now ≡ false) → is_waiting next ≡ false
started_on now Listening started stays ended = ap is_waiting (stays (plays_of now started (ended refl)))
started_on now Gathering started stays ended = ap is_waiting (stays (plays_of now started (ended refl)))
started_on now Playing started stays ended = refl
started_on now (Ended cause) started stays ended = refl

-- where a packet ends, by its kind: settings have no command
settings_end : (flight : Flight) (settings : Settings) → flight.kind ≡ SetUp settings
    → told_end (opened_of flight) ≡ flight.start
settings_end flight settings is =
    let none : told_end (opened_of flight) ≡ flight.start + 0 =
    ap (λ (k : Kind). flight.start + (length (text (packet_of_kind flight k)) - 8) / 8) is in
    omega (arith, none)

play_end : (flight : Flight) → flight.kind ≡ Play → told_end (opened_of flight) ≡ end_of flight
play_end flight is =
    let long = length-commands flight.commands in
    ap (λ (k : Kind). flight.start + (length (text (packet_of_kind flight k)) - 8) / 8) is ∙ omega (arith, long)

exit_end : (flight : Flight) → flight.kind ≡ Exit → told_end (opened_of flight) ≡ end_of flight
exit_end flight is =
    let long = length-commands flight.commands in
    ap (λ (k : Kind). flight.start + (length (text (packet_of_kind flight k)) - 8) / 8) is ∙ omega (arith, long)

-- of settings or of words
by_kind : {A : Type 0} (flight : Flight) → ((settings : Settings) → flight.kind ≡ SetUp settings → A)
    → ((flight.kind ≡ Play) ⊎ (flight.kind ≡ Exit) → told_end (opened_of flight) ≡ end_of flight → A) → A
by_kind {A} flight settings words = go flight.kind refl
  where
    go : (kind : Kind) → flight.kind ≡ kind → A
    go (SetUp chosen) is = settings chosen is
    go Play is = words (inl is) (play_end flight is)
    go Exit is = words (inr is) (exit_end flight is)

-- it ends no later than its flight
pub no_later : (flight : Flight) → told_end (opened_of flight) ≤ end_of flight
no_later flight = by_kind flight (λ settings is. omega (arith, settings_end flight settings is)) (λ is same. omega (arith, same))

-- nor more than twelve past its start
pub short_of : (flight : Flight) → IsFair flight → told_end (opened_of flight) ≤ flight.start + 12
short_of flight fair =
    let size = length-commands (packet_of flight).cmds.items in
    let few = fair.packet.count in
    omega (arith, size, few)

-- by its flag it is an EXIT packet
exit_kind : (flight : Flight) → IsFair flight → flight.request ≡ None → flag_in (bytes_of flight) flag.exit ≡ true
    → flight.kind ≡ Exit
exit_kind flight fair silent is = go flight.kind refl
  where
    set : not (bit_and (packet_of flight).flags flag.exit == 0) ≡ true
    set = ap (λ (n : ℕ). not (bit_and n flag.exit == 0)) (sym (flags_at (packet_of flight) fair.packet.flags)) ∙ is

    go : (kind : Kind) → flight.kind ≡ kind → flight.kind ≡ Exit
    go (SetUp settings) e =
        absurd (true≢false (sym set ∙ ap (λ (k : Kind). not (bit_and (packet_of_kind flight k).flags flag.exit == 0)) e))
    go Play e =
        absurd (true≢false (sym set ∙ ap (λ (k : Kind). not (bit_and (packet_of_kind flight k).flags flag.exit == 0)) e
        ∙ ap (λ (r : Option ℕ). not (bit_and (0 + request_flag r) flag.exit == 0)) silent))
    go Exit e = e

-- a packet of which a playing node has every command, because it tells a tic that is far from those that the
-- node makes
module _ (marking : Marking) (limits : Limits) (settings : Settings) (session : Session)
    (game : AreRemaining marking limits settings session) (which : ℕ) (flight : Flight)
    (found : slice_get session.packets which ≡ Some flight) where
  abbrev q : ℕ
  q = flight.to

  abbrev n : machine.Node
  n = game.last.game.nodes q

  -- and it knows the end where that is an EXIT packet
  abbrev pub IsHad : machine.Node → Type 0
  IsHad m = (told_end (opened_of flight) ≤ length (m.held flight.from))
      × (flight.kind ≡ Exit → end_of flight + 1 ≤ with_end (length (m.held flight.from)) (machine.ends_of m flight.from))

  far_has : game.last.gone q flight.from ≡ false → n.phase ≡ Playing
      → is_close (machine.made q n) flight.start ≡ false → IsHad n
  far_has free plays far =
      let within = no_later flight in
      let few = short_of flight (game.fair which flight found) in
      let known = one_game.known marking limits settings game in
      let fits = Pairs.fits marking limits settings session game in
      let told = one_game.told_there marking limits settings game which flight found in
      let here : machine.has_left n ≡ false = and_right n.played (is_ended n.phase) (ap is_ended plays) in
      let sent = fits.sent which flight (one_game.given_there marking limits settings game which flight found) here in
      let ahead = fits.own q in
      let own = fits.run q q told.receiver
      (ap (λ (o : Option ℕ). reached (machine.got n q) o) (known.1.followed.follows.endless q)) in
      let back = game.window.back in
      let past = ltb-true 64 (distance flight.start (machine.made q n))
      (not-false (nat_lt 64 (distance flight.start (machine.made q n))) far) in
      let follows = known.1.followed.follows in
      let made = made_it follows told free in
      elim (reached_cases (machine.got n flight.from) (machine.ends_of n flight.from)) [
        | inl unknown ↦
            let run = fits.run q flight.from told.sender unknown.0 in (
              omega (arith, few, within, sent, own, ahead, back, past, run),
              (λ exit.
                  let end = (end_is follows told free (ap is_exit exit)).3 in
                  let most = below_made follows told free in
                  let same = exit_end flight exit in
                  absurd (omega (arith, few, same, sent, own, ahead, back, past, run, end, most))),
            )
        | inr is ↦
            let count = (follows.ends q flight.from is.0 is.1 free).3 in (
              omega (arith, within, made, count, is.3),
              (λ exit.
                  let known_end = ap (with_end (length (n.held flight.from))) is.1 in
                  omega (arith, known_end, made, count, is.3)),
            )
      ]

module _ (marking : Marking) (limits : Limits) (settings : Settings) (session : Session) (player : ℕ)
    (mine : player < limits.players) (rest : Others) (whole : (p : ℕ) → has rest.gone p ≡ false) where
  -- with this lockstep at the player the survivors are those of one game
  abbrev at : Contents → Session
  at now = with_survivor session player (holding marking limits settings session player rest now)

  abbrev pub AreHere : Contents → Type 0
  AreHere now = AreWith marking limits settings session player rest now

  -- a lockstep that wants nothing again
  abbrev pub WantsNone : Contents → Type 0
  WantsNone now = (p : ℕ) → p < limits.players → p ≢ player → (now.peers p).want ≡ false

  -- a packet that was given is a player's
  given_from : (now : Contents) → AreHere now → (packet : Opened)
      → WasGiven session.packets player packet → packet.from < limits.players
  given_from now game packet (which, flight, found, to, is) =
      let sender = (one_game.told_there marking limits settings game which flight found).sender in
      omega (arith, sender, ap (λ (p : Opened). p.from) is)

  -- what a packet leaves
  pub record Hears (now next : Contents) (packet : Opened) : Type 0 where
    pub sender : packet.from < limits.players
    pub apart : packet.from ≢ player
    pub game : AreHere next
    pub ended : is_ended next.phase ≡ false → is_ended now.phase ≡ false
    pub stays : now.phase ≡ Playing → next.phase ≡ Playing
    pub others : (p : ℕ) → p < limits.players → p ≢ packet.from → got next p ≡ got now p
    pub least : got now packet.from ≤ got next packet.from
    pub idle : now.phase ≢ Playing → got next packet.from ≡ got now packet.from
    pub sends : (p : ℕ) → p < limits.players → next_to next p ≡ next_to now p
    pub wants : WantsNone next
    pub ran : next.ran ≡ now.ran
    pub reach : now.phase ≡ Playing → told_end packet ≤ got next packet.from
    pub much : HasAsMuch player now next
    pub exit : now.phase ≡ Playing → flag_in packet.datagram.items flag.exit ≡ true
        → told_end packet + 1 ≤ has_of next packet.from

  one_hears : (packet : Opened) (now next : Contents) (answer : Arrived)
      → AreHere now → WasGiven session.packets player packet → packet.ask ≡ None
      → WantsNone now → (now.phase ≡ Playing → packet.start ≤ got now packet.from)
      → HearsOpened packet now next answer → SparesSealed now next answer → Hears now next packet
  one_hears packet now next answer game (which, flight, found, to, is) silent none low hears spares =
      subst (λ (p : Opened). Hears now next p) (sym is)
      (go (is_close (machine.made player m) flight.start && is_request_close (machine.made player m) flight.request) refl)
    where
      old : put session.survivors player (holding marking limits settings session player rest now) player
          ≡ holding marking limits settings session player rest now
      old = put_at session.survivors player player (holding marking limits settings session player rest now) refl

      m : machine.Node
      m = game.last.game.nodes player

      shows : Represents limits player now (game.last.game.nodes player)
      shows = subst (λ (s : Surviving). Represents limits player s.lockstep (game.last.game.nodes player)) old
          (game.nodes player mine).node

      told : IsTold limits.players (now_of game.last.game game.last.gone
          ∷ (one_game.known marking limits settings game).0) flight
      told = one_game.told_there marking limits settings game which flight found

      fair : IsFair flight
      fair = game.fair which flight found

      free : game.last.gone player flight.from ≡ false
      free = sym ((game.nodes player mine).others.given_up flight.from told.sender)
          ∙ ap (λ (s : Surviving). has s.others.gone flight.from) old ∙ whole flight.from

      asked : flight.request ≡ None
      asked = ap (λ (p : Opened). p.ask) (sym is) ∙ silent

      begins : now.phase ≡ Playing → flight.start ≤ got now flight.from
      begins plays = let before = low plays in
          omega (arith, before, ap (λ (p : Opened). p.start) is, ap (λ (p : Opened). got now p.from) is)

      sender : flight.from < limits.players
      sender = told.sender

      apart : flight.from ≢ player
      apart e = told.apart (e ∙ sym to)

      keeps : AreHere next × HasAsMuch player now next
      keeps = packet_grows marking limits settings session player rest mine now packet now next answer
          (game, as_much player now) ((which, flight, found, to, is), whole packet.from) hears spares

      -- what it has, with the end
      has_it : (n : Contents) (m' : machine.Node) → Represents limits player n m'
          → has_of n flight.from ≡ with_end (length (m'.held flight.from)) (machine.ends_of m' flight.from)
      has_it n m' r = has_is limits player n m' r mine flight.from apart sender

      count : (p : ℕ) → p < limits.players → got now p ≡ length (m.held p)
      count p l = holds limits player now (game.last.game.nodes player) shows p l

      -- it is not heard, as it tells a tic that is far
      late : next ≡ now → (m.phase ≡ Playing → IsHad marking limits settings (at now) game which flight found m)
          → Hears now next (opened_of flight)
      late same had = record {
        sender = sender;
        apart = apart;
        game = keeps.0;
        ended = λ e. ap (λ (n : Contents). is_ended n.phase) (sym same) ∙ e;
        stays = λ e. ap (λ (n : Contents). n.phase) same ∙ e;
        others = λ p l n. ap (λ (n : Contents). got n p) same;
        least = omega (arith, ap (λ (n : Contents). got n flight.from) same);
        idle = λ e. ap (λ (n : Contents). got n flight.from) same;
        sends = λ p l. ap (λ (n : Contents). next_to n p) same;
        wants = subst WantsNone (sym same) none;
        ran = ap (λ (n : Contents). n.ran) same;
        reach = λ plays.
            let all = (had (sym shows.stands.phase ∙ plays)).0 in
            omega (arith, all, count flight.from sender, ap (λ (n : Contents). got n flight.from) same);
        much = keeps.1;
        exit = λ plays is.
            let kind = exit_kind flight fair asked is in
            let all = (had (sym shows.stands.phase ∙ plays)).1 kind in
            let end = exit_end flight kind in
            let here = has_it now m shows in
            omega (arith, all, end, here, ap (λ (n : Contents). has_of n flight.from) same);
      }

      -- it is heard
      taken : (m' : machine.Node) → m'.rows ≡ m.rows → Represents limits player next m'
          → Leaves limits player m flight asked sender apart (told_end (opened_of flight)) m'
          → (m.phase ≡ Playing → flight.start ≤ length (m.held flight.from)
          → IsHad marking limits settings (at now) game which flight found m')
          → Hears now next (opened_of flight)
      taken m' rows after leaves reaches =
          let phase_was = shows.stands.phase in
          let phase_is = after.stands.phase in
          let was = count flight.from sender in
          let is_now = holds limits player next m' after flight.from sender in
          record {
            sender = sender;
            apart = apart;
            game = keeps.0;
            ended = λ e. ap is_ended phase_was ∙ leaves.ended (ap is_ended (sym phase_is) ∙ e);
            stays = λ e. phase_is ∙ leaves.stays (sym phase_was ∙ e);
            others = λ p l n. holds limits player next m' after p l ∙ leaves.others p n ∙ sym (count p l);
            least = omega (arith, leaves.least, was, is_now);
            idle = λ e. is_now ∙ leaves.idle (λ plays. e (phase_was ∙ plays)) ∙ sym was;
            sends = λ p l. ap (λ (x : Peer). x.resend) (after.peers.known p l) ∙ leaves.next p
                ∙ ap (λ (x : Peer). x.resend) (sym (shows.peers.known p l));
            wants = λ p l n. ap (λ (x : Peer). x.want) (after.peers.known p l)
                ∙ leaves.wants (λ plays. let before = begins (phase_was ∙ plays) in omega (arith, before, was))
                (λ p l n. ap (λ (x : Peer). x.want) (sym (shows.peers.known p l)) ∙ none p l n) p l n;
            ran = after.table.ran ∙ ap (length {A = List (Option Move)}) rows ∙ sym shows.table.ran;
            reach = λ plays.
                let before = begins plays in
                let reached = reaches (sym phase_was ∙ plays) (omega (arith, before, was)) in
                omega (arith, reached.0, is_now);
            much = keeps.1;
            exit = λ plays is.
                let before = begins plays in
                let kind = exit_kind flight fair asked is in
                let end = (reaches (sym phase_was ∙ plays) (omega (arith, before, was))).1 kind in
                let same = exit_end flight kind in
                let here = has_it next m' after in
                omega (arith, end, same, here);
          }

      reads : IsRead (opened_of flight) (Ok (packet_of flight)) (told_by flight.kind)
      reads = ((fair.packet, refl), told_is flight flight.kind fair.kind)

      heard_as : (r : machine.Node × Arrived) → on_opened limits player m (opened_of flight) (Ok (packet_of flight))
          (told_by flight.kind) ≡ r → Represents limits player next r.0 × (answer ≡ r.1)
      heard_as r e =
          let after = (subst (λ (p : Opened). HearsOpened p now next answer) is hears).step (Ok (packet_of flight))
          (told_by flight.kind) reads limits player m shows in (
            subst (λ (x : machine.Node × Arrived). Represents limits player next x.0) e after.node,
            subst (λ (x : machine.Node × Arrived). answer ≡ x.1) e after.answer,
          )

      leaves : Leaves limits player m flight asked sender apart (told_end (opened_of flight))
          (on_packet limits player m flight).0
      leaves = by_kind flight (λ chosen kind. subst (λ (n : ℕ). Leaves limits player m flight asked sender apart
          n (on_packet limits player m flight).0)
          (sym (settings_end flight chosen kind)) (settings_leave limits player m flight asked sender apart
          chosen kind)) (λ kind same. subst (λ (n : ℕ). Leaves limits player m flight asked sender apart n
          (on_packet limits player m flight).0) (sym same)
          (word_leaves limits player m flight asked sender apart))

      spared : IsSpared limits player m flight asked sender apart (on_packet limits player m flight).1
      spared number dropped =
          let heard : heard_of limits game.last flight ≡ Heard.Dropped number =
          rw (ap (λ (k : ℕ). game.last.gone k flight.from) to ∙ free)
          (ap (λ (k : ℕ). (on_packet limits k (game.last.game.nodes k) flight).1) to ∙ dropped) in
          elim ((Pairs.steady marking limits settings (at now) game).kept which flight number
          (one_game.given_there marking limits settings game which flight found) heard) [
            | inl place ↦ inl place
            | inr others ↦ elim others [
              | inl plays ↦ inr plays
              | inr gone ↦ absurd (true≢false (sym gone.1 ∙ ap (λ (k : ℕ). game.last.gone k flight.from) to ∙ free))
            ]
          ]

      reaches : m.phase ≡ Playing → flight.start ≤ length (m.held flight.from)
          → IsHad marking limits settings (at now) game which flight found (on_packet limits player m flight).0
      reaches plays before = by_kind flight
          (λ chosen kind. (
            omega (arith, settings_end flight chosen kind, before, leaves.least),
            (λ exit. absurd (no_exit chosen (sym kind ∙ exit))),
          ))
          (λ kind same. let reach = word_reaches limits player m flight asked sender apart plays kind before spared in (
            omega (arith, same, reach.0),
            (λ exit.
                let after = (on_packet limits player m flight).0 in
                let end = ap (with_end (length (after.held flight.from))) (reach.1 exit) in
                omega (arith, end, reach.0)),
          ))
        where
          no_exit : (chosen : Settings) → SetUp chosen ≢ Exit
          no_exit chosen e = cc

      go : (test : Bool)
          → (is_close (machine.made player m) flight.start && is_request_close (machine.made player m) flight.request) ≡ test
          → Hears now next (opened_of flight)
      go true close =
          let step : on_opened limits player m (opened_of flight) (Ok (packet_of flight)) (told_by flight.kind)
          ≡ heard (on_packet limits player m flight) =
          rw (close, alike flight) (ap heard (near_received limits player m flight fair sender apart
          (near_if (machine.made player m) flight close))) in
          let result = heard_as (heard (on_packet limits player m flight)) step in
          taken (on_packet limits player m flight).0 (hear_quiet limits player m flight).0 result.0 leaves reaches
      go false far =
          let step : on_opened limits player m (opened_of flight) (Ok (packet_of flight)) (told_by flight.kind)
          ≡ (m, Arrived.Late) = rw far refl in
          let result = heard_as (m, Arrived.Late) step in
          let away : is_close (machine.made player m) flight.start ≡ false =
          apart_from (is_close (machine.made player m) flight.start) flight.request asked far in
          late (subst (λ (a : Arrived). SparesSealed now next a) result.1 spares) (λ plays.
          subst (λ (k : ℕ). game.last.gone k flight.from ≡ false → (game.last.game.nodes k).phase ≡ Playing
          → is_close (machine.made k (game.last.game.nodes k)) flight.start ≡ false
          → IsHad marking limits settings (at now) game which flight found (game.last.game.nodes k)) to
          (far_has marking limits settings (at now) game which flight found) free plays away)
        where
          apart_from : (test : Bool) (request : Option ℕ) → request ≡ None
              → (test && is_request_close (machine.made player m) request) ≡ false → test ≡ false
          apart_from true request none e = absurd (true≢false (ap (is_request_close (machine.made player m)) (sym none) ∙ e))
          apart_from false request none e = refl

  -- a lockstep behind which packets have no gap, unless it has ended
  abbrev pub IsBehind : (ℕ → ℕ) → List Opened → Contents → Type 0
  IsBehind tics packets now =
      is_ended now.phase ≡ false
      → ((p : ℕ) → p < limits.players → tics p ≤ got now p) × HaveNoGaps tics packets

  abbrev IsQuiet : Opened → Type 0
  IsQuiet packet = WasGiven session.packets player packet × (packet.ask ≡ None)

  -- what packets leave that end there
  pub record HearsThem (packets : List Opened) (ends : ℕ → ℕ) (now new : Contents) : Type 0 where
    pub ended : is_ended new.phase ≡ false → is_ended now.phase ≡ false
    pub least : (p : ℕ) → p < limits.players → got now p ≤ got new p
    pub own : got new player ≡ got now player
    pub idle : is_ended now.phase ≡ true → (p : ℕ) → p < limits.players → got new p ≡ got now p
    pub sends : (p : ℕ) → p < limits.players → next_to new p ≡ next_to now p
    pub wants : WantsNone new
    pub ran : new.ran ≡ now.ran
    pub reach : new.phase ≡ Playing → (p : ℕ) → p < limits.players → ends p ≤ got new p
    pub much : HasAsMuch player now new
    pub exit : new.phase ≡ Playing → (from end : ℕ) → HasExit from end packets → end + 1 ≤ has_of new from

  -- one after the other
  pub all_hears : (packets : List Opened) (now new : Contents) (tics : ℕ → ℕ)
      → AreHere now → is_waiting now.phase ≡ false → WantsNone now
      → All IsQuiet packets → IsBehind tics packets now → HearsAll packets now new
      → HearsThem packets (ends_of tics packets) now new
  all_hears [] now new tics game started none all behind same =
      record {
        ended = λ e. ap (λ (n : Contents). is_ended n.phase) (sym same) ∙ e;
        least = λ p l. omega (arith, ap (λ (n : Contents). got n p) same);
        own = ap (λ (n : Contents). got n player) same;
        idle = λ e p l. ap (λ (n : Contents). got n p) same;
        sends = λ p l. ap (λ (n : Contents). next_to n p) same;
        wants = subst WantsNone (sym same) none;
        ran = ap (λ (n : Contents). n.ran) same;
        reach = λ plays p l.
            let has_it = (behind (ap (λ (n : Contents). is_ended n.phase) (sym same) ∙ ap is_ended plays)).0 p l in
            omega (arith, has_it, ap (λ (n : Contents). got n p) same);
        much = subst (HasAsMuch player now) (sym same) (as_much player now);
        exit = λ plays from end none. absurd none;
      }
  all_hears (packet ∷ packets) now new tics game started none all behind (next, answer, hears, spares, then) =
      let later = all_hears packets next new (then_end tics packet) step.game
      (started_on now.phase next.phase started step.stays step.ended) step.wants
      (All-tail IsQuiet packet packets all) behind_on then in
      record {
        ended = λ e. step.ended (later.ended e);
        least = λ p l. let one = least_of p l in let more = later.least p l in omega (arith, one, more);
        own = later.own ∙ step.others player mine (λ e. step.apart (sym e));
        idle = λ e p l. later.idle (ends e (is_ended next.phase) refl) p l
            ∙ idle_of (λ plays. true≢false (sym e ∙ ap is_ended plays)) p l;
        sends = λ p l. later.sends p l ∙ step.sends p l;
        wants = later.wants;
        ran = later.ran ∙ step.ran;
        reach = later.reach;
        much = much_on player now next new step.much later.much;
        exit = λ plays from end has. elim has [
          | inl here ↦
              let told = step.exit (plays_of now.phase started (step.ended (later.ended (ap is_ended plays)))) here.2 in
              let more = later.much.0 packet.from step.apart in
              omega (arith, told, more, here.1, ap (has_of new) here.0)
          | inr behind ↦ later.exit plays from end behind
        ];
      }
    where
      quiet : IsQuiet packet
      quiet = All-head IsQuiet packet packets all

      low : packet.from < limits.players → now.phase ≡ Playing → packet.start ≤ got now packet.from
      low inside plays =
          let here = behind (ap is_ended plays) in
          let has_it = here.0 packet.from inside in
          let begins = here.1.0 in
          omega (arith, has_it, begins)

      step : Hears now next packet
      step = one_hears packet now next answer game quiet.0 quiet.1 none
          (low (given_from now game packet quiet.0)) hears spares

      least_of : (p : ℕ) → p < limits.players → got now p ≤ got next p
      least_of p l = grind (arith, cases_eq, step)

      idle_of : now.phase ≢ Playing → (p : ℕ) → p < limits.players → got next p ≡ got now p
      idle_of e p l = grind (arith, cases_eq, step)

      behind_on : IsBehind (then_end tics packet) packets next
      behind_on goes_on =
          let was = step.ended goes_on in
          let here = behind was in
          let reach = step.reach (plays_of now.phase started was) in (
            (λ p l. elim (cases_eq p packet.from) [
              | inl at ↦
                  let now_at = put_at tics packet.from p (max (tics packet.from) (told_end packet)) at in
                  let had = here.0 packet.from step.sender in
                  omega (arith, now_at, had, reach, step.least, ap (got next) at)
              | inr off ↦
                  let now_off = put_off tics packet.from p (max (tics packet.from) (told_end packet)) off in
                  let had = here.0 p l in
                  let same = step.others p l off in
                  omega (arith, now_off, had, same)
            ]),
            here.1.1,
          )

      ends : is_ended now.phase ≡ true → (test : Bool) → is_ended next.phase ≡ test → is_ended next.phase ≡ true
      ends e true is = is
      ends e false is = absurd (true≢false (sym e ∙ step.ended is))
