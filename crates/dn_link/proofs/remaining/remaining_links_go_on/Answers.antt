-- Packets with the same exact numbers and bytes: where a lockstep sends one, they are those of every node that
-- it represents.
use Rattle.std.proofs.Common.{◌≡◌, ℕ, Bool, true, false, List, length, refl, ap, sym, ◌∙◌, Option, Some, None, ◌<◌, [], ◌∷◌, append-nil, arith, subst, inl, inr, ◌-◌}
use Rattle.std.proofs.lemmas.{Bool.{cond_both, and_parts, not-true}, Option.{none-some, same_Some}}
use Rattle.std.specs.{Prelude.{IfSome, if◌then◌else◌, nat_lt}, Option.option_map}
use Rattle.dn_setup.specs.Settings.{Settings}
use Rattle.dn_packet.specs.declared.packet.Packet.{Packet}
use Rattle.dn_packet.proofs.Texts.{same_packet}
use Rattle.dn_machine.specs.{Flight.{Play, Exit, Flight, packet_of}, Limits.Limits, Sending.{commands_flight, last_sent, set_up_flight}, Node.put}
use Rattle.dn_machine.proofs.{Calls.send_cases, Put.put_at}
use Rattle.dn_lockstep.specs.{declared.lockstep.aiming.Aim.Aim, Sent.{IsFair, aim_of, bytes_of, sent_to}, Marking.Marking, Represents.Represents, Steps.{Steps, Tells}, OneGame.given_on}
use Rattle.dn_lockstep.specs.Told.{command_told}
use Rattle.dn_link.specs.{RemainingLinks.{AreRemainingLinks, IsLater, IsTrulyTold, WasSealedIn, WasTold, after_datagram}, Line.own_echo, Linked.{Gives, Linked, is_peer, remains, report_beside, surviving_of}, Pacing.PaceState}
use Rattle.dn_link.specs.{declared.bundle.Carried.Carried, Hearing.{carried_of, SendsCarried}, Relays.{Handed, flights_of}}
use Rattle.dn_link.specs.Packing.{parts_room}
use Rattle.dn_lockstep.proofs.OneGame.{GoesBetween}
use Rattle.dn_survivor.specs.{OneGame.{AreRemaining, Session, after_packet, after_relays, after_report, reports_on}, Telling.{MayRelay, report_for}, declared.report.Report.Report}
use Rattle.dn_survivor.specs.Surviving.{Surviving, has_given_up}
use Rattle.dn_link.proofs.{RemainingCalls.{built, counted, gives_up, quits, reports_stay, runs, same_link, told}, Handing.gives_all, Linking.{goes_given, stays_kept}, RemainingReceives.received}
use Rattle.dn_link.proofs.{Growing.sends_holds, Knowing.{counts_reached, later_by, put_told, told_on}}
use Rattle.dn_link.proofs.{Relinking.{found_later, found_on}, Reporting.{fits_or_not, told_last, written_is}}
use Rattle.dn_seal.specs.declared.seal.Seal.{Seal}
use Rattle.dn_machine.specs.Node as machine
use Rattle.dn_survivor.proofs.OneGame as one_game
use Rattle.dn_link.proofs.RemainingCalls as base
use Rattle.dn_link.proofs.remaining.remaining_links_go_on.Goals as goal

-- the packet has as many commands as the flight
abbrev IsCounted : Flight → Type 0
IsCounted flight = length flight.commands ≡ length (packet_of flight).cmds.items

set_up_counted : (me to : ℕ) (settings : Option Settings) → IfSome (set_up_flight me to settings) IsCounted
set_up_counted me to None = tt
set_up_counted me to (Some settings) = refl

left_counted : (limits : Limits) (me : ℕ) (m : machine.Node) (to : ℕ) (test : Bool)
    → IsCounted (commands_flight limits me m to (if test then Play else Exit) None)
left_counted limits me m to true = refl
left_counted limits me m to false = refl

-- so has each that is sent
sent_counted : (limits : Limits) (me : ℕ) (m : machine.Node) (to : ℕ)
    → IfSome (sent_to to limits me m).1 IsCounted
sent_counted limits me m to =
    let P : machine.Node × Option Flight → Type 0 = λ x. IfSome x.1 IsCounted in
    cond_both (nat_lt to limits.players) _ _ P
    (λ below. send_cases limits me m P to tt (λ other e. set_up_counted me to m.settings) (λ other e. refl)
    (λ other e. left_counted limits me m to (nat_lt (last_sent limits me m to) (machine.made me m))))
    (λ past. tt)

-- two packets that are carried alike have the same exact numbers
same_aims : (one other : Option Flight) → IfSome one IsFair → IfSome other IsFair → IfSome one IsCounted
    → IfSome other IsCounted → option_map carried_of one ≡ option_map carried_of other
    → option_map aim_of one ≡ option_map aim_of other
same_aims None None fair also counted as_well e = refl
same_aims None (Some other) fair also counted as_well e = absurd (none-some (carried_of other) e)
same_aims (Some one) None fair also counted as_well e = absurd (none-some (carried_of one) (sym e))
same_aims (Some one) (Some other) fair also counted as_well e =
    let same : carried_of one ≡ carried_of other = same_Some (carried_of one) (carried_of other) e in
    let packet : packet_of one ≡ packet_of other =
    same_packet (packet_of one) (packet_of other) fair.packet also.packet
    (ap (λ (c : Carried). c.datagram.items) same) in
    let count : length one.commands ≡ length other.commands =
    counted ∙ ap (λ (p : Packet). length p.cmds.items) packet ∙ sym as_well in
    (λ i. Some (record {
      flags = (packet i).flags;
      ask = (same i).ask;
      start = (same i).start;
      count = count i;
    }))

-- hence two nodes that send packets that are carried alike send them with the same exact numbers
sent_alike : (limits : Limits) (me : ℕ) (m : machine.Node) (others : Limits) (you : ℕ) (n : machine.Node)
    (to : ℕ) (given : Option Carried) → IfSome (sent_to to limits me m).1 IsFair
    → IfSome (sent_to to others you n).1 IsFair → given ≡ option_map carried_of (sent_to to limits me m).1
    → given ≡ option_map carried_of (sent_to to others you n).1
    → option_map aim_of (sent_to to limits me m).1 ≡ option_map aim_of (sent_to to others you n).1
sent_alike limits me m others you n to given fair also is is_too =
    same_aims (sent_to to limits me m).1 (sent_to to others you n).1 fair also (sent_counted limits me m to)
    (sent_counted others you n to) (sym is ∙ is_too)

abbrev datagram_in : Carried → List ℕ
datagram_in carried = carried.datagram.items

datagrams : (flight : Option Flight) → option_map datagram_in (option_map carried_of flight)
    ≡ option_map bytes_of flight
datagrams None = refl
datagrams (Some flight) = refl

-- and a packet with these numbers and bytes is carried so
carried_by : (given : Option Carried) (sent packet : Option Flight) → given ≡ option_map carried_of sent
    → option_map aim_of sent ≡ option_map aim_of packet
    → option_map datagram_in given ≡ option_map bytes_of packet → given ≡ option_map carried_of packet
carried_by None sent None is aimed told = refl
carried_by None None (Some packet) is aimed told = absurd (none-some (aim_of packet) aimed)
carried_by None (Some sent) (Some packet) is aimed told = absurd (none-some (carried_of sent) is)
carried_by (Some given) None packet is aimed told = absurd (none-some given (sym is))
carried_by (Some given) (Some sent) None is aimed told = absurd (none-some (aim_of sent) (sym aimed))
carried_by (Some given) (Some sent) (Some packet) is aimed told =
    let same : given ≡ carried_of sent = same_Some given (carried_of sent) is in
    let numbers : aim_of sent ≡ aim_of packet = same_Some (aim_of sent) (aim_of packet) aimed in
    let bytes : given.datagram.items ≡ bytes_of packet = same_Some (datagram_in given) (bytes_of packet) told in
    (λ i. Some (record {
      start = (ap (λ (c : Carried). c.start) same ∙ ap (λ (a : Aim). a.start) numbers) i;
      ask = (ap (λ (c : Carried). c.ask) same ∙ ap (λ (a : Aim). a.ask) numbers) i;
      datagram = record { items = bytes i };
    }))

-- of some one is there
some_not : (h : Handed) (handed : List Handed) → h ∷ handed ≡ [] → ⊥
some_not h handed none = cc

module _ (marking : Marking) (limits : Limits) (settings : Settings) (session : Session) (links : ℕ → Linked)
    (linked : AreRemainingLinks marking limits settings session links) (player : ℕ)
    (mine : player < limits.players) where
  abbrev old : Linked
  old = links player

  survivor : surviving_of old ≡ session.survivors player
  survivor = base.survivor marking limits settings session links linked player mine

  module _ (seal : Seal) (pace : PaceState) (to : ℕ) (new : Linked) (bytes : List ℕ)
      (gives : Gives seal pace to old new bytes) where
    -- it goes out in a datagram of this game, and the links are those of the game after it
    abbrev after_all : Option Flight → Session
    after_all packet =
        after_relays (after_packet session player packet (surviving_of new)) (flights_of to gives.behind.handed)

    abbrev told_now : Option Report
    told_now = report_beside (surviving_of new) to gives.bundle.parts.items

    abbrev IsGiven : Option Flight → Type 0
    IsGiven packet =
        WasSealedIn seal (after_datagram session player to packet gives) bytes
        × AreRemainingLinks marking limits settings (after_datagram session player to packet gives)
        (put links player new) × IsLater session (after_datagram session player to packet gives)

    -- commands of third players are handed on with it
    hands_on : (packet : Option Flight)
        → AreRemaining marking limits settings (after_packet session player packet (surviving_of new))
        → AreRemaining marking limits settings (after_all packet)
    hands_on packet game = go gives.behind.handed refl
      where
        go : (handed : List Handed) → gives.behind.handed ≡ handed → AreRemaining marking limits settings (after_all packet)
        go [] e =
            subst (λ (hs : List Handed). AreRemaining marking limits settings
            (after_relays (after_packet session player packet (surviving_of new)) (flights_of to hs))) (sym e)
            (subst (λ (given : List Flight). AreRemaining marking limits settings
            (record (after_packet session player packet (surviving_of new)) { packets = given }))
            (sym (append-nil (given_on session.packets packet))) game)
        go (h ∷ handed) e =
            let may = gives.behind.may (λ none. absurd (some_not h handed (sym e ∙ none))) in
            gives_all new.node to (λ given. AreRemaining marking limits settings
            (record (after_packet session player packet (surviving_of new)) { packets = given }))
            (λ given who tic command now its there apart told fair.
            let here : put session.survivors player (surviving_of new) player ≡ surviving_of new =
            put_at session.survivors player player (surviving_of new) refl in
            let count : new.node.players ≡ limits.players =
            ap (λ (s : Surviving). s.lockstep.players) (sym here) ∙ (now.nodes player mine).node.whose.players in
            one_game.relays marking limits settings now player mine who to tic command (omega (arith, its, count))
            (omega (arith, there, count)) apart (subst (λ (s : Surviving). MayRelay s to) (sym here) may)
            (ap (λ (s : Surviving). command_told s.lockstep who tic) here ∙ told) fair)
            (given_on session.packets packet) gives.behind.handed game gives.behind.on

    -- and the report, if there is one and room for it
    tells_on : (packet : Option Flight)
        → AreRemainingLinks marking limits settings (after_all packet) (put links player new)
        → AreRemainingLinks marking limits settings (after_report (after_all packet) player to told_now)
        (put links player new)
    tells_on packet are = elim (fits_or_not (1139 - parts_room gives.bundle.parts.items) (report_for (surviving_of new) to)) [
      | inl none ↦ subst (λ (o : Option Report). AreRemainingLinks marking limits settings
          (after_report (after_all packet) player to o) (put links player new)) (sym none) are
      | inr fits ↦
          let here : surviving_of (put links player new player) ≡ surviving_of new =
          ap surviving_of (put_at links player player new refl) in
          (told marking limits settings (after_all packet) (put links player new) are player mine to told_now
          (fits ∙ ap (λ (s : Surviving). report_for s to) (sym here))).0
    ]

    gave_by : (packet : Option Flight)
        → AreRemaining marking limits settings (after_packet session player packet (surviving_of new))
        → GoesBetween player to packet → gives.given ≡ option_map carried_of packet → IsGiven packet
    gave_by packet game between answer =
        let own = base.own marking limits settings session links linked player mine in
        let all = base.all_kept marking limits settings session links linked player mine in
        let much = base.much_by marking limits settings session links linked player mine new.node
        (λ limits me m. sent_to to limits me m) (λ packet. gives.given ≡ option_map carried_of packet) gives.step.step
        (sends_holds limits player (linked.game.last.game.nodes player) to) in
        let is = later_by session (after_all packet) player (surviving_of new) refl much
        (λ which one found. found_on (given_on session.packets packet) (flights_of to gives.behind.handed) which one
        (found_later session.packets packet which one found)) (λ which given found. found) in
        let on = base.relinked marking limits settings session links linked
        (after_all packet) player new (hands_on packet game) refl is
        (stays_kept session.packets packet player old new own seal pace to bytes gives between answer all)
        (subst (IsTrulyTold (after_all packet).survivors) (sym gives.peers)
        (put_told (after_all packet).survivors old.peers
        (told_on session (after_all packet) old.peers is (linked.told player mine)) to _ _)) in
        let here : put session.survivors player (surviving_of new) gives.bundle.from ≡ surviving_of new =
        put_at session.survivors player gives.bundle.from (surviving_of new) (gives.from ∙ own) in
        let same : new.node.me ≡ gives.bundle.from =
        ap (λ (s : Surviving). s.lockstep.me) (sym (put_at session.survivors player player (surviving_of new) refl))
        ∙ ((hands_on packet game).nodes player mine).node.whose.number ∙ sym (gives.from ∙ own) in (
          (
            gives.bundle,
            gives.fits,
            gives.is,
            goes_given session.packets packet player old new own seal pace to bytes gives between answer all,
            λ report reads.
                let is = written_is told_now gives.bundle.report.items report gives.proper gives.report reads in
                subst (λ (from : ℕ). WasTold (reports_on session.reports player to told_now) from gives.bundle.to report)
                (sym (gives.from ∙ own)) (subst (λ (k : ℕ). WasTold (reports_on session.reports player to told_now) player k report)
                (sym gives.goes) (told_last session.reports player to told_now report is)),
            counts_reached (put session.survivors player (surviving_of new)) gives.bundle new.node
                (own_echo (pace.lines to)) (ap (λ (s : Surviving). s.lockstep) here) same gives.counts,
          ),
          tells_on packet on.0,
          record {
            packets = is.packets;
            reports = λ which given found. reports_stay session.reports player to told_now which given found;
            got = is.got;
            ended = is.ended;
            started = is.started;
          },
        )

    -- what is sent is the survivor's packet
    module _ (free : has_given_up (surviving_of old) to ≡ false)
        (fair : Tells old.node (λ limits me m. IfSome (sent_to to limits me m).1 IsFair))
        (step : SendsCarried to old.node new.node gives.given) where
      abbrev spelling : Option (List ℕ)
      spelling = option_map datagram_in gives.given

      abbrev m : machine.Node
      m = linked.game.last.game.nodes player

      shows : Represents limits player old.node m
      shows = base.shows marking limits settings session links linked player mine

      spelled : Steps old.node new.node (λ limits me m. sent_to to limits me m)
          (λ packet. spelling ≡ option_map bytes_of packet)
      spelled = record {
        same = step.same;
        step = λ limits me m r.
            let after = step.step limits me m r in
            record {
              node = after.node;
              answer = ap (option_map datagram_in) after.answer ∙ datagrams (sent_to to limits me m).1;
            };
      }

      -- with the exact numbers of the packet of any node that the lockstep represents
      aimed : Tells old.node (λ others you n. option_map aim_of (sent_to to limits player m).1
          ≡ option_map aim_of (sent_to to others you n).1)
      aimed others you n r =
          sent_alike limits player m others you n to gives.given (fair limits player m shows) (fair others you n r)
          (step.step limits player m shows).answer (step.step others you n r).answer

      sent : (packet : Option Flight) × IsGiven packet
      sent =
          let gave = one_game.gave_to marking limits settings linked.game player mine to (surviving_of new)
          spelling (subst (λ (s : Surviving). has_given_up s to ≡ false) survivor free)
          (subst (λ (s : Surviving). Tells s.lockstep (λ limits me m. IfSome (sent_to to limits me m).1 IsFair))
          survivor fair) (subst (λ (s : Surviving). Steps s.lockstep new.node
          (λ limits me m. sent_to to limits me m) (λ packet. spelling ≡ option_map bytes_of packet)) survivor
          spelled) (gives.others ∙ ap (λ (s : Surviving). s.others) survivor) in
          let numbers = gave.1.aim (subst (λ (s : Surviving). has_given_up s to ≡ false) survivor free)
          (option_map aim_of (sent_to to limits player m).1)
          (subst (λ (s : Surviving). Tells s.lockstep (λ others you n. option_map aim_of (sent_to to limits player m).1
          ≡ option_map aim_of (sent_to to others you n).1)) survivor aimed) in (
            gave.0,
            gave_by gave.0 gave.2 gave.1.players (carried_by gives.given (sent_to to limits player m).1 gave.0
                (step.step limits player m shows).answer numbers gave.1.bytes),
          )

    gave : remains old to ≡ true → Tells old.node (λ limits me m. IfSome (sent_to to limits me m).1 IsFair)
        → (packet : Option Flight) × IsGiven packet
    gave stays fair =
        sent (not-true (has_given_up (surviving_of old) to) (and_parts (is_peer old.node to) _ stays).1) fair gives.step

pub returns-clause-built : goal.returns-clause-built
returns-clause-built c = λ marking limits settings session links player new input made linked mine.
    built marking limits settings session links linked player mine new input made

pub returns-clause-ran : goal.returns-clause-ran
returns-clause-ran c = λ marking limits settings session links player new marks ran row linked mine.
    runs marking limits settings session links linked player mine new marks ran row

pub returns-clause-quit : goal.returns-clause-quit
returns-clause-quit c = λ marking limits settings session links player new quit linked mine.
    quits marking limits settings session links linked player mine new quit

pub returns-clause-gave_up : goal.returns-clause-gave_up
returns-clause-gave_up c = λ marking limits settings session links here player new answer linked mine.
    gives_up marking limits settings session links linked here mine player new answer

pub returns-clause-gave : goal.returns-clause-gave
returns-clause-gave c = λ marking limits settings session links player to seal pace new bytes linked mine stays
    fair gives.
    let sent = gave marking limits settings session links linked player mine seal pace to new bytes gives stays
    fair in (sent.0, sent.1.0, (sent.1.1, sent.1.2))

pub returns-clause-probed : goal.returns-clause-probed
returns-clause-probed c = λ marking limits settings session links player to new linked mine.
    counted marking limits settings session links linked player mine to new

pub returns-clause-received : goal.returns-clause-received
returns-clause-received c = λ marking limits settings session links player seal bytes new answer linked mine.
    received marking limits settings session links linked player mine seal bytes new answer

pub returns-clause-kept : goal.returns-clause-kept
returns-clause-kept c = λ marking limits settings session links player new linked mine.
    same_link marking limits settings session links linked player mine new
