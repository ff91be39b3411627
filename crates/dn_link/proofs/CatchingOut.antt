-- The links of a game stay caught up where one gives a datagram, which is in step.
use Rattle.std.proofs.Common.{◌≡◌, ◌≢◌, ◌<◌, ◌≤◌, ◌+◌, ◌-◌, ◌⊎◌, ◌%◌, ◌^◌, ℕ, Bool, true, false, List, [], ◌∷◌, ◌++◌, length, map, take, refl, ap, sym, ◌∙◌, subst, arith, Option, Some, None, All, inl, inr}
use Rattle.std.proofs.lemmas.{Bool.{cases_eq, cond_both, true≢false}, List.Elements.All-take, Option.{none-some, same_Some}}
use Rattle.std.specs.{Prelude.{◌==◌, if◌then◌else◌, nat_lt}, Option.option_map}
use Rattle.dn_tic.specs.declared.command.{TicCmd.TicCmd, Move.Move}
use Rattle.dn_link.specs.Pacing.{is_brief}
use Rattle.dn_link.specs.Packets.{packets_of}
use Rattle.std.specs.List.{flat_map}
use Rattle.dn_setup.specs.Settings.{Settings}
use Rattle.dn_machine.specs.{declared.peer.Peer.Peer, Flight.Flight, Limits.Limits, Node.{is_ended, put}, Sending.{lag, after_sent, set_up_flight}}
use Rattle.dn_machine.proofs.{Calls.send_cases, Put.{put_at, put_off}}
use Rattle.dn_lockstep.specs.{Marking.Marking, Represents.Represents, Sent.sent_to, Told.{got, made}}
use Rattle.dn_survivor.specs.{OneGame.Session, Surviving.Surviving, declared.others.Others.Others}
use Rattle.dn_lockstep.proofs.Shown.{made_is, has}
use Rattle.dn_seal.specs.declared.seal.Seal.{Seal}
use Rattle.dn_link.specs.{Kept.{IsKeptRising, Unacknowledged, going, is_news, kept_after, taken_by}, declared.bundle.Carried.Carried, Counting.has_ended, Hearing.carried_of, RemainingLinks.AreRemainingLinks}
use Rattle.dn_link.specs.{CaughtUp.{GoesOn, IsInTime, StillGoesOn, next_to, AreCaughtUp, HasNoGap, IsCaughtUp, IsClose, IsInStep, IsKeptChain, StayCaughtUp, WasInStep}, Linked.{Gives, IsWhole, Linked, PeerState}}
use Rattle.dn_link.specs.{Pacing.PaceState, Packets.{opened_from, own_in}}
use Rattle.dn_link.proofs.{Makers.{IsQuiet, first_goes, going_asks, going_goes, keeps_chain, keeps_close, later_goes}, Catching.relinked, Fitting.gives_own, Following.{covers, kept_rises}, Leaving.unended}
use Rattle.dn_link.proofs.{Linking.taken_given, Sending.{IsSized, Sends, sends}, Reporting.told_plain, Growing.sends_holds, Relinking.still_whole, Together.together}
use Rattle.dn_machine.specs.Node as machine
use Rattle.dn_link.specs.Kept as keep
use Rattle.dn_link.proofs.RemainingCalls as base

-- a node that is asked for a packet has what it had, and asks for nothing if it wants nothing
module _ (limits : Limits) (me : ℕ) (m : machine.Node) (to : ℕ) where
  pub record IsSent (r : machine.Node × Option Flight) : Type 0 where
    pub held : r.0.held ≡ m.held
    pub rows : r.0.rows ≡ m.rows
    pub phase : r.0.phase ≡ m.phase
    pub wants : (p : ℕ) → (r.0.peers p).want ≡ (m.peers p).want
    pub others : (p : ℕ) → p ≢ to → (r.0.peers p).resend ≡ (m.peers p).resend
    pub asks : (m.peers to).want ≡ false → (flight : Flight) → r.1 ≡ Some flight → flight.request ≡ None

  same : (flight : Option Flight) → ((one : Flight) → flight ≡ Some one → one.request ≡ None) → IsSent (m, flight)
  same flight quiet = record {
    held = refl;
    rows = refl;
    phase = refl;
    wants = λ p. refl;
    others = λ p n. refl;
    asks = λ none one e. quiet one e;
  }

  sent : (flight : Flight) → ((m.peers to).want ≡ false → flight.request ≡ None)
      → IsSent (after_sent limits me m to, Some flight)
  sent flight quiet = record {
    held = refl;
    rows = refl;
    phase = refl;
    wants = λ p. elim (cases_eq p to) [
      | inl e ↦ ap (λ (x : Peer). x.want) (put_at m.peers to p _ e) ∙ ap (λ (k : ℕ). (m.peers k).want) (sym e)
      | inr n ↦ ap (λ (x : Peer). x.want) (put_off m.peers to p _ n)
    ];
    others = λ p n. ap (λ (x : Peer). x.resend) (put_off m.peers to p _ n);
    asks = λ none one e. ap (λ (f : Flight). f.request) (sym (same_Some flight one e)) ∙ quiet none;
  }

  set_up : (settings : Option Settings) (one : Flight) → set_up_flight me to settings ≡ Some one → one.request ≡ None
  set_up None one e = absurd (none-some one e)
  set_up (Some chosen) one e = ap (λ (f : Flight). f.request) (sym (same_Some _ one e))

  pub is_sent : IsSent (sent_to to limits me m)
  is_sent = cond_both (nat_lt to limits.players) _ _ IsSent (λ below. send_cases limits me m IsSent to
      (same None (λ one e. absurd (none-some one e))) (λ other e. same (set_up_flight me to m.settings)
      (set_up m.settings)) (λ other e. sent _ (λ none. rw none refl)) (λ other e. sent _ (λ none. refl)))
      (λ past. same None (λ one e. absurd (none-some one e)))

-- what is kept is for the same commands
pub done_same : (kept : Unacknowledged) (packet : Option Carried) → (kept_after kept packet).done ≡ kept.done
done_same kept None = refl
done_same kept (Some packet) = go (is_news kept packet)
  where
    go : (test : Bool) → (if test then record kept { packets = kept.packets ++ packet ∷ []; covered = keep.end_of packet } else kept).done ≡ kept.done
    go true = refl
    go false = refl

-- a player is at most a window ahead of what it has of a peer that has not ended, and two of what that needs no
-- more
module _ (marking : Marking) (limits : Limits) (settings : Settings) (session : Session) (links : ℕ → Linked)
    (linked : AreRemainingLinks marking limits settings session links) (player : ℕ) (mine : player < limits.players)
    (were : AreCaughtUp limits links) (to : ℕ) (below : to < limits.players) (apart : to ≢ player) (goes_on : has_ended (links to).node ≡ false) where
  pub leads : got (links player).node player ≤ got (links player).node to + limits.ahead
  leads =
      let agreed = together marking limits settings session links linked were.whole in
      let n = (session.survivors player).lockstep in
      let ahead = agreed.ahead player mine in
      let run = agreed.run player to mine below (unended (session.survivors to).lockstep to (agreed.numbers to below)
      (ap (λ (s : Surviving). has_ended s.lockstep) (sym (linked.survivors to below)) ∙ goes_on)) in
      let ours : made n ≡ got n player = ap (λ (k : ℕ). got n k) (agreed.numbers player mine) in
      let same = linked.survivors player mine in
      omega (
        arith,
        ahead,
        run,
        ours,
        ap (λ (s : Surviving). got s.lockstep player) same,
        ap (λ (s : Surviving). got s.lockstep to) same,
      )

  pub two_windows : made (links player).node ≤ ((links player).peers to).kept.done + (limits.ahead + limits.ahead)
  two_windows =
      let more = leads in
      let was = (were.pairs player to mine below apart).near in
      let own = base.own marking limits settings session links linked player mine in
      omega (arith, more, was, ap (λ (k : ℕ). got (links player).node k) own)

  -- so what it sends next is kept still
  pub on_time : limits.ahead + limits.ahead + lag limits ≤ limits.places
      → got (links to).node player ≤ next_to (links player).node to + lag limits
      → made (links player).node ≤ next_to (links player).node to + (links player).node.places
  on_time fits sent =
      let most = two_windows in
      let was = were.pairs player to mine below apart in
      let there = was.there goes_on in
      let places = (base.shows marking limits settings session links linked player mine).whose.places in
      omega (arith, most, there, sent, places, fits)

module _ (marking : Marking) (limits : Limits) (settings : Settings) (session : Session) (links : ℕ → Linked)
    (linked : AreRemainingLinks marking limits settings session links) (player : ℕ) (mine : player < limits.players)
    (were : AreCaughtUp limits links) (to : ℕ) (below : to < limits.players) (apart : to ≢ player) (seal : Seal)
    (pace : PaceState) (new : Linked) (bytes : List ℕ)
    (gives : Gives seal pace to (links player) new bytes) (in_time : has_ended (links to).node ≡ false
    → made (links player).node ≤ next_to (links player).node to + (links player).node.places) where
  abbrev old : Linked
  old = links player

  own : old.node.me ≡ player
  own = base.own marking limits settings session links linked player mine

  abbrev m : machine.Node
  m = linked.game.last.game.nodes player

  shows : Represents limits player old.node m
  shows = base.shows marking limits settings session links linked player mine

  was : IsCaughtUp limits player to old (links to)
  was = were.pairs player to mine below apart

  abbrev taken : Option Carried
  taken = taken_by (old.peers to).left gives.given

  peer_is : new.peers to ≡ record (old.peers to) {
    kept = kept_after (old.peers to).kept taken;
    number = ((old.peers to).number + 1) % 2 ^ 32;
  }
  peer_is = ap (λ (f : ℕ → PeerState). f to) gives.peers ∙ put_at old.peers to to _ refl

  pub kept_is : (new.peers to).kept ≡ kept_after (old.peers to).kept taken
  kept_is = ap (λ (t : PeerState). t.kept) peer_is

  -- what the node is then
  record Gave : Type 0 where
    gots : (p : ℕ) → p < limits.players → got new.node p ≡ got old.node p
    wants : (p : ℕ) → p < limits.players → (new.node.peers p).want ≡ (old.node.peers p).want
    others : (p : ℕ) → p < limits.players → p ≢ to → next_to new.node p ≡ next_to old.node p
    asks : (one : Carried) → Some one ≡ gives.given → one.ask ≡ None
    ran : new.node.ran ≡ old.node.ran
    phase : new.node.phase ≡ old.node.phase

  gave_sent : (r : machine.Node × Option Flight) → IsSent limits player m to r → Represents limits player new.node r.0
      → gives.given ≡ option_map carried_of r.1 → Gave
  gave_sent r sent after answer = record {
    gots = λ p l. has limits player new.node r.0 after p l ∙ ap (λ (h : ℕ → List TicCmd). length (h p)) sent.held
        ∙ sym (has limits player old.node m shows p l);
    wants = λ p l. ap (λ (x : Peer). x.want) (after.peers.known p l) ∙ sent.wants p
        ∙ ap (λ (x : Peer). x.want) (sym (shows.peers.known p l));
    others = λ p l n. ap (λ (x : Peer). x.resend) (after.peers.known p l) ∙ sent.others p n
        ∙ ap (λ (x : Peer). x.resend) (sym (shows.peers.known p l));
    asks = λ one e. quiet r.1 (sent.asks (ap (λ (x : Peer). x.want) (sym (shows.peers.known to below)) ∙ was.asks)) one
        (e ∙ answer);
    ran = after.table.ran ∙ ap (length {A = List (Option Move)}) sent.rows ∙ sym shows.table.ran;
    phase = after.stands.phase ∙ sent.phase ∙ sym shows.stands.phase;
  }
    where
      quiet : (flight : Option Flight) → ((f : Flight) → flight ≡ Some f → f.request ≡ None) → (one : Carried)
          → Some one ≡ option_map carried_of flight → one.ask ≡ None
      quiet None none one e = absurd (none-some one (sym e))
      quiet (Some f) none one e = ap (λ (c : Carried). c.ask) (same_Some one (carried_of f) e) ∙ none f refl

  gave_it : Gave
  gave_it =
      let after = gives.step.step limits player m shows in
      gave_sent (sent_to to limits player m) (is_sent limits player m to) after.node after.answer

  asks_taken : (one : Carried) → taken ≡ Some one → one.ask ≡ None
  asks_taken one e = gave_it.asks one (taken_given (old.peers to).left gives.given one e)

  -- while the peer has not ended
  module _ (goes_on : has_ended (links to).node ≡ false) where
    -- the player is at most a window ahead of what it has of the peer
    lead : got old.node player ≤ got old.node to + limits.ahead
    lead = leads marking limits settings session links linked player mine were to below apart goes_on

    mades : made old.node ≡ got old.node player
    mades = ap (λ (k : ℕ). got old.node k) own

    pub same_made : got new.node player ≡ made old.node
    same_made = gave_it.gots player mine ∙ sym mades

    time : IsInTime to old
    time = record {
      there = in_time goes_on;
      few = let back = linked.game.window.back in let more = lead in omega (arith, back, more, mades, was.near);
    }

    goes : GoesOn limits player to old
    goes = record {
      mine = mine;
      below = below;
      node = m;
      shows = shows;
      rising = was.rising;
      next = inr (was.next goes_on);
    }

    pub covered : StillGoesOn limits player to old new
        × ((packet : Carried) → taken ≡ Some packet → keep.end_of packet ≤ (new.peers to).kept.covered)
    covered = covers limits player to old new goes seal pace bytes time gives

    next_on : next_to new.node to ≤ (new.peers to).kept.covered
    next_on = elim covered.0.goes.next [
      | inl gone ↦
          let left : (old.peers to).left ≡ Some gone.0 = ap (λ (t : PeerState). t.left) (sym peer_is) ∙ gone.1 in
          let ended = (linked.told player mine).left to gone.0 left in
          absurd (true≢false (sym ended
          ∙ ap (λ (s : Surviving). has_ended s.lockstep) (sym (linked.survivors to below)) ∙ goes_on))
      | inr low ↦ low
    ]

    next : next_to old.node to ≡ (m.peers to).resend
    next = ap (λ (x : Peer). x.resend) (shows.peers.known to below)

    count : made old.node ≡ machine.made player m
    count = made_is limits player old.node m shows (omega (arith, mine, shows.whose.number, shows.whose.players))

    -- the packet of the moment begins where it was to begin, and ends where the next one begins at most, but for what
    -- that one repeats
    abbrev pub IsMoment : Carried → Type 0
    IsMoment one = (one.start ≡ next_to old.node to) × (keep.end_of one ≤ next_to new.node to + lag limits) × IsSized one

    -- the next packet begins no earlier than before, and with none that was not made; and the packet of the moment has no
    -- command, or is such a one
    pub record Goes : Type 0 where
      pub up : next_to old.node to ≤ next_to new.node to
      pub least : next_to new.node to ≤ got new.node player - lag limits
      pub moment : (one : Carried) → Some one ≡ gives.given → (keep.end_of one ≡ 0) ⊎ IsMoment one

    pub sends_then : Goes
    sends_then =
        let after = gives.step.step limits player m shows in
        of (sent_to to limits player m) sent_sends after.node after.answer
      where
        sent_sends : Sends limits player m to (sent_to to limits player m).0 (sent_to to limits player m).1
        sent_sends = cond_both (nat_lt to limits.players) _ _ (λ (x : machine.Node × Option Flight). Sends
            limits player m to x.0 x.1) (λ below. sends limits player m to (sym shows.whose.most)
            (let time = in_time goes_on in omega (arith, time, next, count, shows.whose.places)))
            (λ past. inl (refl, (λ one e. absurd (none-some one e))))

        of : (r : machine.Node × Option Flight) → Sends limits player m to r.0 r.1
            → Represents limits player new.node r.0 → gives.given ≡ option_map carried_of r.1 → Goes
        of (after, flight) sends then_shows answer =
            let now = ap (λ (x : Peer). x.resend) (then_shows.peers.known to below) in
            let least = was.least goes_on in
            let same = gave_it.gots player mine in
            elim sends [
              | inl silent ↦ record {
                up = omega (arith, now, next, silent.0);
                least = omega (arith, now, next, silent.0, least, same);
                moment = λ one e. inl (none flight silent.1 one (e ∙ answer));
              }
              | inr follows ↦ record {
                up = let up = follows.2.up (omega (arith, least, next, count, mades)) in omega (arith, now, next, up);
                least = let most_sent = follows.2.most in omega (arith, now, most_sent, count, mades, same);
                moment = λ one e.
                    let here : carried_of follows.0 ≡ one = sym (same_Some one (carried_of follows.0)
                    (e ∙ answer ∙ ap (option_map carried_of) follows.1)) in
                    inr (subst IsMoment here (
                      follows.2.start ∙ sym next,
                      (let low = follows.2.low (omega (arith, least, next, count, mades)) in omega (arith, low, now)),
                      follows.2.sized,
                    ));
              }
            ]
          where
            none : (flight : Option Flight) → ((f : Flight) → flight ≡ Some f → keep.end_of (carried_of f) ≡ 0)
                → (one : Carried) → Some one ≡ option_map carried_of flight → keep.end_of one ≡ 0
            none None silent one e = absurd (none-some one (sym e))
            none (Some f) silent one e =
                ap (λ (c : Carried). keep.end_of c) (same_Some one (carried_of f) e) ∙ silent f refl

    -- so it goes on from those that are kept
    low : (one : Carried) → taken ≡ Some one → one.start ≤ (old.peers to).kept.covered
    low one e = elim (sends_then.moment one (taken_given (old.peers to).left gives.given one e)) [
      | inl none ↦ omega (arith, none)
      | inr moment ↦ let before = was.next goes_on in omega (arith, moment.0, before)
    ]

    close_then : IsClose (lag limits) (new.peers to).kept.packets (next_to new.node to)
    close_then =
        subst (λ (k : Unacknowledged). IsClose (lag limits) k.packets (next_to new.node to)) (sym kept_is)
        (keeps_close (lag limits) (old.peers to).kept taken (next_to old.node to) (next_to new.node to) sends_then.up
        (λ one e past. elim (sends_then.moment one (taken_given (old.peers to).left gives.given one e)) [
          | inl none ↦ absurd (omega (arith, none, past))
          | inr moment ↦ (moment.0, moment.1)
        ]) (was.close goes_on))

  pub pair : IsCaughtUp limits player to new (links to)
  pair =
      let done = ap (λ (k : Unacknowledged). k.done) kept_is ∙ done_same (old.peers to).kept taken in
      record {
        rising = subst IsKeptRising (sym kept_is) (kept_rises (old.peers to).kept taken was.rising);
        chain = subst IsKeptChain (sym kept_is) (keeps_chain (old.peers to).kept taken asks_taken was.chain);
        asks = gave_it.wants to below ∙ was.asks;
        near = omega (arith, was.near, done, gave_it.gots to below);
        there = λ goes_on. let before = was.there goes_on in omega (arith, before, done);
        next = λ goes_on. next_on goes_on;
        least = λ goes_on. (sends_then goes_on).least;
        close = close_then;
      }

  other_pair : (peer : ℕ) → peer < limits.players → peer ≢ player → peer ≢ to
      → IsCaughtUp limits player peer new (links peer)
  other_pair peer l n off =
      let was = were.pairs player peer mine l n in
      let same : new.peers peer ≡ old.peers peer =
      ap (λ (f : ℕ → PeerState). f peer) gives.peers ∙ put_off old.peers to peer _ off in
      let kept : (new.peers peer).kept ≡ (old.peers peer).kept = ap (λ (t : PeerState). t.kept) same in
      let done = ap (λ (k : Unacknowledged). k.done) kept in
      let covered = ap (λ (k : Unacknowledged). k.covered) kept in
      let has_it = gave_it.gots peer l in
      let next = gave_it.others peer l off in
      record {
        rising = subst IsKeptRising (sym kept) was.rising;
        chain = subst IsKeptChain (sym kept) was.chain;
        asks = gave_it.wants peer l ∙ was.asks;
        near = omega (arith, was.near, done, has_it);
        there = λ goes_on. let before = was.there goes_on in omega (arith, before, done);
        next = λ goes_on. let before = was.next goes_on in omega (arith, before, covered, next);
        least = λ goes_on. let before = was.least goes_on in omega (arith, before, next, gave_it.gots player mine);
        close = λ goes_on. subst (λ (k : Unacknowledged). IsClose (lag limits) k.packets (next_to new.node peer)) (sym kept)
            (subst (IsClose (lag limits) (old.peers peer).kept.packets) (sym next) (was.close goes_on));
      }

  -- it has given up nobody since, nor ended before
  whole : IsWhole new
  whole = still_whole old new (ap (λ (o : Others). o.gone) gives.others) (were.whole player mine)

  stays : has_ended old.node ≡ true → has_ended new.node ≡ true
  stays was =
      (base.much_by marking limits settings session links linked player mine new.node
      (λ limits me m. sent_to to limits me m) (λ flight. gives.given ≡ option_map carried_of flight) gives.step.step
      (sends_holds limits player m to)).1
      (ap (λ (s : Surviving). has_ended s.lockstep) (sym (linked.survivors player mine)) ∙ was)

  pub given_on_time : StayCaughtUp limits links player new
  given_on_time = relinked limits links player new mine were whole (λ peer l n. elim (cases_eq peer to) [
    | inl at ↦ subst (λ (k : ℕ). IsCaughtUp limits player k new (links k)) (sym at) pair
    | inr off ↦ other_pair peer l n off
  ]) (λ which l. let same = gave_it.gots which l in omega (arith, same)) (omega (arith, gave_it.ran)) (λ which l n goes_on. elim (cases_eq which to) [
    | inl at ↦ subst (λ (k : ℕ). next_to old.node k ≤ next_to new.node k) (sym at)
        (sends_then (ap (λ (k : ℕ). has_ended (links k).node) (sym at) ∙ goes_on)).up
    | inr off ↦ let same = gave_it.others which l off in omega (arith, same)
  ]) stays (λ left. gave_it.gots player mine) (λ e. ap is_ended (sym gave_it.phase) ∙ e)

  -- what the peer is given is in step
  abbrev packets : List Carried
  packets = going (old.peers to).kept taken

  -- they are the first of these, or none
  sent_is : (count : ℕ) × (own_in gives.bundle ≡ take count (map (opened_from old.node.me) packets))
  sent_is = go (is_brief pace to) refl
    where
      go : (brief : Bool) → is_brief pace to ≡ brief
          → (count : ℕ) × (own_in gives.bundle ≡ take count (map (opened_from old.node.me) packets))
      go true brief = (
        0,
        gives_own seal pace to old new bytes gives ∙ ap (flat_map (packets_of old.node.me)) (gives.none brief),
      )
      go false full = (
        (gives.packed full).count,
        gives_own seal pace to old new bytes gives ∙ (gives.packed full).front,
      )

  from_is : gives.bundle.from ≡ player
  from_is = gives.from ∙ own

  theirs : put links player new gives.bundle.to ≡ links to
  theirs = ap (put links player new) gives.goes ∙ put_off links player to new apart

  pub in_step : IsInStep limits (put links player new) gives.bundle
  in_step = record {
    sender = omega (arith, from_is, mine);
    receiver = omega (arith, gives.goes, below);
    apart = λ e. apart (sym gives.goes ∙ sym e ∙ from_is);
    plain = ap (λ (k : ℕ). k == 4) gives.cause ∙ told_plain old.node.phase;
    asks = subst (All IsQuiet) (sym sent_is.1) (All-take IsQuiet sent_is.0 (map (opened_from old.node.me) packets)
        (going_asks old.node.me (old.peers to).kept taken asks_taken was.chain));
    follows = λ e.
        let goes_on : has_ended (links to).node ≡ false = ap (λ (l : Linked). has_ended l.node) (sym theirs) ∙ e in
        let goes = first_goes sent_is.0 (old.peers to).kept.done (map (opened_from old.node.me) packets)
        (going_goes old.node.me (old.peers to).kept taken (low goes_on) was.chain) in
        let there = was.there goes_on in
        let same : got (links to).node player ≡ got (put links player new gives.bundle.to).node gives.bundle.from =
        (λ i. got (sym theirs i).node (sym from_is i)) in
        subst (HasNoGap (got (put links player new gives.bundle.to).node gives.bundle.from)) (sym sent_is.1)
        (later_goes (old.peers to).kept.done (got (put links player new gives.bundle.to).node gives.bundle.from)
        (take sent_is.0 (map (opened_from old.node.me) packets)) (omega (arith, there, same)) goes);
  }

  pub was_in_step : WasInStep seal limits (put links player new) bytes
  was_in_step = (gives.bundle, gives.fits, gives.is, in_step)
