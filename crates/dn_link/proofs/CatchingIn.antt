-- The links of a game stay caught up where one takes in a datagram.
use Rattle.std.proofs.Common.{◌≡◌, ◌≢◌, ◌<◌, ◌≤◌, ◌+◌, ◌-◌, ℕ, zero, suc, Bool, true, false, List, length, refl, ap, sym, ◌∙◌, subst, arith, Option, Some, None, All, inl, inr}
use Rattle.std.proofs.lemmas.Bool.{and_from, and_parts, and_right, cases_eq, eq-eqb, ne_eqb, leb-true, lt-ltb, ltb-true, true≢false}
use Rattle.std.specs.Prelude.{◌==◌, is_some, nat_le, nat_lt, not, slice_index, Result, Ok, Err}
use Rattle.dn_setup.specs.Settings.{Settings}
use Rattle.dn_machine.specs.{Limits.Limits, Node.{is_ended, put}, Sending.lag}
use Rattle.dn_machine.proofs.Put.{put_at, put_off}
use Rattle.dn_lockstep.specs.{Contents.{Contents, end_in}, Marking.Marking, Tables.count_of, Told.{got, made}}
use Rattle.dn_survivor.specs.{OneGame.{Session, with_survivor}, Surviving.Surviving}
use Rattle.dn_survivor.proofs.Pairs.{fitted}
use Rattle.dn_seal.specs.{declared.seal.Seal.Seal, Opening.Sealing}
use Rattle.dn_open.specs.Sealed.{sealing_of}
use Rattle.dn_link.specs.{Linked.{HearsPeer, Linked, PeerState, Receives, ReceivesAs, TakesIn, after_report, certain, done_with, has_given_up, is_peer, met, surviving_of, takes}, Ends.{excludes, left_by}}
use Rattle.dn_link.specs.{RemainingLinks.{AreRemainingLinks, HasReached, IsGenuineIn, WasGiven, WasSealedIn, IsLater}, Counting.{has_ended, has_of, held, held_of, reached, with_end}, Hearing.{ByTest, HearsAll}}
use Rattle.dn_link.specs.{CaughtUp.{next_to, AreCaughtUp, Brings, HasExit, HasNoGap, IsCaughtUp, IsClose, IsInStep, IsInStepTo, IsKeptChain, StayCaughtUp, last_end}, Kept.{IsKeptRising, Unacknowledged, acknowledged}}
use Rattle.dn_link.specs.{declared.{bundle.{Bundle.Bundle, BundleFault.BundleFault}, received.Received.{Received, TheVariants.{Excluded, GivenUp, Heard, Stranger}}}, Text.{IsBundle, sealed_bytes}}
use Rattle.dn_link.specs.{Packets.{heard_in, own_in, packets_in}, Reading.{IsBundledAs, IsDatagramOf}}
use Rattle.dn_link.proofs.{Makers.{chain_past, close_past, HaveNoGaps, ends_of, parts_ask, parts_exit, parts_go}, Reporting.{AreTakenIn, taken_whole}, Arriving.{AreHere, all_hears}, Catching.{ends_on, not_yet, relinked, still}}
use Rattle.dn_link.proofs.{Linking.same_bundle, Relinking.still_whole, Together.{AreTogether, together}, Leaving.{at_most_there, unended, parts_heard}, Covered.rises_past}
use Rattle.dn_machine.specs.declared.answers.Phase.TheVariants as phase
use Rattle.dn_link.specs.declared.bundle.Relay as relay
use Rattle.dn_survivor.proofs.OneGame as one_game
use Rattle.dn_link.proofs.RemainingCalls as base

-- no more is certain than this, unless the peer has left
at_most : (left : Option ℕ) (node : Contents) (count bound : ℕ) → ((cause : ℕ) → left ≢ Some cause)
    → certain node count ≤ bound → done_with left node count ≤ bound
at_most (Some cause) node count bound stays less = absurd (stays cause refl)
at_most None node count bound stays less = less

-- by what is there of four players there are no more of any
held_low : (node : Contents) (player : ℕ) → held node player ≤ got node player
held_low node player = grind arith

held_most : (node : Contents) (player : ℕ) → slice_index (held_of node) player ≤ got node player
held_most node zero = held_low node 0
held_most node (suc zero) = held_low node 1
held_most node (suc (suc zero)) = held_low node 2
held_most node (suc (suc (suc zero))) = held_low node 3
held_most node (suc (suc (suc (suc player)))) = omega arith

module _ (marking : Marking) (limits : Limits) (settings : Settings) (session : Session) (links : ℕ → Linked)
    (linked : AreRemainingLinks marking limits settings session links) (player : ℕ)
    (mine : player < limits.players) (were : AreCaughtUp limits links) (new : Linked)
    (after : AreRemainingLinks marking limits settings (with_survivor session player (surviving_of new))
    (put links player new)) (later : IsLater session (with_survivor session player (surviving_of new))) where
  abbrev old : Linked
  old = links player

  agreed : AreTogether limits session
  agreed = together marking limits settings session links linked were.whole

  -- the locksteps of the survivors
  abbrev lockstep : ℕ → Contents
  lockstep p = (session.survivors p).lockstep

  nodes : (p : ℕ) → p < limits.players → (links p).node ≡ lockstep p
  nodes p below = ap (λ (s : Surviving). s.lockstep) (linked.survivors p below)

  node : old.node ≡ lockstep player
  node = nodes player mine

  own : old.node.me ≡ player
  own = base.own marking limits settings session links linked player mine

  -- nothing was changed
  nothing : new ≡ old → StayCaughtUp limits links player new
  nothing same = still limits links player new mine were (record {
    others = λ p l n. ap (λ (l : Linked). got l.node p) same;
    own = omega (arith, ap (λ (l : Linked). got l.node player) same);
    no_more = λ left. ap (λ (l : Linked). got l.node player) same;
    sends = λ p l. ap (λ (l : Linked). next_to l.node p) same;
    wants = λ p l. ap (λ (l : Linked). (l.node.peers p).want) same;
    ran = omega (arith, ap (λ (l : Linked). l.node.ran) same);
    plays_on = λ e. ap (λ (l : Linked). is_ended l.node.phase) (sym same) ∙ e;
  }) (ap (λ (l : Linked). l.others.gone) same) (λ peer. ap (λ (l : Linked). (l.peers peer).kept) same)
      (λ was. ap (λ (l : Linked). has_ended l.node) same ∙ was)

  module _ (bundle : Bundle) (below : bundle.from < limits.players) (apart : bundle.from ≢ player)
      (goes : bundle.to ≡ player) (all : All (WasGiven session.packets player) (packets_in bundle))
      (reports : HasReached session.survivors bundle) (in_step : IsInStep limits links bundle) where
    abbrev from : ℕ
    from = bundle.from

    abbrev count : ℕ
    count = slice_index bundle.counts.got old.node.me

    theirs : (links from).node ≡ lockstep from
    theirs = nodes from below

    -- it has of the player's commands what it reports, or knows the end with them
    told : count ≤ with_end (got (lockstep from) player) (end_in (lockstep from) player)
    told =
        let n = lockstep from in
        let is = reports.got player (λ e. apart (sym e)) in
        let same = ap (λ (k : ℕ). slice_index bundle.counts.got k) own in
        let has : has_of n player ≡ with_end (count_of n.rings player) (end_in n player) =
        rw (lt-ltb player n.players (omega (arith, mine, agreed.several from below))) refl in
        omega (arith, is, same, has)

    ends : (end : Option ℕ) → end_in (lockstep from) player ≡ end → is_some end ≡ true
        → is_some (end_in old.node old.node.me) ≡ true
    ends None is known = absurd (cc)
    ends (Some end) is known =
        ap is_some ((λ i. end_in (node i) (own i)) ∙ agreed.ends from player end below mine is)

    -- so this is there
    certain_there : certain old.node count ≤ got (lockstep from) player
    certain_there =
        let n = lockstep from in
        at_most_there (is_some (end_in old.node old.node.me)) count (made old.node) (got n player) (end_in n player)
        told (ends (end_in n player) refl)

    -- what came of the packets
    record Came : Type 0 where
      least : (p : ℕ) → p < limits.players → got old.node p ≤ got new.node p
      own : got new.node player ≡ got old.node player
      idle : is_ended old.node.phase ≡ true → (p : ℕ) → p < limits.players → got new.node p ≡ got old.node p
      sends : (p : ℕ) → p < limits.players → next_to new.node p ≡ next_to old.node p
      wants : (p : ℕ) → p < limits.players → p ≢ player → (new.node.peers p).want ≡ false
      ran : new.node.ran ≡ old.node.ran
      plays_on : is_ended new.node.phase ≡ false → is_ended old.node.phase ≡ false

    none : (p : ℕ) → p < limits.players → p ≢ player → (old.node.peers p).want ≡ false
    none p l n = (were.pairs player p mine l n).asks

    -- one that has not ended has not left
    going : is_ended old.node.phase ≡ false → has_ended old.node ≡ false
    going e = and_right old.node.played (is_ended old.node.phase) e

    abbrev first : ℕ
    first = got old.node from

    abbrev IsLast : ℕ → Type 0
    IsLast last = new.node.phase ≡ phase.Playing → last ≤ got new.node from

    -- what it takes of others has no gap
    taken_low : (relay : relay.Relay) → takes old relay ≡ true → relay.run.start ≤ got old.node relay.player
    taken_low relay is =
        let within = leb-true relay.run.start (slice_index (held_of old.node) relay.player)
        (and_parts (not (has_given_up old relay.player))
        (nat_le relay.run.start (slice_index (held_of old.node) relay.player)) is).1 in
        let most = held_most old.node relay.player in
        omega (arith, within, most)

    -- and it knows the sender's end
    abbrev pub Learns : Type 0
    Learns = new.node.phase ≡ phase.Playing → (end : ℕ) → HasExit from end (own_in bundle) → end + 1 ≤ has_of new.node from

    came_heard : HearsAll (heard_in (takes old) bundle) old.node new.node
        → Came × IsLast (last_end first (own_in bundle)) × Learns
    came_heard heard =
        let here : is_ended old.node.phase ≡ false → has_ended (links bundle.to).node ≡ false =
        (λ e. ap (λ (k : ℕ). has_ended (links k).node) goes ∙ going e) in
        let to : (links bundle.to).node ≡ old.node = ap (λ (k : ℕ). (links k).node) goes in
        let go : is_ended old.node.phase ≡ false → HaveNoGaps (got old.node) (heard_in (takes old) bundle)
        × (last_end first (own_in bundle) ≤ ends_of (got old.node) (heard_in (takes old) bundle) from) =
        (λ e. parts_go (takes old) from (got old.node) taken_low bundle.parts.items (got old.node) first (omega arith)
        (λ p. omega arith)
        (subst (λ (n : Contents). HasNoGap (got n from) (own_in bundle)) to (in_step.follows (here e)))) in
        let game : AreHere marking limits settings session player mine old.others (were.whole player mine) (lockstep player) =
        subst (λ (n : Contents). AreHere marking limits settings session player mine old.others (were.whole player mine) n)
        node (one_game.keeps marking limits settings linked.game player (surviving_of old) (linked.survivors player mine)) in
        let them = all_hears marking limits settings session player mine old.others (were.whole player mine)
        (heard_in (takes old) bundle) (lockstep player) new.node (got old.node) game (linked.started player mine)
        (λ p l n. ap (λ (n : Contents). (n.peers p).want) (sym node) ∙ none p l n)
        (λ k d l. (
          parts_heard (has_given_up old) (held_of old.node) from (WasGiven session.packets player) bundle.parts.items all k d l,
          parts_ask (takes old) from (got old.node) taken_low bundle.parts.items in_step.asks k d l,
        ))
        (λ e. (
          (λ p l. omega (arith, ap (λ (n : Contents). got n p) node)),
          (go (ap (λ (n : Contents). is_ended n.phase) node ∙ e)).0,
        ))
        (subst (λ (n : Contents). HearsAll (heard_in (takes old) bundle) n new.node) node heard) in (
          record {
            least = λ p l. let more = them.least p l in omega (arith, more, ap (λ (n : Contents). got n p) node);
            own = them.own ∙ ap (λ (n : Contents). got n player) (sym node);
            idle = λ e p l. them.idle (ap (λ (n : Contents). is_ended n.phase) (sym node) ∙ e) p l
                ∙ ap (λ (n : Contents). got n p) (sym node);
            sends = λ p l. them.sends p l ∙ ap (λ (n : Contents). next_to n p) (sym node);
            wants = them.wants;
            ran = them.ran ∙ ap (λ (n : Contents). n.ran) (sym node);
            plays_on = λ e. ap (λ (n : Contents). is_ended n.phase) node ∙ them.ended e;
          },
          (λ plays.
              let goes_on = them.ended (ap is_ended plays) in
              let last = (go (ap (λ (n : Contents). is_ended n.phase) node ∙ goes_on)).1 in
              let reach = them.reach plays from below in
              omega (arith, last, reach)),
          (λ plays end has.
              them.exit plays from end (parts_exit (takes old) from (got old.node) taken_low end bundle.parts.items has)),
        )

    stays : has_ended old.node ≡ true → has_ended new.node ≡ true
    stays = ends_on session (with_survivor session player (surviving_of new)) player old new
        (linked.survivors player mine) refl later

    module _ (takes_it : AreTakenIn bundle old new) where
      came : Came
      came = (came_heard takes_it.heard).0

      -- what a peer that has not ended is known to have by its commands, it has
      has_reached : (peer : ℕ) → peer < limits.players → peer ≢ player → has_ended (links peer).node ≡ false
          → got new.node peer ≤ got (links peer).node player + limits.ahead
      has_reached peer l n goes_on = by (is_ended old.node.phase) refl
        where
          pair_was : IsCaughtUp limits player peer old (links peer)
          pair_was = were.pairs player peer mine l n

          by : (test : Bool) → is_ended old.node.phase ≡ test
              → got new.node peer ≤ got (links peer).node player + limits.ahead
          by true e =
              let same = came.idle e peer l in
              let there = pair_was.there goes_on in
              omega (arith, same, there, pair_was.near)
          by false e =
              let held = (fitted marking limits settings (with_survivor session player (surviving_of new)) after.game).held
              player peer mine l in
              let ahead = agreed.ahead peer l in
              let run = agreed.run peer player l mine (unended (lockstep player) player (agreed.numbers player mine)
              (ap has_ended (sym node) ∙ going e)) in
              omega (
                arith,
                held,
                ahead,
                run,
                ap (λ (s : Surviving). got s.lockstep peer) (put_at session.survivors player player (surviving_of new) refl),
                ap (λ (s : Surviving). made s.lockstep) (put_off session.survivors player peer (surviving_of new) n),
                ap (λ (n : Contents). got n player) (nodes peer l),
              )

      -- of a peer, which sent the datagram or did not, before what was heard acknowledges
      record IsMid (peer : ℕ) (mid : PeerState) : Type 0 where
        rising : IsKeptRising mid.kept
        chain : IsKeptChain mid.kept
        there : has_ended (links peer).node ≡ false → mid.kept.done ≤ got (links peer).node player
        more : (old.peers peer).kept.covered ≤ mid.kept.covered
        close : has_ended (links peer).node ≡ false → IsClose (lag limits) mid.kept.packets (next_to old.node peer)

      mid_same : (peer : ℕ) → peer < limits.players → peer ≢ player → (mid : PeerState)
          → mid.kept ≡ (old.peers peer).kept → IsMid peer mid
      mid_same peer l n mid same =
          let was = were.pairs player peer mine l n in
          record {
            rising = subst IsKeptRising (sym same) was.rising;
            chain = subst IsKeptChain (sym same) was.chain;
            there = λ goes_on. let before = was.there goes_on in
                omega (arith, before, ap (λ (k : Unacknowledged). k.done) same);
            more = omega (arith, ap (λ (k : Unacknowledged). k.covered) same);
            close = λ goes_on. subst (λ (k : Unacknowledged). IsClose (lag limits) k.packets (next_to old.node peer)) (sym same)
                (was.close goes_on);
          }

      abbrev mid_from : PeerState
      mid_from = after_report old.node bundle (old.peers from)

      mid_known : IsMid from mid_from
      mid_known =
          let was = were.pairs player from mine below apart in
          let left = left_by bundle (old.peers from).left in
          record {
            rising = rises_past _ _ _ (done_with left old.node count) was.rising;
            chain = chain_past _ _ _ (done_with left old.node count) was.rising was.chain;
            there = λ goes_on.
                let before = was.there goes_on in
                let less = at_most left old.node count (got (links from).node player) (not_left goes_on)
                (let sure = certain_there in omega (arith, sure, ap (λ (n : Contents). got n player) theirs)) in
                omega (arith, before, less);
            more = omega arith;
            close = λ goes_on. close_past (lag limits) (old.peers from).kept.packets (next_to old.node from)
                (done_with left old.node count) (was.close goes_on);
          }
        where
          not_left : has_ended (links from).node ≡ false → (cause : ℕ) → left_by bundle (old.peers from).left ≢ Some cause
          not_left goes_on cause left =
              let here : ((put links player new player).peers from).left ≡ Some cause =
              ap (λ (l : Linked). (l.peers from).left) (put_at links player player new refl) ∙ ap
              (λ (f : ℕ → PeerState). (f from).left) takes_it.peers ∙ ap (λ (t : PeerState). t.left)
              (put_at old.peers from from mid_from refl) ∙ left in
              let gone = (after.told player mine).left from cause here in
              true≢false (sym gone
              ∙ ap (λ (s : Surviving). has_ended s.lockstep) (put_off session.survivors player from (surviving_of new) apart)
              ∙ ap has_ended (sym theirs) ∙ goes_on)

      mid_of : (peer : ℕ) → peer < limits.players → peer ≢ player → IsMid peer ((met bundle old).peers peer)
      mid_of peer l n = elim (cases_eq peer from) [
        | inl at ↦
            subst (IsMid peer) (sym (put_at old.peers from peer mid_from at))
            (subst (λ (k : ℕ). IsMid k mid_from) (sym at) mid_known)
        | inr off ↦ mid_same peer l n _ (ap (λ (t : PeerState). t.kept) (put_off old.peers from peer mid_from off))
      ]

      pub pair : (peer : ℕ) → peer < limits.players → peer ≢ player → IsCaughtUp limits player peer new (links peer)
      pair peer l n =
          let was = were.pairs player peer mine l n in
          let mid = mid_of peer l n in
          let state = (met bundle old).peers peer in
          let kept : (new.peers peer).kept ≡ acknowledged state.kept (reached new.node peer) =
          ap (λ (f : ℕ → PeerState). (f peer).kept) takes_it.peers in
          let done = ap (λ (k : Unacknowledged). k.done) kept in
          let covered = ap (λ (k : Unacknowledged). k.covered) kept in
          let next = came.sends peer l in
          record {
            rising = subst IsKeptRising (sym kept) (rises_past _ _ _ (reached new.node peer) mid.rising);
            chain = subst IsKeptChain (sym kept) (chain_past _ _ _ (reached new.node peer) mid.rising mid.chain);
            asks = came.wants peer l n;
            near = let is = reached_is peer l in omega (arith, done, is);
            there = λ goes_on.
                let before = mid.there goes_on in
                let has_it = has_reached peer l n goes_on in
                let is = reached_is peer l in
                omega (arith, done, before, has_it, is);
            next = λ goes_on. let before = was.next goes_on in omega (arith, before, mid.more, covered, next);
            least = λ goes_on. let before = was.least goes_on in omega (arith, before, next, came.own);
            close = λ goes_on. subst (λ (k : Unacknowledged). IsClose (lag limits) k.packets (next_to new.node peer)) (sym kept)
                (close_past (lag limits) state.kept.packets (next_to new.node peer) (reached new.node peer)
                (subst (IsClose (lag limits) state.kept.packets) (sym next) (mid.close goes_on)));
          }
        where
          reached_is : (peer : ℕ) → peer < limits.players → reached new.node peer ≡ got new.node peer - limits.ahead
          reached_is peer l =
              let shows = base.shows marking limits settings (with_survivor session player (surviving_of new))
              (put links player new) after player mine in
              let now = put_at links player player new refl in
              let players = ap (λ (l : Linked). l.node.players) (sym now) ∙ shows.whose.players in
              let ahead = ap (λ (l : Linked). l.node.ahead) (sym now) ∙ shows.whose.ahead in
              let in_game : nat_lt peer new.node.players ≡ true = lt-ltb peer new.node.players (omega (arith, l, players)) in
              rw in_game (ap (λ (k : ℕ). got new.node peer - k) ahead)

      pub taken_in : StayCaughtUp limits links player new
      taken_in = relinked limits links player new mine were (still_whole old new takes_it.gone (were.whole player mine)) pair came.least (omega (arith, came.ran))
          (λ which l off goes_on. let same = came.sends which l in omega (arith, same)) stays (λ left. came.own) came.plays_on

      -- a player that plays has all of them then
      pub brings : new.node.phase ≡ phase.Playing → last_end first (own_in bundle) ≤ got new.node from
      brings plays = (came_heard takes_it.heard).1 plays

      pub learns : Learns
      learns = (came_heard takes_it.heard).2

  -- any bytes that were sealed in step
  module _ (seal : Seal) (bytes : List ℕ) (answer : Received)
      (genuine : IsGenuineIn seal session player bytes) (in_step : IsInStepTo seal limits links player bytes)
    where
      -- what holds of a bundle that is taken in, and of any other
      module _ (P : Type 0) (other : new ≡ old → P)
          (takes : (bundle : Bundle) (below : bundle.from < limits.players) (apart : bundle.from ≢ player)
          (goes : bundle.to ≡ player) (all : All (WasGiven session.packets player) (packets_in bundle))
          (reached : HasReached session.survivors bundle) (step : IsInStep limits links bundle)
          (is : IsDatagramOf (sealing_of seal player) bytes bundle) → AreTakenIn bundle old new → P) where
        as_bundle : (bundle : Bundle) → IsDatagramOf (sealing_of seal player) bytes bundle
            → ReceivesAs (Ok bundle) old new answer → P
        as_bundle bundle is comes = go (is_peer old.node bundle.from) refl comes
          where
            of_plain : is_peer old.node bundle.from ≡ true → (test : Bool)
                → ByTest test ((answer ≡ Excluded bundle.from) × (new ≡ old)) ((answer ≡ Heard bundle.from) × TakesIn bundle old new) → P
            of_plain peer true comes = other comes.1
            of_plain peer false comes =
                let both = and_parts (nat_lt bundle.from old.node.players) (not (bundle.from == old.node.me)) peer in
                let inside = ltb-true bundle.from old.node.players both.0 in
                let count = (base.shows marking limits settings session links linked player mine).whose.players in
                let was = genuine bundle is in
                let same = same_bundle seal bytes bundle was.0 player is was.1 was.2 in
                let all = subst (λ (b : Bundle). All (WasGiven session.packets b.to) (packets_in b)) same was.3 in
                let reached = subst (HasReached session.survivors) same was.5 in
                let step = in_step bundle is in
                let one = same_bundle seal bytes bundle step.0 player is step.1 step.2 in
                takes bundle (omega (arith, inside, count))
                (λ e. true≢false (sym both.1 ∙ ap not (eq-eqb bundle.from old.node.me (e ∙ sym own))))
                is.to (subst (λ (k : ℕ). All (WasGiven session.packets k) (packets_in bundle)) is.to all) reached
                (subst (IsInStep limits links) one step.3) is
                (taken_whole bundle old new (were.whole player mine) comes.1)

            of_peer : is_peer old.node bundle.from ≡ true → (test : Bool)
                → ByTest test ((answer ≡ GivenUp bundle.from) × (new ≡ old)) (HearsPeer bundle old new answer) → P
            of_peer peer true comes = other comes.1
            of_peer peer false comes = of_plain peer (excludes bundle) comes

            go : (test : Bool) → is_peer old.node bundle.from ≡ test → ByTest test
                (ByTest (has_given_up old bundle.from) ((answer ≡ GivenUp bundle.from) × (new ≡ old))
                (HearsPeer bundle old new answer)) ((answer ≡ Stranger bundle.from) × (new ≡ old)) → P
            go true peer comes = of_peer peer (has_given_up old bundle.from) comes
            go false peer comes = other comes.1

        by_opened : (opened : Result Bundle BundleFault) → IsBundledAs (sealing_of seal player) bytes opened
            → ReceivesAs opened old new answer → P
        by_opened (Err fault) is comes = other comes.1
        by_opened (Ok bundle) is comes = as_bundle bundle is comes

        by_received : Receives seal bytes old new answer → P
        by_received receives = by_opened receives.0
            (subst (λ (k : ℕ). IsBundledAs (sealing_of seal k) bytes receives.0) own receives.1) receives.2

      pub received : Receives seal bytes old new answer → StayCaughtUp limits links player new
      received = by_received (StayCaughtUp limits links player new) nothing
          (λ bundle below apart goes all reached step is takes. taken_in bundle below apart goes all reached step takes)

      -- a datagram that comes to a player that plays
      module _ (read_back : (sealing : Sealing) (bundle : Bundle) → 8 ≤ length sealing.seal.game → IsBundle bundle
          → bundle.to ≡ sealing.me → length (sealed_bytes sealing.seal bundle) ≤ 1200
          → (read : Result Bundle BundleFault) → IsBundledAs sealing (sealed_bytes sealing.seal bundle) read
          → read ≡ Ok bundle)
          (bundle : Bundle) (is : IsDatagramOf (sealing_of seal player) bytes bundle)
          (plays : new.node.phase ≡ phase.Playing) (receives : Receives seal bytes old new answer) where
        was : WasSealedIn seal session bytes
        was = genuine bundle is

        same : was.0 ≡ bundle
        same = same_bundle seal bytes bundle was.0 player is was.1 was.2

        step : IsInStep limits links bundle
        step =
            let in_it = in_step bundle is in
            subst (IsInStep limits links) (same_bundle seal bytes bundle in_it.0 player is in_it.1 in_it.2) in_it.3

        apart : bundle.from ≢ player
        apart e = step.apart (e ∙ sym is.to)

        all : All (WasGiven session.packets player) (packets_in bundle)
        all = subst (λ (k : ℕ). All (WasGiven session.packets k) (packets_in bundle)) is.to
            (subst (λ (b : Bundle). All (WasGiven session.packets b.to) (packets_in b)) same was.3)

        tells : HasReached session.survivors bundle
        tells = subst (HasReached session.survivors) same was.5

        taken : AreTakenIn bundle old new
        taken =
            let peer : is_peer old.node bundle.from ≡ true =
            and_from (nat_lt bundle.from old.node.players) (not (bundle.from == old.node.me))
            (lt-ltb bundle.from old.node.players (omega (
              arith,
              step.sender,
              (base.shows marking limits settings session links linked player mine).whose.players,
            ))) (ap not (ne_eqb bundle.from old.node.me (λ e. apart (e ∙ own)))) in
            let opened : receives.0 ≡ Ok bundle =
            read_back (sealing_of seal player) bundle is.game is.fits is.to
            (subst (λ (b : List ℕ). length b ≤ 1200) is.is is.short) receives.0
            (subst (λ (b : List ℕ). IsBundledAs (sealing_of seal player) b receives.0) is.is
            (subst (λ (k : ℕ). IsBundledAs (sealing_of seal k) bytes receives.0) own receives.1)) in
            let comes = subst (λ (r : Result Bundle BundleFault). ReceivesAs r old new answer) opened receives.2 in
            let inner = subst (λ (test : Bool). ByTest test (ByTest (has_given_up old bundle.from)
            ((answer ≡ GivenUp bundle.from) × (new ≡ old)) (HearsPeer bundle old new answer))
            ((answer ≡ Stranger bundle.from) × (new ≡ old))) peer comes in
            let heard : HearsPeer bundle old new answer =
            subst (λ (test : Bool). ByTest test ((answer ≡ GivenUp bundle.from) × (new ≡ old))
            (HearsPeer bundle old new answer)) (were.whole player mine bundle.from) inner in
            let taken : (answer ≡ Heard bundle.from) × TakesIn bundle old new =
            subst (λ (test : Bool). ByTest test ((answer ≡ Excluded bundle.from) × (new ≡ old))
            ((answer ≡ Heard bundle.from) × TakesIn bundle old new)) step.plain heard in
            taken_whole bundle old new (were.whole player mine) taken.1

        -- it brings all of its packets
        pub brought : (count : ℕ) → Brings count links bundle → count ≤ got new.node bundle.from
        brought count brings_it =
            let last = brings bundle step.sender apart is.to all tells step taken plays in
            let to : links bundle.to ≡ old = ap links is.to in
            let not_ended : has_ended old.node ≡ false = not_yet (ends_on session
            (with_survivor session player (surviving_of new)) player old new (linked.survivors player mine) refl later)
            (and_right new.node.played (is_ended new.node.phase) (ap is_ended plays)) in
            let more = brings_it (ap (λ (l : Linked). has_ended l.node) to ∙ not_ended) in
            let same_end = ap (λ (l : Linked). last_end (got l.node bundle.from) (own_in bundle)) to in
            omega (arith, last, more, same_end)

        -- and the end, by an EXIT packet
        pub learnt : (end : ℕ) → HasExit bundle.from end (own_in bundle) → end + 1 ≤ has_of new.node bundle.from
        learnt = learns bundle step.sender apart is.to all tells step taken plays
