-- A datagram brings all that its sender made by then.
use Rattle.std.proofs.Common.{◌≡◌, ◌≢◌, ◌<◌, ◌≤◌, ◌+◌, ℕ, Bool, true, false, List, [], ◌∷◌, map, refl, ap, sym, ◌∙◌, subst, arith, All, Option, Some, None, inl, inr}
use Rattle.std.proofs.lemmas.{Bool.{lt-ltb, ne_eqb, true≢false}, Option.same_Some}
use Rattle.std.specs.Prelude.{if◌then◌else◌}
use Rattle.dn_seal.specs.declared.{opened.Opened.Opened, seal.Seal.Seal}
use Rattle.dn_setup.specs.Settings.{Settings}
use Rattle.dn_machine.specs.{declared.{answers.Phase.TheVariants.Playing, peer.Peer.Peer}, Flight.Play, Limits.Limits, Node.put, Sending.{after_sent, commands_flight, lag, on_send, request_to}}
use Rattle.dn_machine.proofs.{Put.put_off, Stages.lag_low}
use Rattle.dn_lockstep.specs.{Marking.Marking, Represents.Represents, Sent.sent_to, Told.{got, made}}
use Rattle.dn_lockstep.proofs.Shown.{made_is}
use Rattle.dn_survivor.specs.{OneGame.Session, Surviving.Surviving}
use Rattle.dn_link.specs.{CaughtUp.{next_to, AreCaughtUp, Brings, HasGrown, IsCaughtUp, IsClose, IsInStep, IsKeptChain, StillGoesOn, last_end}, Counting.has_ended, Hearing.carried_of}
use Rattle.dn_link.specs.{Kept.{IsKeptRising, Unacknowledged, end_of, kept_after, taken_by, takes_packet}, Linked.{Gives, Linked}, Packets.{opened_from, own_in}, Packing.ArePacked, Pacing.{PaceState, is_brief}}
use Rattle.dn_link.specs.{Relays.handed_part, RemainingLinks.AreRemainingLinks, Text.IsPart, declared.bundle.{Bundle.Bundle, Carried.Carried}}
use Rattle.dn_link.proofs.{Catching.not_yet, CatchingOut.{covered, done_same, kept_is, pair, same_made, sends_then, two_windows}, Fitting.{after_all, all_go, all_sized, ends_past, fits, gives_own, goes_first}}
use Rattle.dn_link.proofs.{Following.gone_or_idle, Leaving.All-front, Linking.taken_given, Makers.{chain_goes, later_goes}, Relinking.AreGiven, Sending.{Follows, IsSized, follows}}
use Rattle.dn_machine.specs.Node as machine
use Rattle.dn_link.proofs.RemainingCalls as base

-- they end no earlier behind a later tic
pub last_up : (tic later : ℕ) (packets : List Opened) → tic ≤ later → last_end tic packets ≤ last_end later packets
last_up tic later [] less = less
last_up tic later (packet ∷ packets) less = omega arith

-- what is so of a datagram stays so
pub in_step_on : (limits : Limits) (links later : ℕ → Linked) (bundle : Bundle) → HasGrown limits links later
    → IsInStep limits links bundle → IsInStep limits later bundle
in_step_on limits links later bundle grown is = grind (arith, later_goes, not_yet)

pub brings_on : (limits : Limits) (links later : ℕ → Linked) (bundle : Bundle) (count : ℕ)
    → HasGrown limits links later → bundle.from < limits.players → bundle.to < limits.players
    → Brings count links bundle → Brings count later bundle
brings_on limits links later bundle count grown from to was e = grind (arith, not_yet, last_up)

-- a playing node gives its commands
plays_sent : (limits : Limits) (me : ℕ) (m : machine.Node) (to : ℕ) → to < limits.players → me ≢ to
    → m.phase ≡ Playing
    → sent_to to limits me m ≡ (after_sent limits me m to, Some (commands_flight limits me m to Play (request_to m to)))
unfolding on_send
plays_sent limits me m to below apart plays = rw (lt-ltb to limits.players below, ne_eqb me to apart, plays) refl

module _ (marking : Marking) (limits : Limits) (settings : Settings) (session : Session) (links : ℕ → Linked)
    (linked : AreRemainingLinks marking limits settings session links) (player : ℕ) (mine : player < limits.players)
    (were : AreCaughtUp limits links) (to : ℕ) (below : to < limits.players) (apart : to ≢ player) (seal : Seal)
    (pace : PaceState) (new : Linked) (bytes : List ℕ) (gives : Gives seal pace to (links player) new bytes)
    (twelve : 12 ≤ limits.places) (near : made (links player).node ≤ next_to (links player).node to + 12)
    (plays : (links player).node.phase ≡ Playing) where
  abbrev old : Linked
  old = links player

  abbrev m : machine.Node
  m = linked.game.last.game.nodes player

  shows : Represents limits player old.node m
  shows = base.shows marking limits settings session links linked player mine

  abbrev kept : Unacknowledged
  kept = (old.peers to).kept

  abbrev taken : Option Carried
  taken = taken_by (old.peers to).left gives.given

  -- the packet of the moment
  abbrev packet : Carried
  packet = carried_of (commands_flight limits player m to Play (request_to m to))

  given : gives.given ≡ Some packet
  given = grind (arith, shows, plays_sent)

  count : made old.node ≡ machine.made player m
  count = made_is limits player old.node m shows (omega (arith, mine, shows.whose.number, shows.whose.players))

  next : next_to old.node to ≡ (m.peers to).resend
  next = ap (λ (x : Peer). x.resend) (shows.peers.known to below)

  in_time : has_ended (links to).node ≡ false → made old.node ≤ next_to old.node to + old.node.places
  in_time goes_on = omega (arith, near, twelve, shows.whose.places)

  theirs : put links player new gives.bundle.to ≡ links to
  theirs = ap (put links player new) gives.goes ∙ put_off links player to new apart

  own : old.node.me ≡ player
  own = base.own marking limits settings session links linked player mine

  -- while the peer has not ended
  module _ (goes_on : has_ended (links to).node ≡ false) where
    follows_on : Follows limits player m to (after_sent limits player m to) packet
    follows_on = follows limits player m to (sym shows.whose.most)
        (omega (arith, near, twelve, next, count)) Play (request_to m to) false refl

    -- it ends with the last command that was made
    all : made old.node ≤ end_of packet
    all = let is = follows_on.all (omega (arith, near, next, count)) in omega (arith, is, count)

    moment : (one : Carried) → taken ≡ Some one → packet ≡ one
    moment one e = same_Some packet one (sym given ∙ sym (taken_given (old.peers to).left gives.given one e))

    now : IsCaughtUp limits player to new (links to)
    now = pair marking limits settings session links linked player mine were to below apart seal pace new bytes gives in_time

    -- and the next one goes on behind it, or repeats it
    pub sent : made old.node ≤ next_to new.node to + lag limits
    sent = elim ((sends_then marking limits settings session links linked player mine were to below apart seal pace new
        bytes gives in_time goes_on).moment packet (sym given)) [
          | inl none ↦ omega (arith, all, none)
          | inr goes ↦ let low = goes.1 in omega (arith, all, low)
        ]

    -- so all that it made is covered
    covered_all : made old.node ≤ (new.peers to).kept.covered
    covered_all = go (takes_packet (old.peers to).left packet) refl
      where
        covers : StillGoesOn limits player to old new
            × ((one : Carried) → taken ≡ Some one → end_of one ≤ (new.peers to).kept.covered)
        covers = covered marking limits settings session links linked player mine were to below apart seal pace new bytes
            gives in_time goes_on

        taken_is : taken ≡ (if takes_packet (old.peers to).left packet then Some packet else None)
        taken_is = ap (taken_by (old.peers to).left) given

        go : (test : Bool) → takes_packet (old.peers to).left packet ≡ test → made old.node ≤ (new.peers to).kept.covered
        go true takes = let end = covers.1 packet (taken_is ∙ rw takes refl) in omega (arith, end, all)
        go false idle = elim (gone_or_idle (old.peers to).left packet idle) [
          | inl gone ↦
              let ended = (linked.told player mine).left to gone.0 gone.1 in
              absurd (true≢false (sym ended
              ∙ ap (λ (s : Surviving). has_ended s.lockstep) (sym (linked.survivors to below)) ∙ goes_on))
          | inr none ↦
              let before = (were.pairs player to mine below apart).next goes_on in
              let more = covers.0.covered in
              let start = follows_on.start in
              omega (arith, all, none, start, next, before, more)
        ]

    -- each packet that is kept then has its bytes
    sized : All IsSized (kept_after kept taken).packets
    sized = after_all IsSized kept taken
        (all_sized session.packets linked.game.fair old.node.me to kept.packets
        (subst (λ (k : ℕ). AreGiven session.packets k to kept.packets) (sym own) (linked.kept player to mine)))
        (λ one e. subst IsSized (moment one e) follows_on.sized)

    there : is_brief pace to ≡ false → made old.node ≤ last_end (got (links to).node player) (own_in gives.bundle)
    there full =
        let is = kept_is marking limits settings session links linked player mine were to below apart seal pace new bytes
        gives in_time in
        let after = kept_after kept taken in
        let P : Carried → Type 0 = λ one. made old.node ≤ end_of one in
        let first = goes_first P kept taken (λ one e. subst P (moment one e) all) in
        let packed = subst (λ (ps : List Carried). ArePacked old.node.me ps gives.own) first.1 (gives.packed full) in
        let few = two_windows marking limits settings session links linked player mine were to below apart goes_on in
        let back = linked.game.window.back in
        let done = ap (λ (k : Unacknowledged). k.done) is in
        let made_then = same_made marking limits settings session links linked player mine were to below apart seal pace new
        bytes gives in_time goes_on in
        let least = now.least goes_on in
        let chain = subst IsKeptChain is now.chain in
        let light = fits old.node.me (lag limits) (made old.node) after.done 24 after.packets after.covered (next_to new.node to)
        (lag_low limits) (subst IsKeptRising is now.rising) chain
        (subst (λ (k : Unacknowledged). IsClose (lag limits) k.packets (next_to new.node to)) is (now.close goes_on))
        sized (omega (arith, least, made_then)) (omega (arith, few, back, done_same kept taken)) (omega arith) in
        let parts = All-front IsPart gives.own (map handed_part gives.behind.handed)
        (subst (All IsPart) gives.behind.parts gives.fits.parts) in
        let go = all_go old.node.me after.packets first.0 gives.own packed parts light.0 (omega (arith, light.1)) in
        let ends = chain_goes old.node.me after.done after.packets after.covered chain in
        let before = now.there goes_on in
        let up = last_up after.done (got (links to).node player) (map (opened_from old.node.me) after.packets)
        (omega (arith, before, done)) in
        let past = ends_past old.node.me (got (links to).node player) (made old.node) packed.count after.packets first.0 go
        first.2 (omega (arith, up, ends.1, covered_all, ap (λ (k : Unacknowledged). k.covered) is)) in
        subst (λ (os : List Opened). made old.node ≤ last_end (got (links to).node player) os)
        (sym (gives_own seal pace to old new bytes gives ∙ packed.front)) past

  pub brings : is_brief pace to ≡ false → Brings (made old.node) (put links player new) gives.bundle
  brings full e = grind (arith, theirs, own, there)
