-- A datagram of one who has left tells so.
use Rattle.std.proofs.Common.{◌≡◌, ◌≢◌, ◌<◌, ◌≤◌, ◌+◌, ◌-◌, ◌/◌, ℕ, Bool, true, false, List, [], ◌∷◌, ◌++◌, length, map, take, append-nil, refl, ap, sym, ◌∙◌, subst, arith, All, Option, Some, None, inl, inr}
use Rattle.std.proofs.{lemmas.{Bool.{and_parts, le-ltb, lt-ltb, ne_eqb, true≢false}, List.{length-append, length-map, map-append}}, Math.Seq.take-append_seam}
use Rattle.std.specs.{Prelude.{bit_and, is_none, not, slice_index, ◌&&◌, ◌==◌}, Option.option_map}
use Rattle.dn_packet.specs.Flags as flag
use Rattle.dn_seal.specs.declared.{opened.Opened.Opened, seal.Seal.Seal}
use Rattle.dn_setup.specs.Settings.{Settings}
use Rattle.dn_machine.specs.{declared.{answers.Phase.{Phase, TheVariants.{Listening, Gathering, Playing, Ended}}, peer.Peer.Peer}, Flight.{Exit, Flight, Kind, packet_of}, Limits.Limits}
use Rattle.dn_machine.specs.{Node.is_ended, Sending.{after_sent, commands_flight, lag, last_sent, left_kind, on_send}}
use Rattle.dn_machine.proofs.Stages.{lag_low}
use Rattle.dn_lockstep.specs.{Marking.Marking, Represents.Represents, Sent.{bytes_of, sent_to}, Told.{got, made}}
use Rattle.dn_lockstep.proofs.Shown.{made_is}
use Rattle.dn_open.proofs.Letters.{flags_at}
use Rattle.dn_survivor.specs.{OneGame.Session, Surviving.Surviving}
use Rattle.dn_link.specs.{CaughtUp.{AreCaughtUp, HasExit, IsCaughtUp, next_to}, Counting.has_ended, Hearing.carried_of, Kept.{Unacknowledged, commands_in, end_of, going, is_idle, taken_by}}
use Rattle.dn_link.specs.{Linked.{Gives, Linked}, Packets.{opened_from, own_in}, Packing.ArePacked, Pacing.{PaceState, is_brief}, Relays.handed_part, RemainingLinks.AreRemainingLinks}
use Rattle.dn_link.specs.{Text.IsPart, declared.bundle.Carried.Carried}
use Rattle.dn_link.proofs.{CatchingOut.{sends_then, two_windows}, Fitting.{all_go, all_sized, fits, gives_own, weight, weight_on}, Growing.ended_is, Leaving.All-front, Makers.exit_back, Relinking.AreGiven, Sending.{Follows, first_is, follows}}
use Rattle.dn_machine.specs.Node as machine
use Rattle.dn_link.proofs.RemainingCalls as base

not_all : (one two three : Bool) → three ≡ false → (one && (two && three)) ≡ false
not_all true true three e = e
not_all true false three e = refl
not_all false two three e = refl

high : (byte : ℕ) → byte / 16 ≡ flag.exit → 16 ≤ byte
high byte is = omega (arith, is)

-- one who has left gives its last commands
left_sent : (limits : Limits) (me : ℕ) (m : machine.Node) (to : ℕ) → to < limits.players → me ≢ to
    → machine.has_left m ≡ true → sent_to to limits me m
    ≡ (after_sent limits me m to, Some (commands_flight limits me m to (left_kind limits me m to) None))
unfolding on_send
left_sent limits me m to below apart left = go m.phase refl
  where
    both : (m.played ≡ true) × (is_ended m.phase ≡ true)
    both = and_parts m.played (is_ended m.phase) left

    go : (phase : Phase) → m.phase ≡ phase → sent_to to limits me m
        ≡ (after_sent limits me m to, Some (commands_flight limits me m to (left_kind limits me m to) None))
    go Listening e = absurd (true≢false (sym both.1 ∙ ap is_ended e))
    go Gathering e = absurd (true≢false (sym both.1 ∙ ap is_ended e))
    go Playing e = absurd (true≢false (sym both.1 ∙ ap is_ended e))
    go (Ended cause) e = rw (lt-ltb to limits.players below, ne_eqb me to apart, e, both.0) refl

module _ (marking : Marking) (limits : Limits) (settings : Settings) (session : Session) (links : ℕ → Linked)
    (linked : AreRemainingLinks marking limits settings session links) (player : ℕ) (mine : player < limits.players)
    (were : AreCaughtUp limits links) (to : ℕ) (below : to < limits.players) (apart : to ≢ player) (seal : Seal)
    (pace : PaceState) (new : Linked) (bytes : List ℕ) (gives : Gives seal pace to (links player) new bytes)
    (twelve : 12 ≤ limits.places)
    (near : made (links player).node ≤ next_to (links player).node to + 12)
    (left : has_ended (links player).node ≡ true) (goes_on : has_ended (links to).node ≡ false) where
  abbrev old : Linked
  old = links player

  abbrev m : machine.Node
  m = linked.game.last.game.nodes player

  shows : Represents limits player old.node m
  shows = base.shows marking limits settings session links linked player mine

  abbrev kept : Unacknowledged
  kept = (old.peers to).kept

  was : IsCaughtUp limits player to old (links to)
  was = were.pairs player to mine below apart

  own : old.node.me ≡ player
  own = base.own marking limits settings session links linked player mine

  count : made old.node ≡ machine.made player m
  count = made_is limits player old.node m shows (omega (arith, mine, shows.whose.number, shows.whose.players))

  next : next_to old.node to ≡ (m.peers to).resend
  next = ap (λ (x : Peer). x.resend) (shows.peers.known to below)

  least : (m.peers to).resend ≤ machine.made player m - lag limits
  least = let is = was.least goes_on in omega (arith, is, next, count, ap (λ (k : ℕ). got old.node k) own)

  in_time : machine.made player m ≤ (m.peers to).resend + limits.places
  in_time = omega (arith, near, next, count, twelve)

  exit_kind : left_kind limits player m to ≡ Exit
  exit_kind =
      let first = first_is limits player m to (sym shows.whose.most) in_time in
      let all = le-ltb (last_sent limits player m to) (machine.made player m)
      (omega (arith, near, next, count, first, shows.whose.most)) in
      rw all refl

  -- the packet of the moment
  abbrev exit : Flight
  exit = commands_flight limits player m to Exit None

  abbrev packet : Carried
  packet = carried_of exit

  follows_on : Follows limits player m to (after_sent limits player m to) packet
  follows_on = follows limits player m to (sym shows.whose.most) in_time Exit None true refl

  ends : end_of packet ≡ made old.node
  ends =
      let all = follows_on.all (omega (arith, near, next, count)) in
      elim follows_on.end [
        | inl none ↦ omega (arith, all, none, least, count)
        | inr most ↦ omega (arith, all, most, count)
      ]

  flags : slice_index (bytes_of exit) 3 / 16 ≡ flag.exit
  flags = flags_at (packet_of exit) (omega arith)

  given : gives.given ≡ Some packet
  given =
      let sent = left_sent limits player m to below (λ e. apart (sym e)) (sym (ended_is limits player old.node m shows) ∙ left)
      ∙ ap (λ (k : Kind). (after_sent limits player m to, Some (commands_flight limits player m to k None))) exit_kind in
      let answer = (gives.step.step limits player m shows).answer in
      answer ∙ ap (λ (r : machine.Node × Option Flight). option_map carried_of r.1) sent

  -- and the next one goes on behind it, or repeats its last command
  pub sent : made old.node ≤ next_to new.node to + lag limits
  sent = elim ((sends_then marking limits settings session links linked player mine were to below apart seal pace new
      bytes gives (λ plays. omega (arith, in_time, next, count, shows.whose.places)) goes_on).moment packet (sym given)) [
        | inl none ↦ omega (arith, ends, none)
        | inr goes ↦ let low = goes.1 in omega (arith, ends, low)
      ]

  taken : taken_by (old.peers to).left gives.given ≡ Some packet
  taken = ap (taken_by (old.peers to).left) given ∙ go (old.peers to).left refl
    where
      go : (cause : Option ℕ) → (old.peers to).left ≡ cause → taken_by cause (Some packet) ≡ Some packet
      go (Some cause) e =
          let ended = (linked.told player mine).left to cause e in
          absurd (true≢false (sym ended
          ∙ ap (λ (s : Surviving). has_ended s.lockstep) (sym (linked.survivors to below)) ∙ goes_on))
      go None e =
          let set = le-ltb (slice_index (bytes_of exit) 3) 16 (high (slice_index (bytes_of exit) 3) flags) in
          let busy : is_idle packet ≡ false = not_all (commands_in packet == 0) (is_none packet.ask) _ set in
          rw busy refl

  pub exits : limits.ahead ≤ 11 → is_brief pace to ≡ false → HasExit player (made old.node) (own_in gives.bundle)
  exits narrow full =
      let f : Carried → Opened = opened_from old.node.me in
      let all : List Carried = kept.packets ++ packet ∷ [] in
      let packed = subst (λ (ps : List Carried). ArePacked old.node.me ps gives.own)
      (ap (going kept) taken ∙ sym (append-nil all)) (gives.packed full) in
      let few = two_windows marking limits settings session links linked player mine were to below apart goes_on in
      let light = fits old.node.me (lag limits) (made old.node) kept.done 22 kept.packets kept.covered (next_to old.node to)
      (lag_low limits) was.rising was.chain (was.close goes_on)
      (all_sized session.packets linked.game.fair old.node.me to kept.packets
      (subst (λ (k : ℕ). AreGiven session.packets k to kept.packets) (sym own) (linked.kept player to mine)))
      (omega (arith, least, next, count)) (omega (arith, few, narrow)) (omega arith) in
      let long = length-append kept.packets (packet ∷ []) in
      let told = map-append f kept.packets (packet ∷ []) in
      let heavy = ap weight told ∙ weight_on (map f kept.packets) (f packet ∷ []) in
      let size = follows_on.sized in
      let parts = All-front IsPart gives.own (map handed_part gives.behind.handed)
      (subst (All IsPart) gives.behind.parts gives.fits.parts) in
      let go = all_go old.node.me all [] gives.own packed parts (omega (arith, light.0, long))
      (omega (arith, heavy, light.1, size.0, size.1)) in
      let some = packed.some in
      let none = length-append all [] in
      let whole : packed.count ≡ length (map f all) = omega (arith, go, some, none, length-map all f) in
      let are : own_in gives.bundle ≡ map f kept.packets ++ f packet ∷ [] =
      gives_own seal pace to old new bytes gives ∙ packed.front ∙ ap (λ (ps : List Carried). take packed.count (map f ps))
      (append-nil all) ∙ ap (λ (k : ℕ). take k (map f all)) whole ∙ ap (take (length (map f all))) (sym (append-nil (map f all)))
      ∙ take-append_seam (map f all) [] ∙ told in
      subst (HasExit player (made old.node)) (sym are) (exit_back player (made old.node) (map f kept.packets)
      (f packet ∷ []) (inl (own, ends, ap (λ (n : ℕ). not (bit_and n flag.exit == 0)) flags)))
