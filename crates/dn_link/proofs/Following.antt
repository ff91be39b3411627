-- The packets to a peer go on from those that are kept for it, or from earlier ones.
use Rattle.std.proofs.Common.{ℤ, ◌≡◌, ◌≢◌, ◌≤◌, ◌+◌, ◌⊎◌, ℕ, Bool, true, false, List, refl, ap, sym, ◌∙◌, subst, arith, Option, Some, None, inl, inr}
use Rattle.std.proofs.lemmas.{Bool.{and_parts, cond_both, eqb-true, lt-ltb, ltb-true, not-false, true≢false}, Option.{none-some, same_Some}}
use Rattle.std.specs.{Prelude.{if◌then◌else◌, nat_lt, not, ◌%◌, ◌^◌}, Option.option_map}
use Rattle.dn_tic.specs.declared.{command.Move.Move, input.Input.Input}
use Rattle.dn_machine.specs.{declared.{answers.{Made.Made, Ran.Ran}, peer.Peer.Peer}, Sending.{on_build, on_send}, Flight.Flight, Limits.Limits, Running.{on_quit}}
use Rattle.dn_machine.proofs.Put.{put_at, put_off}
use Rattle.dn_lockstep.specs.{Represents.Represents, Steps.{marks_in, Steps}, Sent.sent_to, Told.made}
use Rattle.dn_lockstep.proofs.Shown.{made_is}
use Rattle.dn_seal.specs.declared.seal.Seal.{Seal}
use Rattle.dn_link.specs.{CaughtUp.{GoesOn, IsGone, IsInTime, StillGoesOn, next_to}, Kept.{IsKeptRising, Reaches, Unacknowledged, commands_in, end_of, is_idle, kept_after, taken_by, takes_packet}}
use Rattle.dn_link.specs.{declared.bundle.Carried.Carried, Hearing.carried_of, Pacing.PaceState, Linked.{Gives, Linked, PeerState, has_given_up}, Surviving.RunsBut}
use Rattle.dn_link.proofs.{Sending.{Follows, Silent, resend_of, build_same, quit_same, run_same, send_same, sends}, Covered.{reached, few, news_rises}, Linking.taken_given}
use Rattle.dn_machine.specs.Node as machine

-- a packet that is kept, or is not
pub kept_rises : (kept : Unacknowledged) (packet : Option Carried) → IsKeptRising kept
    → IsKeptRising (kept_after kept packet)
kept_rises kept None rising = rising
kept_rises kept (Some packet) rising = grind (arith, news_rises)

pub covers_as_much : (kept : Unacknowledged) (packet : Option Carried) → kept.covered ≤ (kept_after kept packet).covered
covers_as_much kept None = omega arith
covers_as_much kept (Some packet) = grind (arith, and_parts, ltb-true)

-- a packet is not taken by one who is gone, or if it has no command
idle : (packet : Carried) → not (is_idle packet) ≡ false → commands_in packet ≡ 0
idle packet not_taken = grind (arith, not-false, eqb-true, and_parts)

pub gone_or_idle : (left : Option ℕ) (packet : Carried) → takes_packet left packet ≡ false
    → IsGone left ⊎ (commands_in packet ≡ 0)
gone_or_idle left packet not_taken = grind (arith, idle)

module _ (limits : Limits) (me to : ℕ) (old new : Linked) (goes : GoesOn limits me to old) where
  abbrev was : Unacknowledged
  was = (old.peers to).kept

  abbrev now : Unacknowledged
  now = (new.peers to).kept

  -- the next packet to it begins where it did
  pub next_same : (node : machine.Node) → was.covered ≤ now.covered
      → (IsGone (old.peers to).left → IsGone (new.peers to).left)
      → resend_of node to ≡ resend_of goes.node to
      → IsGone (new.peers to).left ⊎ (resend_of node to ≤ now.covered)
  next_same node more gone same = grind arith

  pub still : (node : machine.Node) → Represents limits me new.node node → IsKeptRising now → was.covered ≤ now.covered
      → IsGone (new.peers to).left ⊎ (resend_of node to ≤ now.covered) → StillGoesOn limits me to old new
  still node shows rising more next = grind arith

  -- where what is kept is as it was
  pub same_kept : (node : machine.Node) → Represents limits me new.node node
      → resend_of node to ≡ resend_of goes.node to → now ≡ was
      → (IsGone (old.peers to).left → IsGone (new.peers to).left) → StillGoesOn limits me to old new
  same_kept node shows next same gone = grind (arith, still, next_same)

  pub same_peers : (node : machine.Node) → Represents limits me new.node node
      → resend_of node to ≡ resend_of goes.node to → new.peers ≡ old.peers → StillGoesOn limits me to old new
  same_peers node shows next same =
      same_kept node shows next (ap (λ (f : ℕ → PeerState). (f to).kept) same)
      (λ gone. (gone.0, ap (λ (f : ℕ → PeerState). (f to).left) same ∙ gone.1))

  pub builds : (input : Input) (made : Made)
      → Steps old.node new.node (λ limits me m. on_build limits me m input) (λ answer. made ≡ answer)
      → new.peers ≡ old.peers → StillGoesOn limits me to old new
  builds input made step = same_peers _ (step.step limits me goes.node goes.shows).node
      (build_same limits me goes.node to input)

  pub runs : (marks : List ℤ) (ran : Ran) (row : Option (List (Option Move)))
      → RunsBut marks old new (λ answer told. (ran ≡ answer) × (row ≡ told))
      → new.peers ≡ old.peers → StillGoesOn limits me to old new
  runs marks ran row step = same_peers _ (step.step limits me goes.node goes.shows).node
      (run_same limits me goes.node to (has_given_up old) (marks_in marks))

  pub quits : (quit : Bool) → Steps old.node new.node (λ limits me m. on_quit m) (λ answer. quit ≡ answer)
      → new.peers ≡ old.peers → StillGoesOn limits me to old new
  quits quit step = same_peers _ (step.step limits me goes.node goes.shows).node (quit_same limits me goes.node to)

  -- a datagram to another peer
  pub gives_another : (other : ℕ) (seal : Seal) (pace : PaceState) (bytes : List ℕ) → other ≢ to
      → Gives seal pace other old new bytes → StillGoesOn limits me to old new
  gives_another other seal pace bytes apart gives =
      let off : new.peers to ≡ old.peers to =
      ap (λ (f : ℕ → PeerState). f to) gives.peers ∙ put_off old.peers other to _ (λ e. apart (sym e)) in
      same_kept _ (gives.step.step limits me goes.node goes.shows).node
      (cond_both (nat_lt other limits.players) _ _
      (λ (x : machine.Node × Option Flight). resend_of x.0 to ≡ resend_of goes.node to)
      (λ below. send_same limits me goes.node to other (λ e. apart (sym e))) (λ past. refl))
      (ap (λ (t : PeerState). t.kept) off) (λ gone. (gone.0, ap (λ (t : PeerState). t.left) off ∙ gone.1))

  -- a datagram to the peer
  module _ (seal : Seal) (pace : PaceState) (bytes : List ℕ) (time : IsInTime to old)
      (gives : Gives seal pace to old new bytes) where
    abbrev left : Option ℕ
    left = (old.peers to).left

    abbrev taken : Option Carried
    taken = taken_by left gives.given

    peer_is : new.peers to ≡ record (old.peers to) {
      kept = kept_after was taken;
      number = ((old.peers to).number + 1) % 2 ^ 32;
    }
    peer_is = ap (λ (f : ℕ → PeerState). f to) gives.peers ∙ put_at old.peers to to _ refl

    kept_is : now ≡ kept_after was taken
    kept_is = ap (λ (t : PeerState). t.kept) peer_is

    gone_on : IsGone left → IsGone (new.peers to).left
    gone_on gone = (gone.0, ap (λ (t : PeerState). t.left) peer_is ∙ gone.1)

    rising_on : IsKeptRising now
    rising_on = subst IsKeptRising (sym kept_is) (kept_rises was taken goes.rising)

    more_on : was.covered ≤ now.covered
    more_on = omega (arith, covers_as_much was taken, ap (λ (k : Unacknowledged). k.covered) kept_is)

    -- what is covered, and the next packet
    abbrev Covers : Type 0
    Covers = StillGoesOn limits me to old new
        × ((packet : Carried) → taken ≡ Some packet → end_of packet ≤ now.covered)

    count : made old.node ≡ machine.made me goes.node
    count = made_is limits me old.node goes.node goes.shows (omega (arith, goes.mine, goes.shows.whose.number, goes.shows.whose.players))

    there : next_to old.node to ≡ resend_of goes.node to
    there = ap (λ (p : Peer). p.resend) (goes.shows.peers.known to goes.below)

    in_time : machine.made me goes.node ≤ resend_of goes.node to + limits.places
    in_time = omega (arith, time.there, count, there, goes.shows.whose.places)

    -- nothing, or settings
    covers_silent : (node : machine.Node) (flight : Option Flight) → Represents limits me new.node node
        → gives.given ≡ option_map carried_of flight → Silent limits me goes.node to node flight → Covers
    covers_silent node flight shows is silent = (
      still node shows rising_on more_on (next_same node more_on gone_on silent.0),
      (λ packet took. none_past flight silent.1 packet (taken_given left gives.given packet took ∙ is)),
    )
      where
        none_past : (flight : Option Flight) → ((one : Flight) → flight ≡ Some one → end_of (carried_of one) ≡ 0)
            → (packet : Carried) → Some packet ≡ option_map carried_of flight → end_of packet ≤ now.covered
        none_past None none packet e = absurd (cc)
        none_past (Some one) none packet e =
            let same = ap end_of (same_Some packet (carried_of one) e) in
            omega (arith, same, none one refl)

    -- a packet that goes on where the others end
    module _ (node : machine.Node) (shows : Represents limits me new.node node) (packet : Carried)
        (is : gives.given ≡ Some packet) (follows : Follows limits me goes.node to node packet) where
      taken_is : taken ≡ (if takes_packet left packet then Some packet else None)
      taken_is = ap (taken_by left) is

      -- it begins there, or earlier
      within : takes_packet left packet ≡ true → resend_of goes.node to ≤ was.covered
      within takes = grind (arith, true≢false, there)

      reaches : takes_packet left packet ≡ true → Reaches was packet
      reaches takes = grind (arith, within, few, count)

      covers_packet : Covers
      covers_packet = go (takes_packet left packet) refl
        where
          go : (test : Bool) → takes_packet left packet ≡ test → Covers
          go true takes =
              let took : taken ≡ Some packet = taken_is ∙ rw takes refl in
              let covered : now.covered ≡ (kept_after was (Some packet)).covered =
              ap (λ (k : Unacknowledged). k.covered) kept_is ∙ ap (λ (o : Option Carried). (kept_after was o).covered) took in
              let reach = (reached was packet).1 (reaches takes) in
              let low = follows.next in (
                still node shows rising_on more_on (inr (omega (arith, covered, reach, low))),
                (λ other other_took.
                    let same = ap end_of (same_Some packet other (sym took ∙ other_took)) in
                    omega (arith, covered, reach, same)),
              )
          go false not_taken =
              let took : taken ≡ None = taken_is ∙ rw not_taken refl in (
                still node shows rising_on more_on (elim (gone_or_idle left packet not_taken) [
                  | inl gone ↦ inl (gone_on gone)
                  | inr none ↦ elim goes.next [
                    | inl gone ↦ inl (gone_on gone)
                    | inr low ↦
                        let first = follows.start in
                        let next = follows.next in
                        inr (omega (arith, first, next, none, low, there, more_on))
                  ]
                ]),
                (λ other other_took. absurd (none-some other (sym took ∙ other_took))),
              )

    pub covers : Covers
    covers =
        let sent_is : sent_to to limits me goes.node ≡ on_send limits me goes.node to =
        let below = lt-ltb to limits.players goes.below in rw below refl in
        let after = gives.step.step limits me goes.node goes.shows in
        let here = subst (λ (r : machine.Node × Option Flight). Represents limits me new.node r.0) sent_is after.node in
        let answer : gives.given ≡ option_map carried_of (on_send limits me goes.node to).1 =
        after.answer ∙ ap (λ (r : machine.Node × Option Flight). option_map carried_of r.1) sent_is in
        elim (sends limits me goes.node to (sym goes.shows.whose.most) in_time) [
          | inl silent ↦ covers_silent _ _ here answer silent
          | inr some ↦ covers_packet _ here (carried_of some.0) (answer ∙ ap (option_map carried_of) some.1) some.2
        ]
