-- What is known of peers is so: where a link is another now, a datagram tells of its sender, or came.
use Rattle.std.proofs.Common.{zero, suc, ◌≡◌, ◌≢◌, ◌≤◌, ℕ, List, true, false, ap, sym, ◌∙◌, subst, arith, Some}
use Rattle.std.proofs.lemmas.Option.{none-some}
use Rattle.std.specs.Prelude.{max, nat_lt, slice_get, slice_index}
use Rattle.dn_machine.specs.{Flight.Flight, Node.put}
use Rattle.dn_remain.proofs.Vanished.Put.{at_put}
use Rattle.dn_lockstep.specs.{Contents.Contents, Phases.is_waiting}
use Rattle.dn_survivor.specs.{OneGame.{Given, Session}, Surviving.Surviving}
use Rattle.dn_link.specs.{Counting.{counts_of, has_ended, has_of}, Kept.Unacknowledged, Linked.{Linked, PeerState, larger, met, with_reached}, Linking.new_peer}
use Rattle.dn_link.specs.{RemainingLinks.{HasReached, IsLater, IsTrulyTold}, declared.bundle.{Bundle.Bundle, Counts.Counts}}
use Rattle.dn_link.proofs.{Growing.HasAsMuch, Leaving.{counts_reach, has_left, tells_own}}

-- One of the survivors is another now, and has as much.
module _ (session later : Session) (player : ℕ) (new : Surviving) (placed : later.survivors ≡ put session.survivors player new)
    (much : HasAsMuch player (session.survivors player).lockstep new.lockstep) where
  pub later_by : ((which : ℕ) (packet : Flight) → slice_get session.packets which ≡ Some packet
      → slice_get later.packets which ≡ Some packet)
      → ((which : ℕ) (given : Given) → slice_get session.reports which ≡ Some given
      → slice_get later.reports which ≡ Some given) → IsLater session later
  later_by packets reports = record {
    packets = packets;
    reports = reports;
    got = subst (λ (f : ℕ → Surviving). (k which : ℕ) → which ≢ k
        → has_of (session.survivors k).lockstep which ≤ has_of (f k).lockstep which) (sym placed)
        (at_put (λ (k : ℕ) (s : Surviving). (which : ℕ) → which ≢ k
        → has_of (session.survivors k).lockstep which ≤ has_of s.lockstep which) session.survivors player new much.0
        (λ k off which apart. omega arith));
    ended = subst (λ (f : ℕ → Surviving). (k : ℕ) → has_ended (session.survivors k).lockstep ≡ true
        → has_ended (f k).lockstep ≡ true) (sym placed)
        (at_put (λ (k : ℕ) (s : Surviving). has_ended (session.survivors k).lockstep ≡ true
        → has_ended s.lockstep ≡ true) session.survivors player new much.1 (λ k off was. was));
    started = subst (λ (f : ℕ → Surviving). (k : ℕ) → is_waiting (session.survivors k).lockstep.phase ≡ false
        → is_waiting (f k).lockstep.phase ≡ false) (sym placed)
        (at_put (λ (k : ℕ) (s : Surviving). is_waiting (session.survivors k).lockstep.phase ≡ false
        → is_waiting s.lockstep.phase ≡ false) session.survivors player new much.2 (λ k off was. was));
  }

  -- and no more was given
  pub nothing_given : later.packets ≡ session.packets → later.reports ≡ session.reports → IsLater session later
  nothing_given packets reports =
      later_by (λ which packet found. ap (λ (fs : List Flight). slice_get fs which) packets ∙ found)
      (λ which given found. ap (λ (gs : List Given). slice_get gs which) reports ∙ found)

pub later_on : (one two three : Session) → IsLater one two → IsLater two three → IsLater one three
later_on one two three a b = record {
  packets = λ which packet found. b.packets which packet (a.packets which packet found);
  reports = λ which given found. b.reports which given (a.reports which given found);
  got = λ player which apart. let first = a.got player which apart in let then = b.got player which apart in
      omega (arith, first, then);
  ended = λ player was. b.ended player (a.ended player was);
  started = λ player was. b.started player (a.started player was);
}

-- What was true of peers is true later.
pub told_on : (session later : Session) (peers : ℕ → PeerState) → IsLater session later
    → IsTrulyTold session.survivors peers → IsTrulyTold later.survivors peers
told_on session later peers is told = record {
  reported = λ peer which apart. let was = told.reported peer which apart in let more = is.got peer which apart in
      omega (arith, was, more);
  left = λ peer cause was. is.ended peer (told.left peer cause was);
}

pub reached_on : (session later : Session) (bundle : Bundle) → IsLater session later
    → HasReached session.survivors bundle → HasReached later.survivors bundle
reached_on session later bundle is reached = record {
  got = λ which apart. let was = reached.got which apart in let more = is.got bundle.from which apart in
      omega (arith, was, more);
  end = λ tells. is.ended bundle.from (reached.end tells);
}

max_most : (a b bound : ℕ) → a ≤ bound → b ≤ bound → max a b ≤ bound
max_most a b bound one other = grind (arith, one, other)

-- the larger of two counts is at most what both are at most
larger_most : (one other : List ℕ) (which bound : ℕ) → slice_index one which ≤ bound → slice_index other which ≤ bound
    → slice_index (larger one other) which ≤ bound
larger_most one other which bound a b = grind (arith, max_most)

module _ (survivors : ℕ → Surviving) (peers : ℕ → PeerState) (told : IsTrulyTold survivors peers) where
  -- other packets are kept for a peer
  pub put_told : (to : ℕ) (kept : Unacknowledged) (number : ℕ)
      → IsTrulyTold survivors (put peers to (record (peers to) { kept = kept; number = number }))
  put_told to kept number = record {
    reported = λ peer which. at_put (λ (p : ℕ) (t : PeerState). which ≢ p
        → slice_index t.reported which ≤ has_of (survivors p).lockstep which) peers to _ (told.reported to which)
        (λ p off. told.reported p which) peer;
    left = λ peer cause. at_put (λ (p : ℕ) (t : PeerState). t.left ≡ Some cause
        → has_ended (survivors p).lockstep ≡ true) peers to _ (told.left to cause) (λ p off. told.left p cause) peer;
  }

  -- what was heard acknowledges
  pub heard_told : (node : Contents) → IsTrulyTold survivors (with_reached node peers)
  heard_told node = record { reported = λ peer. told.reported peer; left = λ peer. told.left peer }

-- a datagram told of its sender
pub met_told : (survivors : ℕ → Surviving) (old : Linked) (bundle : Bundle) → IsTrulyTold survivors old.peers
    → HasReached survivors bundle → IsTrulyTold survivors (met bundle old).peers
met_told survivors old bundle told reached = record {
  reported = λ peer which. at_put (λ (p : ℕ) (t : PeerState). which ≢ p
      → slice_index t.reported which ≤ has_of (survivors p).lockstep which) old.peers bundle.from _
      (λ apart. larger_most (old.peers bundle.from).reported bundle.counts.got which _
      (told.reported bundle.from which apart) (reached.got which apart)) (λ p off. told.reported p which) peer;
  left = λ peer cause. at_put (λ (p : ℕ) (t : PeerState). t.left ≡ Some cause
      → has_ended (survivors p).lockstep ≡ true) old.peers bundle.from _
      (λ is. has_left bundle (old.peers bundle.from).left cause is (told.left bundle.from cause) reached.end)
      (λ p off. told.left p cause) peer;
}

-- Nothing is known of a peer of a new link.
none_told : (which bound : ℕ) → slice_index new_peer.reported which ≤ bound
none_told zero bound = omega arith
none_told (suc zero) bound = omega arith
none_told (suc (suc zero)) bound = omega arith
none_told (suc (suc (suc zero))) bound = omega arith
none_told (suc (suc (suc (suc which)))) bound = omega arith

pub new_told : (survivors : ℕ → Surviving) (peers : ℕ → PeerState) → ((peer : ℕ) → peers peer ≡ new_peer)
    → IsTrulyTold survivors peers
new_told survivors peers new = record {
  reported = λ peer which apart. subst (λ (t : PeerState). slice_index t.reported which
      ≤ has_of (survivors peer).lockstep which) (sym (new peer)) (none_told which _);
  left = λ peer cause is. absurd (none-some cause (ap (λ (t : PeerState). t.left) (sym (new peer)) ∙ is));
}

-- How far a lockstep says that it is, it is.
pub counts_reached : (survivors : ℕ → Surviving) (bundle : Bundle) (n : Contents) (echo : ℕ)
    → (survivors bundle.from).lockstep ≡ n → n.me ≡ bundle.from → bundle.counts ≡ counts_of n echo
    → HasReached survivors bundle
counts_reached survivors bundle n echo here own counts = record {
  got = λ which apart. subst (λ (c : Counts). slice_index c.got which ≤ has_of (survivors bundle.from).lockstep which)
      (sym counts) (subst (λ (x : Contents). slice_index (counts_of n echo).got which ≤ has_of x which) (sym here)
      (counts_reach n echo which));
  end = λ tells. ap has_ended here ∙ tells_own n echo
      ((λ i. nat_lt (sym counts i).made (slice_index (sym counts i).got (own i))) ∙ tells);
}
