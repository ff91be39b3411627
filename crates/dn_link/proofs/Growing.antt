-- What a node and a lockstep have of a player, with the player's end, never grows less; and one that has
-- left, or ended, or started, stays so.
use Rattle.std.proofs.Common.{◌≡◌, ◌≢◌, ◌<◌, ◌≤◌, ℕ, Bool, true, false, List, refl, ap, sym, ◌∙◌, subst, arith, Some, ◌&&◌, ℤ, eqb, ◌++◌, length, Option, None}
use Rattle.std.proofs.lemmas.{Bool.{cond-false, lt-ltb, le-ltb, ne_eqb, cond_both}, List.length-append}
use Rattle.std.specs.Prelude.{Ok, nat_lt}
use Rattle.dn_tic.specs.declared.{command.TicCmd.TicCmd, input.Input.Input}
use Rattle.dn_machine.specs.{Flight.{Flight, packet_of, is_close, is_request_close, is_exit, end_of}, Node.{has_left, is_ended, Node, put, with_peer, made, ends_of}, Limits.Limits}
use Rattle.dn_machine.specs.{Hearing.{on_packet, is_within, after_request, after_exit}, declared.{answers.Heard.Heard, peer.Peer.Peer}, Sending.{on_build, after_sent, on_send}}
use Rattle.dn_machine.specs.{Running.on_quit, Sparing.on_run_but, Settling.settled_one}
use Rattle.dn_machine.specs.declared.answers.Phase.{Phase, TheVariants.{Listening, Gathering, Playing, Ended}}
use Rattle.dn_setup.specs.Gathered.{all_noted}
use Rattle.dn_remain.proofs.Each.{run_but_cases}
use Rattle.dn_lockstep.specs.{Sent.sent_to, Settling.{is_no_peer, on_excuse, on_excuse_in}}
use Rattle.dn_machine.proofs.{Calls.{build_cases, send_cases, quit_cases, packet_cases, sender_after}, Put.{put_at, put_off}}
use Rattle.dn_lockstep.specs.{Contents.Contents, Sent.IsFair, Phases.is_waiting, Represents.Represents}
use Rattle.dn_lockstep.proofs.{Shown.{got_is, end_is}, Receiving.{told_by, near_received}}
use Rattle.dn_open.specs.{Arrivals.{heard, on_opened}, declared.hearing.Arrived.Arrived, Sealed.{opened_of}}
use Rattle.dn_open.proofs.Letters.{alike, near_if}
use Rattle.dn_link.specs.{Counting.{with_end, has_ended, has_of}}
use Rattle.dn_machine.specs.Node as machine

-- What a node has of a player, with the player's end, never grows less; and one that has left stays so.

-- what it has of a player, by the node
abbrev held_of : Node → ℕ → ℕ
held_of node p = with_end (length (node.held p)) (ends_of node p)

-- it has as much of each player as before
abbrev HasMore : Node → Node → Type 0
HasMore old new = (p : ℕ) → held_of old p ≤ held_of new p

-- and has left, or started, if it had
abbrev pub Holds : Node → Node → Type 0
Holds old new =
    HasMore old new × (has_left old ≡ true → has_left new ≡ true)
    × (is_waiting old.phase ≡ false → is_waiting new.phase ≡ false)

pub holds_same : (node : Node) → Holds node node
holds_same node = ((λ p. omega arith), (λ left. left), (λ on. on))

pub holds_on : (old mid new : Node) → Holds old mid → Holds mid new → Holds old new
holds_on old mid new first later = (
  (λ p. let one = first.0 p in let other = later.0 p in omega (arith, one, other)),
  (λ left. later.1 (first.1 left)),
  (λ on. later.2 (first.2 on)),
)

-- one that ends has left, if it had played
played_ends : (played ended : Bool) → (played && ended) ≡ true → (played && true) ≡ true
played_ends true ended left = refl
played_ends false ended left = left

-- one that plays has not left
not_left : {A : Type 0} (played ended : Bool) → ended ≡ false → (played && ended) ≡ true → A
not_left true ended goes_on left = absurd (cc)
not_left false ended goes_on left = absurd (cc)

more_counts : (one other : ℕ) (end : Option ℕ) → one ≤ other → with_end one end ≤ with_end other end
more_counts one other None less = less
more_counts one other (Some end) less = omega (arith, less)

-- no end is forgotten
abbrev Knows : Option ℕ → Option ℕ → Type 0
Knows old new = (count : ℕ) → with_end count old ≤ with_end count new

knows_some : (old : Option ℕ) (end : ℕ) → Knows old (Some end)
knows_some None end count = omega arith
knows_some (Some other) end count = omega arith

longer : (held : ℕ → List TicCmd) (from : ℕ) (more : List TicCmd) (p : ℕ)
    → length (held p) ≤ length (put held from (held from ++ more) p)
longer held from more p = grind (arith, put_at, length-append, put_off)

module _ (limits : Limits) (i : ℕ) (node : Node) where
  peer_holds : (player : ℕ) (peer : Peer) (held : ℕ → List TicCmd)
      → ((p : ℕ) → length (node.held p) ≤ length (held p)) → Knows (node.peers player).end peer.end
      → HasMore node (record (with_peer node player peer) { held = held })
  peer_holds player peer held more known p = grind (arith, put_at, more_counts, put_off)

  pub build_holds : (input : Input) → Holds node (on_build limits i node input).0
  build_holds input = build_cases limits i node (λ (new : Node). Holds node new) input (λ full. holds_same node)
      (λ plays free. ((λ p. more_counts _ _ (ends_of node p) (longer node.held i _ p)), (λ left. left), (λ on. on)))

  pub send_holds : (to : ℕ) → Holds node (on_send limits i node to).0
  send_holds to = send_cases limits i node (λ (r : Node × Option Flight). Holds node r.0) to
      (holds_same node) (λ other e. holds_same node) (λ other e. sent) (λ other left. sent)
    where
      sent : Holds node (after_sent limits i node to)
      sent = (peer_holds to _ node.held (λ p. omega arith) (λ count. omega arith), (λ left. left), (λ on. on))

  pub run_holds : (gone : ℕ → Bool) (marks : ℕ → ℤ) → Holds node (on_run_but limits gone node marks).0
  run_holds gone marks = run_but_cases limits i gone node marks (λ (new : Node). Holds node new) (λ waits. holds_same node)
      (λ player plays none off. ((λ p. omega arith), played_ends node.played (is_ended node.phase), (λ on. refl)))
      (λ plays none full. ((λ p. omega arith), played_ends node.played (is_ended node.phase), (λ on. refl)))
      (λ plays none free. ((λ p. omega arith), (λ left. left), (λ on. on)))

  -- an end is taken, with the commands before it
  pub settled_holds : (player : ℕ) (more : List TicCmd) → Holds node (settled_one node player (node.held player ++ more))
  settled_holds player more = (
    peer_holds player _ _ (longer node.held player more) (knows_some (node.peers player).end (length (node.held player ++ more))),
    (λ left. left),
    (λ on. on),
  )

  -- nobody waits longer for a player before the start
  pub excuse_holds : (player : ℕ) → Holds node (on_excuse limits i node player).0
  unfolding on_excuse
  excuse_holds player = cond_both (is_no_peer limits.players i player) _ _ (λ (x : Node × Bool). Holds node x.0)
      (λ none. holds_same node) (λ other. by node.phase refl)
    where
      by : (phase : Phase) → node.phase ≡ phase → Holds node (on_excuse_in limits node player phase).0
      by Gathering e = cond_both (all_noted limits.players (put node.noted player true)) _ _
          (λ (x : Node × Heard). Holds node x.0)
          (λ all. ((λ p. omega arith), not_left node.played (is_ended node.phase) (ap is_ended e), (λ on. refl)))
          (λ some. ((λ p. omega arith), (λ left. left), (λ on. on)))
      by Listening e = holds_same node
      by Playing e = holds_same node
      by (Ended cause) e = holds_same node

  pub quit_holds : Holds node (on_quit node).0
  quit_holds = quit_cases limits i node (λ (new : Node). Holds node new) (holds_same node)
      (λ goes_on. ((λ p. omega arith), played_ends node.played (is_ended node.phase), (λ on. refl)))

  request_known : (peer : Peer) (request : Option ℕ)
      → Knows peer.end (after_request limits.places (made i node) peer request).end
  request_known peer request count = cond_both (eqb peer.pause 0 && is_within limits.places (made i node) request) _ _
      (λ (p : Peer). with_end count peer.end ≤ with_end count p.end) (λ met. omega arith) (λ not_met. omega arith)

  exit_known : (peer : Peer) (exit : Bool) (end : ℕ) → Knows peer.end (after_exit peer exit end).end
  exit_known peer true end = knows_some peer.end end
  exit_known peer false end = λ count. omega arith

  hear_holds : (flight : Flight) → Holds node (on_packet limits i node flight).0
  hear_holds flight =
      let known : Knows (node.peers flight.from).end (sender_after limits i node flight).end = (λ count.
      let a = request_known (node.peers flight.from) flight.request count in
      let b = exit_known (after_request limits.places (made i node) (node.peers flight.from) flight.request)
      (is_exit flight.kind) (end_of flight) count in
      omega (arith, a, b)) in
      packet_cases limits i node flight (λ (r : Node × Heard). Holds node r.0) (record {
        dropped = λ number why. holds_same node;
        starts = λ s e k. ((λ p. omega arith), not_left node.played (is_ended node.phase) (ap is_ended e), (λ on. refl));
        completes = λ word e all.
            ((λ p. omega arith), not_left node.played (is_ended node.phase) (ap is_ended e), (λ on. refl));
        notes = λ word e some. ((λ p. omega arith), (λ left. left), (λ on. on));
        commands = λ plays. record {
          dropped = λ number why. holds_same node;
          stale = λ l. (peer_holds flight.from _ node.held (λ p. omega arith) known, (λ left. left), (λ on. on));
          gap = λ l. (peer_holds flight.from _ node.held (λ p. omega arith) known, (λ left. left), (λ on. on));
          takes = λ l m. (peer_holds flight.from _ _ (longer node.held flight.from _) known, (λ left. left), (λ on. on));
        };
        requests = λ ended. (
          peer_holds flight.from _ node.held (λ p. omega arith)
              (request_known (node.peers flight.from) flight.request),
          (λ left. left),
          (λ on. on),
        );
      })

-- a packet that is sent, or none
pub sends_holds : (limits : Limits) (me : ℕ) (m : Node) (to : ℕ) → Holds m (sent_to to limits me m).0
sends_holds limits me m to = cond_both (nat_lt to limits.players) _ _
    (λ (x : Node × Option Flight). Holds m x.0) (λ below. send_holds limits me m to) (λ past. holds_same m)

-- The same of a lockstep.

-- as the node that it represents
pub has_is : (limits : Limits) (me : ℕ) (n : Contents) (m : machine.Node) → Represents limits me n m
    → me < limits.players → (p : ℕ) → p ≢ me → p < limits.players → has_of n p ≡ held_of m p
has_is limits me n m r mine p other below = grind (arith, got_is, end_is, cond-false, ne_eqb, lt-ltb)

pub has_none : (n : Contents) (p : ℕ) → n.players ≤ p → has_of n p ≡ 0
has_none n p past = rw (le-ltb p n.players past) refl

-- whoever has as much as a node has as much as a lockstep, and has ended, or started, if it had
abbrev pub HasAsMuch : ℕ → Contents → Contents → Type 0
HasAsMuch me old new =
    ((which : ℕ) → which ≢ me → has_of old which ≤ has_of new which)
    × (has_ended old ≡ true → has_ended new ≡ true)
    × (is_waiting old.phase ≡ false → is_waiting new.phase ≡ false)

pub ended_is : (limits : Limits) (me : ℕ) (n : Contents) (m : machine.Node) → Represents limits me n m
    → has_ended n ≡ has_left m
ended_is limits me n m r = λ i. r.stands.played i && is_ended (r.stands.phase i)

pub as_much : (me : ℕ) (n : Contents) → HasAsMuch me n n
as_much me n = ((λ which other. omega arith), (λ ended. ended), (λ on. on))

pub much_on : (me : ℕ) (old mid new : Contents) → HasAsMuch me old mid → HasAsMuch me mid new → HasAsMuch me old new
much_on me old mid new first later = (
  (λ which other. omega (arith, first.0 which other, later.0 which other)),
  (λ ended. later.1 (first.1 ended)),
  (λ on. later.2 (first.2 on)),
)

pub grows : (limits : Limits) (me : ℕ) (old new : Contents) (m next : machine.Node) → Represents limits me old m
    → Represents limits me new next → me < limits.players → Holds m next → HasAsMuch me old new
grows limits me old new m next before after mine holds = (
  has_as_much,
  grind (arith, ended_is),
  (λ on. ap is_waiting after.stands.phase ∙ holds.2 (ap is_waiting (sym before.stands.phase) ∙ on)),
)
  where
    has_as_much : (which : ℕ) → which ≢ me → has_of old which ≤ has_of new which
    has_as_much which other = grind (arith, has_is, has_none)

-- what is opened of a fair packet, by the tests that it passes or not
pub opened_holds : (limits : Limits) (me : ℕ) (m : machine.Node) (flight : Flight) → IsFair flight
    → flight.from < limits.players → flight.from ≢ me
    → Holds m (on_opened limits me m (opened_of flight) (Ok (packet_of flight)) (told_by flight.kind)).0
opened_holds limits me m flight fair peer other =
    go (is_close (machine.made me m) flight.start && is_request_close (machine.made me m) flight.request) refl
  where
    go : (test : Bool)
        → (is_close (machine.made me m) flight.start && is_request_close (machine.made me m) flight.request) ≡ test
        → Holds m (on_opened limits me m (opened_of flight) (Ok (packet_of flight)) (told_by flight.kind)).0
    go true close =
        let step : on_opened limits me m (opened_of flight) (Ok (packet_of flight)) (told_by flight.kind)
        ≡ heard (on_packet limits me m flight) =
        rw (close, alike flight) (ap heard (near_received limits me m flight fair peer other
        (near_if (machine.made me m) flight close))) in
        subst (λ (x : machine.Node × Arrived). Holds m x.0) (sym step) (hear_holds limits me m flight)
    go false far =
        let step : on_opened limits me m (opened_of flight) (Ok (packet_of flight)) (told_by flight.kind)
        ≡ (m, Arrived.Late) = rw far refl in
        subst (λ (x : machine.Node × Arrived). Holds m x.0) (sym step) (holds_same m)
