-- Which tic a node sends to a peer next, after each call.
use Rattle.std.proofs.Common.{ℤ, ◌≡◌, ◌≢◌, ◌≤◌, ◌+◌, ◌-◌, ◌*◌, ◌⊎◌, ℕ, Bool, true, false, List, ◌++◌, length, drop, refl, ap, sym, ◌∙◌, arith, Option, Some, None, inl, inr, ◌<◌, ◌/◌, ◌%◌, ◌&&◌, ◌||◌}
use Rattle.std.proofs.lemmas.{Bool.{and_parts, cases_lt, cond_both, le-ltb, leb-true, eq-eqb, eqb-true, true≢false}, List.{length-take, length-drop}, Option.{none-some, same_Some}}
use Rattle.std.specs.Prelude.{if◌then◌else◌, min, nat_lt, not, ◌==◌, bit_and, is_some, slice_index, Result, Ok, Err}
use Rattle.dn_tic.specs.{declared.{command.TicCmd.TicCmd, input.Input.Input}, Tics.exact_tic}
use Rattle.dn_packet.proofs.Texts.{length-commands}
use Rattle.dn_packet.specs.{declared.packet.{Packet.Packet, PacketFault.PacketFault}, Text.text}
use Rattle.dn_setup.specs.{Settings.Settings, declared.setup.SetupFault.SetupFault}
use Rattle.dn_seal.specs.declared.opened.Opened.{Opened}
use Rattle.dn_machine.specs.{Flight.{Kind, Play, Exit, Flight, is_close, is_request_close, packet_of, request_byte}, Node.{Node, put, with_peer, got, made}, Limits.Limits, Running.on_quit, Sparing.on_run_but}
use Rattle.dn_machine.specs.{Sending.{on_build, after_sent, commands_flight, first_sent, lag, last_sent, left_kind, on_send, request_to, set_up_flight}, Hearing.{after_request, after_exit, on_packet}}
use Rattle.dn_machine.specs.declared.{answers.{Heard.Heard, Phase.Phase}, peer.Peer.Peer}
use Rattle.dn_machine.proofs.{Calls.{build_cases, send_cases, quit_cases, packet_cases, sender_after}, Put.{put_at, put_off}, Stages.lag_low}
use Rattle.dn_remain.proofs.Each.{run_but_cases}
use Rattle.dn_lockstep.specs.{Sent.bytes_of, Received.{has_flag, request_in, flight_from, heard_as, read_flight, received}, Phases.hears_none}
use Rattle.dn_open.specs.{Arrivals.{IsRead, asks_alike, flag_in, heard, is_alike, on_opened}, declared.hearing.Arrived.Arrived}
use Rattle.dn_open.proofs.Letters.{flags_at}
use Rattle.dn_link.specs.{declared.bundle.Carried.Carried, Hearing.carried_of}
use Rattle.dn_packet.specs.Flags as flag
use Rattle.dn_machine.specs.Drops as drops
use Rattle.dn_machine.specs.Node as machine
use Rattle.dn_link.specs.Kept as kept

-- the tic from which it sends next
abbrev pub resend_of : Node → ℕ → ℕ
resend_of node to = (node.peers to).resend

-- a packet has twelve commands of eight bytes at most, behind eight bytes
abbrev pub IsSized : Carried → Type 0
IsSized packet = (length packet.datagram.items ≡ 8 + 8 * kept.commands_in packet) × (kept.commands_in packet ≤ 12)

pub whole_of : (flight : Flight) → length (bytes_of flight) ≡ 8 + 8 * kept.commands_in (carried_of flight)
whole_of flight = let size = length-commands (packet_of flight).cmds.items in omega (arith, size)

module _ (limits : Limits) (me : ℕ) (node : Node) (to : ℕ) where
  abbrev Same : Node → Type 0
  Same new = resend_of new to ≡ resend_of node to

  pub build_same : (input : Input) → Same (on_build limits me node input).0
  build_same input = build_cases limits me node Same input (λ full. refl) (λ plays free. refl)

  pub run_same : (gone : ℕ → Bool) (marks : ℕ → ℤ) → Same (on_run_but limits gone node marks).0
  run_same gone marks = run_but_cases limits me gone node marks Same (λ waits. refl) (λ player plays none off. refl)
      (λ plays none full. refl) (λ plays none free. refl)

  pub quit_same : Same (on_quit node).0
  quit_same = quit_cases limits me node Same refl (λ goes_on. refl)

  -- what is kept of another peer
  peer_same : (other : ℕ) (peer : Peer) → to ≢ other → (put node.peers other peer to).resend ≡ resend_of node to
  peer_same other peer apart = ap (λ (p : Peer). p.resend) (put_off node.peers other to peer apart)

  pub send_same : (other : ℕ) → to ≢ other → Same (on_send limits me node other).0
  send_same other apart = send_cases limits me node (λ (r : Node × Option Flight). Same r.0) other refl
      (λ o e. refl) (λ o e. peer_same other _ apart) (λ o e. peer_same other _ apart)

  -- after a packet it is as before, or the tic that the packet asks for, which is one that was made, or the next
  abbrev IsAsked : Option ℕ → ℕ → Type 0
  IsAsked request resend = (request ≡ Some resend) × (resend ≤ made me node)

  abbrev Asked : Flight → Node → Type 0
  Asked flight new = Same new ⊎ ((flight.from ≡ to) × IsAsked flight.request (resend_of new to))

  request_asked : (request : Option ℕ) (peer : Peer)
      → ((after_request limits.places (made me node) peer request).resend ≡ peer.resend)
      ⊎ IsAsked request (after_request limits.places (made me node) peer request).resend
  request_asked request peer = grind (arith, cond_both, leb-true, and_parts)

  exit_same : (peer : Peer) (exit : Bool) (end : ℕ) → (after_exit peer exit end).resend ≡ peer.resend
  exit_same peer true end = refl
  exit_same peer false end = refl

  module _ (flight : Flight) where
    placed : (peer : Peer) (held : ℕ → List TicCmd)
        → (peer.resend ≡ resend_of node flight.from) ⊎ IsAsked flight.request peer.resend
        → Asked flight (record (with_peer node flight.from peer) { held = held })
    placed peer held is = grind (arith, put_at, peer_same)

    sender_asked : ((sender_after limits me node flight).resend ≡ resend_of node flight.from)
        ⊎ IsAsked flight.request (sender_after limits me node flight).resend
    sender_asked = grind (arith, exit_same, request_asked)

    pub packet_asked : Asked flight (on_packet limits me node flight).0
    packet_asked = packet_cases limits me node flight (λ (r : Node × Heard). Asked flight r.0) (record {
      dropped = λ number why. inl refl;
      starts = λ s e k. inl refl;
      completes = λ word e all. inl refl;
      notes = λ word e some. inl refl;
      commands = λ plays. record {
        dropped = λ number why. inl refl;
        stale = λ l. placed _ node.held sender_asked;
        gap = λ l. placed _ node.held sender_asked;
        takes = λ l m. placed _ (put node.held flight.from
            (node.held flight.from ++ drop (got node flight.from - flight.start) flight.commands)) sender_asked;
      };
      requests = λ ended. placed _ node.held (request_asked flight.request (node.peers flight.from));
    })

    -- of its own commands none is made by a packet
    pub packet_made : flight.from ≢ me → made me (on_packet limits me node flight).0 ≡ made me node
    packet_made other = packet_cases limits me node flight (λ (r : Node × Heard). made me r.0 ≡ made me node) (record {
      dropped = λ number why. refl;
      starts = λ s e k. refl;
      completes = λ word e all. refl;
      notes = λ word e some. refl;
      commands = λ plays. record {
        dropped = λ number why. refl;
        stale = λ l. refl;
        gap = λ l. refl;
        takes = λ l m. ap (length {A = TicCmd}) (put_off node.held flight.from me _ (λ e. other (sym e)));
      };
      requests = λ ended. refl;
    })

  -- a packet that goes on where those before end, and the tic after it, from which the next one is sent at most
  pub record Follows (new : Node) (packet : Carried) : Type 0 where
    pub start : packet.start ≡ resend_of node to
    pub end : (kept.end_of packet ≡ resend_of node to) ⊎ (kept.end_of packet ≤ made me node)
    pub next : resend_of new to ≤ kept.end_of packet
    pub all : made me node ≤ resend_of node to + 12 → made me node ≤ kept.end_of packet
    pub low : resend_of node to ≤ made me node → kept.end_of packet ≤ resend_of new to + lag limits
    pub most : resend_of new to ≤ made me node - lag limits
    pub up : resend_of node to ≤ made me node - lag limits → resend_of node to ≤ resend_of new to
    pub sized : IsSized packet

  -- what it sends: nothing, or settings, which have no command; or such a packet
  abbrev pub Silent : Node → Option Flight → Type 0
  Silent new flight = Same new × ((one : Flight) → flight ≡ Some one → kept.end_of (carried_of one) ≡ 0)

  abbrev pub Sends : Node → Option Flight → Type 0
  Sends new flight = Silent new flight ⊎ ((one : Flight) × (flight ≡ Some one) × Follows new (carried_of one))

  set_up_silent : (settings : Option Settings) → Silent node (set_up_flight me to settings)
  set_up_silent None = (refl, (λ one e. absurd (none-some one e)))
  set_up_silent (Some settings) = grind (arith, same_Some)

  module _ (most : limits.most ≡ 12) (there : made me node ≤ resend_of node to + limits.places) where
    pub first_is : first_sent limits me node to ≡ resend_of node to
    first_is =
        let test = le-ltb (resend_of node to) (made me node - limits.places) (omega (arith, there)) in rw test refl

    abbrev carried : Kind → Option ℕ → Carried
    carried kind request = carried_of (commands_flight limits me node to kind request)

    many : length (commands_flight limits me node to Play None).commands ≡ min 12 (made me node - resend_of node to)
    many = length-take limits.most (drop (first_sent limits me node to) (node.held me))
        ∙ (λ i. min (most i) (length-drop (first_is i) (node.held me) i))

    commands_are : (kind : Kind) (request : Option ℕ) (exits : Bool) → kind ≡ (if exits then Exit else Play)
        → kept.commands_in (carried kind request) ≡ min 12 (made me node - resend_of node to)
    commands_are kind request exits is = grind (arith, length-commands, many)

    abbrev after : Node
    after = after_sent limits me node to

    next_is : resend_of after to ≡ min (made me node) (resend_of node to + 12) - lag limits
    next_is = ap (λ (p : Peer). p.resend) (put_at node.peers to to _ refl)
        ∙ (λ i. min (made me node) (first_is i + most i) - lag limits)

    pub follows : (kind : Kind) (request : Option ℕ) (exits : Bool) → kind ≡ (if exits then Exit else Play)
        → Follows after (carried kind request)
    follows kind request exits is =
        let count = commands_are kind request exits is in
        let first = first_is in
        let last = next_is in
        record {
          start = first;
          end = elim (cases_lt (made me node) (resend_of node to)) [
            | inl past ↦ inl (omega (arith, count, first, past))
            | inr low ↦ inr (omega (arith, count, first, low))
          ];
          next = omega (arith, count, first, last);
          all = λ near. omega (arith, count, first, near);
          low = λ within. omega (arith, count, first, last, within);
          most = omega (arith, last);
          up = λ within. omega (arith, last, within, lag_low limits);
          sized = (whole_of (commands_flight limits me node to kind request), omega (arith, count));
        }

    pub sends : Sends (on_send limits me node to).0 (on_send limits me node to).1
    sends = send_cases limits me node (λ (r : Node × Option Flight). Sends r.0 r.1) to
        (inl (refl, (λ one e. absurd (none-some one e)))) (λ other e. inl (set_up_silent node.settings))
        (λ other e. inr (_, refl, follows Play (request_to node to) false refl))
        (λ other left. inr (
          _,
          refl,
          follows (left_kind limits me node to) None
              (not (nat_lt (last_sent limits me node to) (made me node))) (by_test (nat_lt (last_sent limits me node to) (made me node))),
        ))
      where
        by_test : (test : Bool) → ◌≡◌ {A = Kind} (if test then Play else Exit) (if not test then Exit else Play)
        by_test true = refl
        by_test false = refl

-- A packet asks for commands again from the tic that its datagram tells, or not at all.

-- a close tic is read from its low byte
read_close : (made tic : ℕ) → is_close made tic ≡ true → exact_tic made (tic % 256) ≡ Some tic
read_close made tic close = grind arith

-- what is heard is a packet of this sender, which asks for what its bytes do, or for nothing
abbrev IsOf : ℕ → ℕ → Packet → Flight → Type 0
IsOf from count packet flight =
    (flight.from ≡ from) × ((flight.request ≡ None)
    ⊎ ((has_flag packet flag.set_up ≡ false) × (flight.request ≡ request_in count packet)))

read_of : (from me count : ℕ) (packet : Packet) (told : Result Settings SetupFault) (phase : Phase) (flight : Flight)
    → read_flight from me count told (Ok packet) phase ≡ Ok flight → IsOf from count packet flight
read_of from me count packet told phase flight e = grind arith

heard_of : (players from me count : ℕ) (played : Bool) (told : Result Settings SetupFault) (packet : Packet) (phase : Phase)
    (flight : Flight) → flight_from players from me count played told (Ok packet) phase ≡ Ok flight
    → IsOf from count packet flight × (from ≢ me)
heard_of players from me count played told packet phase flight =
    go (hears_none phase played) (not (nat_lt from players)) (from == me) refl
  where
    go : (one two three : Bool) → (from == me) ≡ three
        → (if one then Err drops.not_playing else (if two || three then Err drops.stranger
        else read_flight from me count told (Ok packet) phase)) ≡ Ok flight
        → IsOf from count packet flight × (from ≢ me)
    go true two three own e = absurd (cc)
    go false true three own e = absurd (cc)
    go false false true own e = absurd (cc)
    go false false false own e =
        (read_of from me count packet told phase flight e, (λ same. true≢false (sym (eq-eqb from me same) ∙ own)))

faulty : (players from me count : ℕ) (played : Bool) (told : Result Settings SetupFault) (fault : PacketFault)
    (phase : Phase) (flight : Flight) → flight_from players from me count played told (Err fault) phase ≢ Ok flight
faulty players from me count played told fault phase flight is = grind arith

-- that is what its envelope tells
module _ (made : ℕ) (opened : Opened) (packet : Packet) (few : packet.flags < 16)
    (is : opened.datagram.items ≡ text packet) (alike : is_alike opened ≡ true)
    (close : is_request_close made opened.ask ≡ true) where
  flag_is : (which : ℕ) → flag_in opened.datagram.items which ≡ has_flag packet which
  flag_is which = ap (λ (bytes : List ℕ). not (bit_and (slice_index bytes 3 / 16) which == 0)) is
      ∙ ap (λ (n : ℕ). not (bit_and n which == 0)) (flags_at packet few)

  -- by the request that the envelope tells
  asks_by : (ask : Option ℕ) → opened.ask ≡ ask → (tic : ℕ) → has_flag packet flag.retransmit ≡ true
      → exact_tic made packet.ask ≡ Some tic
      → (slice_index opened.datagram.items 4 == request_byte ask && (if is_some ask
      then flag_in opened.datagram.items flag.retransmit else not (flag_in opened.datagram.items flag.retransmit))) ≡ true
      → ask ≡ Some tic
  asks_by None here tic set exact both =
      let off = (and_parts (slice_index opened.datagram.items 4 == 0)
      (not (flag_in opened.datagram.items flag.retransmit)) both).1 in
      absurd (true≢false (sym off ∙ ap not (flag_is flag.retransmit ∙ set)))
  asks_by (Some asked) here tic set exact both =
      let low = eqb-true _ _ (and_parts (slice_index opened.datagram.items 4 == asked % 256)
      (flag_in opened.datagram.items flag.retransmit) both).0 in
      let near : is_close made asked ≡ true = ap (is_request_close made) (sym here) ∙ close in
      let byte : packet.ask ≡ asked % 256 = ap (λ (bytes : List ℕ). slice_index bytes 4) (sym is) ∙ low in
      sym (read_close made asked near) ∙ ap (exact_tic made) (sym byte) ∙ exact

  asks_as : (tic : ℕ) → has_flag packet flag.set_up ≡ false → request_in made packet ≡ Some tic
      → opened.ask ≡ Some tic
  asks_as tic plain asks = go (has_flag packet flag.retransmit) refl asks
    where
      unset : flag_in opened.datagram.items flag.set_up ≡ false
      unset = flag_is flag.set_up ∙ plain

      same : asks_alike opened.datagram.items opened.ask ≡ true
      same =
          let from = slice_index opened.datagram.items 6 == opened.from in
          let start = slice_index opened.datagram.items 5 == opened.start % 256 in
          let asks = asks_alike opened.datagram.items opened.ask in
          (and_parts start asks (and_parts from (start && asks)
          (ap (λ (b : Bool). b || (from && (start && asks))) (sym unset) ∙ alike)).1).1

      go : (test : Bool) → has_flag packet flag.retransmit ≡ test
          → (if test then exact_tic made packet.ask else None) ≡ Some tic → opened.ask ≡ Some tic
      go true set exact = asks_by opened.ask refl tic set exact same
      go false off none = absurd (none-some tic none)

-- so the tic from which a node sends next is as it was, or the one that its envelope tells, of those that it has
-- made, or the next; and none is made
module _ (limits : Limits) (me : ℕ) (m : machine.Node) (to : ℕ) (opened : Opened) where
  abbrev Answers : machine.Node × Arrived → Type 0
  Answers after =
      (made me after.0 ≡ made me m) × ((resend_of after.0 to ≡ resend_of m to)
      ⊎ ((opened.from ≡ to) × (opened.ask ≡ Some (resend_of after.0 to)) × (resend_of after.0 to ≤ made me m)))

  heard_as_told : (packet : Packet) (result : Result Flight ℕ)
      → ((flight : Flight) → result ≡ Ok flight → IsOf opened.from (made me m) packet flight × (opened.from ≢ me))
      → packet.flags < 16 → opened.datagram.items ≡ text packet → is_alike opened ≡ true
      → is_request_close (made me m) opened.ask ≡ true → Answers (heard (heard_as limits me m m.phase result))
  unfolding on_packet
  heard_as_told packet (Err number) of few is alike close = (refl, inl refl)
  heard_as_told packet (Ok flight) of few is alike close =
      let its = of flight refl in (
        packet_made limits me m to flight (λ e. its.1 (sym its.0.0 ∙ e)),
        elim (packet_asked limits me m to flight) [
          | inl same ↦ inl same
          | inr asks ↦ elim its.0.1 [
            | inl none ↦ absurd (none-some _ (sym none ∙ asks.1.0))
            | inr reads ↦ inr (
              sym its.0.0 ∙ asks.0,
              asks_as (made me m) opened packet few is alike close _ reads.0 (sym reads.1 ∙ asks.1.0),
              asks.1.1,
            )
          ]
        ],
      )

  faults : (result : Result Flight ℕ) → ((flight : Flight) → result ≢ Ok flight)
      → Answers (heard (heard_as limits me m m.phase result))
  faults (Err number) none = (refl, inl refl)
  faults (Ok flight) none = absurd (none flight refl)

  pub opened_asked : (read : Result Packet PacketFault) (told : Result Settings SetupFault) → IsRead opened read told
      → Answers (on_opened limits me m opened read told)
  opened_asked read told is = go (is_close (made me m) opened.start) (is_request_close (made me m) opened.ask) (is_alike opened)
      refl refl read is
    where
      go : (near close alike : Bool) → is_request_close (made me m) opened.ask ≡ close → is_alike opened ≡ alike
          → (read : Result Packet PacketFault) → IsRead opened read told → Answers (if near && close
          then (if alike then heard (received limits me m opened.from told read) else (m, Arrived.Unlike))
          else (m, Arrived.Late))
      go false close alike c a read is = (refl, inl refl)
      go true false alike c a read is = (refl, inl refl)
      go true true false c a read is = (refl, inl refl)
      go true true true c a (Ok packet) is = heard_as_told packet _
          (λ flight e. heard_of limits.players opened.from me (made me m) m.played told packet m.phase flight e)
          is.0.0.flags is.0.1 a c
      go true true true c a (Err fault) is = faults _
          (λ flight e. faulty limits.players opened.from me (made me m) m.played told fault m.phase flight e)
