-- What a playing node makes of a packet of commands.
use Rattle.std.proofs.Common.{◌≡◌, ◌-◌, ℕ, Bool, false, List, length, take, drop, ap, sym, ◌∙◌, ◌≢◌, ◌<◌, ◌≤◌, ◌+◌}
use Rattle.std.proofs.{Common.{true, cond, ◌++◌, refl, arith}, lemmas.List.{take_rest, take-append-drop, length-drop}}
use Rattle.std.proofs.lemmas.{List.Folds.list_any-append, Bool.{or_parts, le-ltb, lt-ltb, le-leb}}
use Rattle.std.specs.{List.list_any, Prelude.{nat_lt, Ok}}
use Rattle.dn_tic.specs.declared.command.TicCmd.{TicCmd}
use Rattle.dn_packet.specs.declared.packet.Packet.{Packet}
use Rattle.dn_ring.specs.Ring.{Ring}
use Rattle.dn_machine.specs.declared.answers.{Heard.Heard, Cause.Cause, Phase.TheVariants.{Playing, Ended}}
use Rattle.dn_machine.specs.{declared.peer.Peer.Peer, Limits.Limits, Flight.{Flight, is_exit, end_of}, Running.is_over}
use Rattle.dn_machine.specs.Node.{put, with_peer, ends_of}
use Rattle.dn_machine.specs.Hearing.{on_commands, after_request, after_exit, after_flight, left_or, is_strange_end}
use Rattle.dn_lockstep.specs.{Contents.Contents, Received.{has_flag, start_in, request_in, flight_in, on_player}}
use Rattle.dn_lockstep.specs.{Represents.{Represents, marked_to}, Tables.{count_of, ring_of}, Steps.IsAfter}
use Rattle.dn_lockstep.proofs.{After.after, Shown.{below, got_is, made_is}, Changing.{shows_commands, shows_peer}}
use Rattle.dn_machine.proofs.Peers.{asked_end}
use Rattle.dn_packet.specs.Flags as flag
use Rattle.dn_machine.specs.Drops as drops
use Rattle.dn_machine.specs.Node as machine

-- how long it is
pub rest_length : {A : Type 0} (xs : List A) (skip : ℕ)
    → length (take (length xs - skip) (drop skip xs)) ≡ length xs - skip
rest_length {A} xs skip = ap (length {A = A}) (take_rest xs skip) ∙ length-drop skip xs

-- where no element passes a test, none of the rest does
pub none_behind : {A : Type 0} (test : A → Bool) (xs : List A) (skip : ℕ) → list_any test xs ≡ false
    → list_any test (take (length xs - skip) (drop skip xs)) ≡ false
none_behind test xs skip e =
    ap (list_any test) (take_rest xs skip)
    ∙ (or_parts (list_any test (take skip xs)) _ (sym (list_any-append test (take skip xs) (drop skip xs))
    ∙ ap (list_any test) (take-append-drop skip xs) ∙ e)).1

-- what is kept of the sender after a flight
abbrev asked : Limits → ℕ → machine.Node → Flight → Peer
asked limits me m f = after_flight limits.places (machine.made me m) (m.peers f.from) f

-- it takes no mark of the sender's away
flight_marked : (limits : Limits) (me : ℕ) (m : machine.Node) (f : Flight)
    → is_strange_end (is_exit f.kind) (machine.got m f.from) (ends_of m f.from) (end_of f) ≡ false
    → (is_over (ends_of m f.from) (machine.ran m) ≡ false → machine.ran m ≤ machine.got m f.from)
    → marked_to (machine.ran m) (asked limits me m f).end ≡ marked_to (machine.ran m) (ends_of m f.from)
flight_marked limits me m f = grind arith

-- the node that has taken its commands
abbrev node_taken : Limits → ℕ → machine.Node → Flight → machine.Node
node_taken limits me m f = record (with_peer m f.from (record (asked limits me m f) { want = false })) {
  held = put m.held f.from (m.held f.from ++ drop (machine.got m f.from - f.start) f.commands);
}

-- what a flight does, by its numbers
module _ (limits : Limits) (me : ℕ) (m : machine.Node) (f : Flight) where
  module _ (fits : nat_lt (machine.ran m + limits.places) (end_of f) ≡ false) where
    module _ (fine : is_strange_end (is_exit f.kind) (machine.got m f.from) (ends_of m f.from) (end_of f)
        ≡ false) where
      stale : end_of f ≤ machine.got m f.from → ◌≡◌ {A = machine.Node × Heard} (on_commands limits me m f)
          (with_peer m f.from (asked limits me m f), cond (is_exit f.kind) Heard.Left Heard.Stale)
      stale old = grind (arith, le-leb, fits, fine)

      gap : machine.got m f.from < end_of f → machine.got m f.from < f.start
          → ◌≡◌ {A = machine.Node × Heard} (on_commands limits me m f)
          (with_peer m f.from (record (asked limits me m f) { want = true }), Heard.Gap)
      gap new far = grind arith

      taken : machine.got m f.from < end_of f → f.start ≤ machine.got m f.from
          → ◌≡◌ {A = machine.Node × Heard} (on_commands limits me m f) (
            node_taken limits me m f,
            cond (is_exit f.kind) Heard.Left (Heard.Taken (end_of f - machine.got m f.from)),
          )
      taken new near = grind arith

-- what a node has read of a packet that it may take: the tic of its start
pub record IsRead (n : Contents) (from : ℕ) (packet : Packet) (made start : ℕ) : Type 0 where
  pub own : n.me < n.players
  pub peer : from < n.players
  pub count : made ≡ count_of n.rings n.me
  pub told : start_in made packet ≡ Ok start

module _ {limits : Limits} {me : ℕ} {n : Contents} {m : machine.Node} (r : Represents limits me n m)
    {from : ℕ} {packet : Packet} {made start : ℕ} (read : IsRead n from packet made start) where
  same_made : made ≡ machine.made me m
  same_made = read.count ∙ made_is limits me n m r read.own

  same_peer : n.peers from ≡ m.peers from
  same_peer = r.peers.known from (below limits me n m r from read.peer)

  -- at a node that has played and ended
  pub leaver_asked : (cause : Cause) (peers : ℕ → Peer) → n.played ≡ true → has_flag packet flag.exit ≡ false
      → peers from ≡ after_request n.places made (n.peers from) (request_in made packet)
      → ((p : ℕ) → p ≢ from → peers p ≡ n.peers p)
      → IsAfter limits me (record n { peers = peers }) (on_player limits me m from packet (Ended cause))
      (λ heard. Heard.Noted ≡ heard)
  leaver_asked cause peers played stays is others =
      grind (arith, same_made, same_peer, after, shows_peer, asked_end)

  module _ {commands : List TicCmd} (items : commands ≡ packet.cmds.items) where
    abbrev f : Flight
    f = flight_in from me (machine.made me m) packet start

    same_length : length commands ≡ length packet.cmds.items
    same_length = ap (length {A = TicCmd}) items

    step : ◌≡◌ {A = machine.Node × Heard} (on_player limits me m from packet Playing) (on_commands limits me m f)
    step = grind arith

    pub over_shows : n.ran + n.places < start + length commands
        → IsAfter limits me n (on_player limits me m from packet Playing)
        (λ heard. Heard.Dropped drops.overrun ≡ heard)
    over_shows past = grind (arith, after, step, same_length, lt-ltb)

    module _ (room : start + length commands ≤ n.ran + n.places) {exit : Bool}
        (flagged : exit ≡ has_flag packet flag.exit) {got : ℕ} (counted : got ≡ count_of n.rings from) where
      exits_is : exit ≡ is_exit f.kind
      exits_is = grind arith

      fits : nat_lt (machine.ran m + limits.places) (end_of f) ≡ false
      fits = le-ltb (machine.ran m + limits.places) (end_of f) (omega (arith, room, r.table.ran, same_length, r.whose.places))

      had : got ≡ machine.got m from
      had = counted ∙ got_is limits me n m r from read.peer

      odd_is : is_strange_end exit got (n.peers from).end (start + length commands)
          ≡ is_strange_end (is_exit f.kind) (machine.got m from) (ends_of m from) (end_of f)
      odd_is = grind arith

      pub odd_shows : is_strange_end exit got (n.peers from).end (start + length commands) ≡ true
          → IsAfter limits me n (on_player limits me m from packet Playing)
          (λ heard. Heard.Dropped drops.end ≡ heard)
      odd_shows strange = grind (arith, after, step, fits, odd_is)

      module _ (usual : is_strange_end exit got (n.peers from).end (start + length commands) ≡ false) {q : Peer}
          (asks : q ≡ after_exit (after_request n.places made (n.peers from) (request_in made packet)) exit
          (start + length commands)) (ahead : is_over (n.peers from).end n.ran ≡ false → n.ran ≤ got)
          (peers : ℕ → Peer) (others : (p : ℕ) → p ≢ from → peers p ≡ n.peers p) where
        fine : is_strange_end (is_exit f.kind) (machine.got m from) (ends_of m from) (end_of f) ≡ false
        fine = sym odd_is ∙ usual

        -- the commands of one who is there have come up to the tics that were run
        caught_up : is_over (ends_of m from) (machine.ran m) ≡ false → machine.ran m ≤ machine.got m from
        caught_up present = grind arith

        same_asked : q ≡ asked limits me m f
        same_asked = grind arith

        pub stale_shows : start + length commands ≤ got → peers from ≡ q
            → IsAfter limits me (record n { peers = peers }) (on_player limits me m from packet Playing)
            (λ heard. left_or exit Heard.Stale ≡ heard)
        stale_shows old is =
            after (with_peer m from (asked limits me m f)) (left_or (is_exit f.kind) Heard.Stale)
            (step ∙ stale limits me m f fits fine (omega (arith, old, had, same_length)))
            (shows_peer r from peers (flight_marked limits me m f fine caught_up) (is ∙ same_asked) others)
            (ap (λ (b : Bool). left_or b Heard.Stale) exits_is)

        pub gap_shows : got < start + length commands → got < start → peers from ≡ record q { want = true }
            → IsAfter limits me (record n { peers = peers }) (on_player limits me m from packet Playing)
            (λ heard. Heard.Gap ≡ heard)
        gap_shows new far is =
            after (with_peer m from (record (asked limits me m f) { want = true })) Heard.Gap
            (step ∙ gap limits me m f fits fine (omega (arith, new, had, same_length)) (omega (arith, far, had)))
            (shows_peer r from peers (flight_marked limits me m f fine caught_up)
            (is ∙ ap (λ (x : Peer). record x { want = true }) same_asked) others) refl

        pub taken_shows : (rings : ℕ → Ring) → got < start + length commands → start ≤ got
            → peers from ≡ record q { want = false }
            → ((held : List TicCmd) → n.rings from ≡ ring_of held
            → rings from ≡ ring_of
            (held ++ take (length commands - (got - start)) (drop (got - start) commands)))
            → ((p : ℕ) → p ≢ from → rings p ≡ n.rings p)
            → IsAfter limits me (record n { peers = peers; rings = rings })
            (on_player limits me m from packet Playing)
            (λ heard. left_or exit (Heard.Taken (start + length commands - got)) ≡ heard)
        taken_shows rings new near is kept apart =
            let held = m.held from in
            let skip : ℕ = machine.got m from - start in
            let rest : rings from ≡ ring_of (held ++ drop skip packet.cmds.items) =
            grind (arith, below, take_rest, had) in
            let counts : start + length commands - got
            ≡ start + length packet.cmds.items - machine.got m from = omega (arith, had, same_length) in
            after (node_taken limits me m f) (left_or (is_exit f.kind)
            (Heard.Taken (start + length packet.cmds.items - machine.got m from)))
            (step ∙ taken limits me m f fits fine (omega (arith, new, had, same_length))
            (omega (arith, near, had)))
            (shows_commands (shows_peer r from peers (flight_marked limits me m f fine caught_up)
            (is ∙ ap (λ (x : Peer). record x { want = false }) same_asked) others) from n.hold m.inputs _
            rings r.commands.hold rest apart)
            (λ i. left_or (exits_is i) (Heard.Taken (counts i)))
