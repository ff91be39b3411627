-- The cases of each call on a node: what is so of each node that a call may leave, with its answer where
-- that tells, is so of the one that it leaves.
use Rattle.std.proofs.{Common.{◌≡◌, ℕ, ◌+◌, ◌-◌, ◌<◌, ◌≤◌, ◌≢◌, true, false, [], ◌∷◌, ◌++◌, drop, arith, Option, Some, None, ℤ, zero, suc, Bool, length, get_or, refl, inl, inr, leb-true, leb-false, ltb-true, ltb-false, ◌⊎◌}, lemmas.Bool.{cases_Bool, and_from}}
use Rattle.std.proofs.lemmas.List.{Folds.list_all_at, FromFn.{length-range_with_len, get_or-range_with_len}}
use Rattle.std.specs.List.{list_all, range_with_len}
use Rattle.dn_setup.specs.{Settings.Settings, Gathered.all_noted}
use Rattle.dn_tic.specs.declared.input.Input.{Input}
use Rattle.dn_machine.specs.Making.{Making, vanilla_making}
use Rattle.dn_machine.specs.Running.{marks_kept, full_at, is_awaited, first_off, row_held, on_run, on_quit}
use Rattle.dn_machine.specs.{declared.answers.Cause.Cause, declared.answers.Phase.TheVariants.{Listening, Gathering, Playing, Ended}, declared.answers.Heard.Heard, declared.peer.Peer.Peer, Limits.Limits}
use Rattle.dn_machine.specs.{Flight.{Kind, SetUp, Play, Flight, is_exit, end_of}, Node.{Node, put, with_peer, ends_of, got, made, ran, held_at, own_mark, lowest, is_ended, has_left}, Sending.{on_build, on_build_by, set_up_flight, left_kind, commands_flight, request_to, after_sent, on_send}}
use Rattle.dn_machine.specs.Hearing.{started, after_request, after_flight, is_strange_end, left_or, on_commands, on_packet}
use Rattle.dn_machine.specs.Drops as drops

-- the packet is not set-up
abbrev pub IsWord : Kind → Type 0
IsWord kind = (s : Settings) → kind ≢ SetUp s

module _ (limits : Limits) (me : ℕ) (node : Node) where
  abbrev pub ended_by : Cause → Node
  ended_by cause = record node { phase = Ended cause }

  -- build
  abbrev pub built_by : Making → Input → Node
  built_by making input = record node {
    inputs = node.inputs ++ input ∷ [];
    held = put node.held me
        (node.held me ++ making.command (node.inputs ++ input ∷ []) (own_mark node me (made me node)) ∷ []);
  }

  pub build_by_cases : (making : Making) (P : Node → Type 0) (input : Input)
      → ((node.phase ≡ Playing → ran node + limits.ahead ≤ made me node) → P node)
      → (node.phase ≡ Playing → made me node < ran node + limits.ahead → P (built_by making input))
      → P (on_build_by making limits me node input).0
  unfolding on_build_by
  build_by_cases making P input same builds = grind arith

  -- the same where commands are made as in 1997
  abbrev pub built : Input → Node
  built input = built_by vanilla_making input

  pub build_cases : (P : Node → Type 0) (input : Input)
      → ((node.phase ≡ Playing → ran node + limits.ahead ≤ made me node) → P node)
      → (node.phase ≡ Playing → made me node < ran node + limits.ahead → P (built input))
      → P (on_build limits me node input).0
  build_cases P input same builds = build_by_cases vanilla_making P input same builds

  -- send
  pub send_cases : (P : Node × Option Flight → Type 0) (to : ℕ) → P (node, None)
      → (me ≢ to → node.phase ≡ Gathering → P (node, set_up_flight me to node.settings))
      → (me ≢ to → node.phase ≡ Playing
      → P (after_sent limits me node to, Some (commands_flight limits me node to Play (request_to node to))))
      → (me ≢ to → has_left node ≡ true
      → P (after_sent limits me node to, Some (commands_flight limits me node to (left_kind limits me node to) None)))
      → P (on_send limits me node to)
  unfolding on_send
  send_cases P to none sets_up plays left = grind arith

  -- run: the node after one more row, with the marks that it was told
  abbrev pub ran_on : (ℕ → ℤ) → Node
  ran_on marks = record node {
    rows = node.rows ++ row_held limits node ∷ [];
    marks = put node.marks (ran node) (marks_kept limits node marks);
  }

  pub run_cases : (marks : ℕ → ℤ) (P : Node → Type 0)
      → ((node.phase ≡ Playing → lowest limits.players (is_awaited node) ≢ None) → P node)
      → ((player : ℕ) → node.phase ≡ Playing → lowest limits.players (is_awaited node) ≡ None
      → first_off limits node ≡ Some player
      → P (ended_by (Cause.Inconsistent player (held_at node player (ran node)).mark
      (own_mark node player (ran node)))))
      → (node.phase ≡ Playing → lowest limits.players (is_awaited node) ≡ None
      → ran node ≡ full_at limits (row_held limits node) → P (ended_by Cause.Full))
      → (node.phase ≡ Playing → lowest limits.players (is_awaited node) ≡ None
      → ran node ≢ full_at limits (row_held limits node)
      → P (ran_on marks))
      → P (on_run limits node marks).0
  unfolding on_run
  run_cases marks P same off full runs = grind arith

  -- quit
  pub quit_cases : (P : Node → Type 0) → P node → (is_ended node.phase ≡ false → P (ended_by Cause.Quit))
      → P (on_quit node).0
  unfolding on_quit
  quit_cases P same quits = grind arith

  module _ (flight : Flight) where
    -- what a packet that is not dropped leaves of what is kept of its sender
    abbrev pub sender_after : Peer
    sender_after = after_flight limits.places (made me node) (node.peers flight.from) flight

    -- why commands are dropped, by the number that is told
    abbrev pub Refused : ℕ → Type 0
    Refused number = ((number ≡ drops.overrun) × (ran node + limits.places < end_of flight))
        ⊎ ((number ≡ drops.end)
        × (is_strange_end (is_exit flight.kind) (got node flight.from) (ends_of node flight.from)
        (end_of flight) ≡ true))

    -- the commands of a packet
    pub record Commands (P : Node × Heard → Type 0) : Type 0 where
      pub dropped : (number : ℕ) → Refused number → P (node, Heard.Dropped number)
      pub stale : end_of flight ≤ got node flight.from
          → P (with_peer node flight.from sender_after, left_or (is_exit flight.kind) Heard.Stale)
      pub gap : got node flight.from < flight.start
          → P (with_peer node flight.from (record sender_after { want = true }), Heard.Gap)
      pub takes : flight.start ≤ got node flight.from → got node flight.from < end_of flight
          → P (
            record (with_peer node flight.from (record sender_after { want = false })) {
              held = put node.held flight.from
                  (node.held flight.from ++ drop (got node flight.from - flight.start) flight.commands);
            },
            left_or (is_exit flight.kind) (Heard.Taken (end_of flight - got node flight.from)),
          )

    pub commands_cases : (P : Node × Heard → Type 0) → Commands P → P (on_commands limits me node flight)
    commands_cases P cases = grind (arith, ltb-true, leb-true, ltb-false, leb-false)

    -- hear
    pub record Packet (P : Node × Heard → Type 0) : Type 0 where
      pub dropped : (number : ℕ) → (number ≡ drops.out_of_place) ⊎ (number ≡ drops.not_playing)
          → P (node, Heard.Dropped number)
      pub starts : (settings : Settings) → node.phase ≡ Listening → flight.kind ≡ SetUp settings
          → P (started node settings, Heard.Started)
      pub completes : IsWord flight.kind → node.phase ≡ Gathering
          → all_noted limits.players (put node.noted flight.from true) ≡ true
          → P (record node { phase = Playing; played = true; noted = put node.noted flight.from true }, Heard.Started)
      pub notes : IsWord flight.kind → node.phase ≡ Gathering
          → all_noted limits.players (put node.noted flight.from true) ≡ false
          → P (record node { noted = put node.noted flight.from true }, Heard.Noted)
      pub commands : node.phase ≡ Playing → Commands P
      pub requests : is_ended node.phase ≡ true
          → P (
            with_peer node flight.from
                (after_request limits.places (made me node) (node.peers flight.from) flight.request),
            Heard.Noted,
          )

    pub packet_cases : (P : Node × Heard → Type 0) → Packet P → P (on_packet limits me node flight)
    unfolding on_packet
    packet_cases P cases = grind (arith, commands_cases)

-- What each call does to the phase of a node, and to whom it has noted.

-- all are noted: each from 1 on
passes_list : (test : ℕ → Bool) (low count : ℕ) → ((k : ℕ) → low ≤ k → k < low + count → test k ≡ true)
    → list_all test (range_with_len low count) ≡ true
passes_list test low zero h = refl
passes_list test low (suc count) h = and_from (test low) (list_all test (range_with_len (low + 1) count))
    (h low (omega arith) (omega arith))
    (passes_list test (low + 1) count (λ k a b. h k (omega arith) (omega arith)))

pub each_noted : (players : ℕ) (noted : ℕ → Bool) (k : ℕ) → all_noted players noted ≡ true → 0 < k
    → k < players → noted k ≡ true
each_noted players noted k e a b = elim (cases_Bool (noted k)) [
  | inl is ↦ is
  | inr not ↦
      let long = length-range_with_len 1 (players - 1) in
      let at : get_or (range_with_len 1 (players - 1)) (k - 1) 0 ≡ k = grind (arith, get_or-range_with_len) in
      grind (arith, list_all_at)
]

pub noted_all : (players : ℕ) (noted : ℕ → Bool) → ((k : ℕ) → 0 < k → k < players → noted k ≡ true)
    → all_noted players noted ≡ true
noted_all players noted h = passes_list noted 1 (players - 1) (λ k a b. h k (omega arith) (omega arith))

-- What a call on a node does to its phase and to whom it has noted, where a packet from this player came.
pub data Change (players : ℕ) (from : ℕ) (spoke ends : Type 0) (old new : Node) : Type 0 where
  Same : new.phase ≡ old.phase → new.played ≡ old.played → new.noted ≡ old.noted
      → (old.phase ≡ Gathering → length new.rows ≡ length old.rows) → Change players from spoke ends old new
  Starts : old.phase ≡ Listening → new.phase ≡ Playing → new.played ≡ true → new.noted ≡ old.noted
      → Change players from spoke ends old new
  Notes : spoke → old.phase ≡ Gathering → new.phase ≡ Gathering → new.played ≡ old.played
      → new.noted ≡ put old.noted from true → all_noted players new.noted ≡ false
      → length new.rows ≡ length old.rows → Change players from spoke ends old new
  Completes : spoke → old.phase ≡ Gathering → new.phase ≡ Playing → new.played ≡ true
      → new.noted ≡ put old.noted from true → all_noted players new.noted ≡ true
      → Change players from spoke ends old new
  Gone : ends → is_ended new.phase ≡ true → new.played ≡ old.played → new.noted ≡ old.noted
      → Change players from spoke ends old new

module _ (limits : Limits) (i : ℕ) (node : Node) where
  pub build_change : (input : Input) → Change limits.players 0 ⊥ ⊥ node (on_build limits i node input).0
  build_change input = build_cases limits i node (λ (new : Node). Change limits.players 0 ⊥ ⊥ node new) input
      (λ full. Same refl refl refl (λ e. refl)) (λ plays free. Same refl refl refl (λ e. refl))

  pub send_change : (to : ℕ) → Change limits.players 0 ⊥ ⊥ node (on_send limits i node to).0
  unfolding on_send
  send_change to = grind arith

  pub run_change : (marks : ℕ → ℤ) → Change limits.players 0 ⊥ (Unit {0}) node (on_run limits node marks).0
  unfolding on_run
  run_change marks = grind arith

  pub quit_change : Change limits.players 0 ⊥ (Unit {0}) node (on_quit node).0
  quit_change = quit_cases limits i node (λ (new : Node). Change limits.players 0 ⊥ (Unit {0}) node new)
      (Same refl refl refl (λ e. refl)) (λ goes_on. Gone tt refl refl refl)

  pub hear_change : (flight : Flight) → Change limits.players flight.from (IsWord flight.kind) ⊥ node
      (on_packet limits i node flight).0
  hear_change flight = packet_cases limits i node flight
      (λ (r : Node × Heard). Change limits.players flight.from (IsWord flight.kind) ⊥ node r.0) (grind arith)
