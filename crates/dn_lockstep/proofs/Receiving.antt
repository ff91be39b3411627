-- How a node hears a datagram: by what it tests first, by the packet's flags and by the node's phase; and
-- that a fair flight that is near is read as it was sent.
use Rattle.std.proofs.Common.{◌≡◌, ◌≢◌, ℕ, Bool, true, false, refl, ap, arith, ◌<◌, ◌≤◌, ◌⊎◌, List, sym, ◌+◌, ◌∙◌, inl, inr, Result, Ok, if◌then◌else◌, Err, bit_and, not, ◌==◌}
use Rattle.std.proofs.lemmas.Bool.{eq-eqb, ne_eqb, and_parts, lt-ltb, cases_Bool}
use Rattle.std.specs.List.{list_any}
use Rattle.dn_packet.specs.{declared.packet.{Packet.Packet, PacketFault.PacketFault}, Read.IsReadAs}
use Rattle.dn_setup.specs.{Settings.Settings, declared.setup.SetupFault.{SetupFault, TheVariants.NotSetup}}
use Rattle.dn_setup.specs.Setup.{IsSetupReadAs}
use Rattle.dn_machine.specs.declared.answers.{Heard.Heard, Phase.{Phase, TheVariants.{Listening, Gathering}}}
use Rattle.dn_machine.specs.Limits.{Limits}
use Rattle.dn_machine.specs.{Flight.{Play, Exit, Kind, SetUp, Flight, packet_of, commands_packet, is_close, is_request_close, is_near}, Node.made, Hearing.{on_gathering, on_packet, on_packet_in}}
use Rattle.dn_lockstep.specs.{Phases.{is_listening, hears_none}, Received.{has_flag, kind_in, start_in, request_in, heard_as, flight_at, other_flight, on_read, on_player, received, packet_drop, IsTold, on_set_up}}
use Rattle.dn_lockstep.specs.{Contents.{Contents, whose}, Hearing.{HearsAny, HearsNear}, Represents.Represents}
use Rattle.dn_lockstep.specs.{Steps.Simulates, Sent.{IsFair, IsFairKind}, Tables.is_stop}
use Rattle.dn_lockstep.proofs.{After.{after, steps}, Shown.made_is}
use Rattle.dn_packet.specs.Flags as flag
use Rattle.dn_machine.specs.Drops as drops
use Rattle.dn_machine.specs.Node as machine

-- a packet of commands is of one of two kinds
pub kind_flagged : (packet : Packet) (set : Bool) → has_flag packet flag.exit ≡ set
    → kind_in packet ≡ (if set then Exit else Play)
kind_flagged packet set e = ap (λ (b : Bool). if b then Exit else Play) e

module _ (limits : Limits) (me : ℕ) (m : machine.Node) (from : ℕ)
    (told : Result Settings SetupFault) (packet : Packet) where
  abbrev on_other : Phase → machine.Node × Heard
  on_other phase = heard_as limits me m phase (other_flight from me (made me m) packet phase)

  pub read_other : has_flag packet flag.set_up ≡ false
      → ◌≡◌ {A = machine.Node × Heard} (on_read limits me m from told (Ok packet)) (on_other m.phase)
  read_other plain = rw plain refl

  -- a node that does not listen
  listens : (phase : Phase) → phase ≢ Listening → is_listening phase ≡ false
  listens phase n = grind arith

  module _ (plain : has_flag packet flag.set_up ≡ false) (heard : m.phase ≢ Listening) where
    -- the player's byte is not the sender's
    pub read_strange : packet.player ≢ from
        → ◌≡◌ {A = machine.Node × Heard} (on_read limits me m from told (Ok packet))
        (m, Heard.Dropped drops.stranger)
    read_strange other = grind (arith, listens, ne_eqb, read_other)

    pub read_killed : packet.player ≡ from → has_flag packet flag.kill ≡ true
        → ◌≡◌ {A = machine.Node × Heard} (on_read limits me m from told (Ok packet)) (m, Heard.Dropped drops.kill)
    read_killed own kills = grind (arith, listens, eq-eqb, read_other)

    pub read_player : packet.player ≡ from → has_flag packet flag.kill ≡ false
        → ◌≡◌ {A = machine.Node × Heard} (on_read limits me m from told (Ok packet))
        (on_player limits me m from packet m.phase)
    read_player own alive = grind (arith, listens, eq-eqb, read_other)

module _ (limits : Limits) (me : ℕ) (m : machine.Node) (from : ℕ) (packet : Packet) where
  abbrev pub on_start : Phase → Result ℕ ℕ → machine.Node × Heard
  on_start phase start = heard_as limits me m phase (flight_at from me (made me m) packet start)

  pub player_gathers : ◌≡◌ {A = machine.Node × Heard} (on_player limits me m from packet Gathering)
      (on_gathering limits m from)
  player_gathers = grind arith

module _ (limits : Limits) (me : ℕ) (m : machine.Node) (from : ℕ)
    (told : Result Settings SetupFault) (read : Result Packet PacketFault) where
  received_strange : hears_none m.phase m.played ≡ false → (limits.players ≤ from) ⊎ (from ≡ me)
      → ◌≡◌ {A = machine.Node × Heard} (received limits me m from told read) (m, Heard.Dropped drops.stranger)
  received_strange on h = grind arith

  received_read : hears_none m.phase m.played ≡ false → from < limits.players → from ≢ me
      → ◌≡◌ {A = machine.Node × Heard} (received limits me m from told read) (on_read limits me m from told read)
  received_read on below other = grind arith

-- whether it hears anything, and who is no peer, by a node that represents it
module _ {limits : Limits} {me : ℕ} {old : Contents} {m : machine.Node} (r : Represents limits me old m) where
  same_none : hears_none m.phase m.played ≡ hears_none old.phase old.played
  same_none = sym (λ i. hears_none (r.stands.phase i) (r.stands.played i))

module _ (old : Contents) (from : ℕ) (bytes : List ℕ) where
  -- a node that has ended without having played drops it
  pub any_ended : hears_none old.phase old.played ≡ true
      → HearsAny from bytes old old (Heard.Dropped drops.not_playing)
  any_ended done = grind arith

  module _ (on : hears_none old.phase old.played ≡ false) where
    -- who is no peer is not heard
    pub any_strange : (old.players ≤ from) ⊎ (from ≡ old.me)
        → HearsAny from bytes old old (Heard.Dropped drops.stranger)
    any_strange who = grind (arith, after, received_strange, same_none)

    -- a peer's bytes are heard as what they are read as
    pub any_read : (new : Contents) (answer : Heard) (found : Result Packet PacketFault) → from < old.players
        → from ≢ old.me → ((read : Result Packet PacketFault) → IsReadAs bytes read → found ≡ read)
        → whose new ≡ whose old
        → ((told : Result Settings SetupFault) → IsTold found told
        → Simulates old new (λ limits me m. on_read limits me m from told found) (λ heard. answer ≡ heard))
        → HearsAny from bytes old new answer
    any_read new answer found below other only same hears = grind (arith, received_read, same_none, after)

    -- bytes that are no packet are dropped by the number of their fault
    pub any_fault : (fault : PacketFault) (number : ℕ) → number ≡ packet_drop fault → from < old.players
        → from ≢ old.me
        → ((read : Result Packet PacketFault) → IsReadAs bytes read
        → ◌≡◌ {A = Result Packet PacketFault} (Err fault) read)
        → HearsAny from bytes old old (Heard.Dropped number)
    any_fault fault number drop below other only = grind arith

-- A fair flight that is near.

-- a flag that a packet of commands has, or has not, whether it asks or not
flag_is : (flight : Flight) (flags flag : ℕ) (set : Bool) → not (bit_and (flags + 0) flag == 0) ≡ set
    → not (bit_and (flags + 4) flag == 0) ≡ set → has_flag (commands_packet flags flight) flag ≡ set
flag_is flight flags flag set plain asks = grind arith

-- what a kind tells as a set-up packet
abbrev pub told_by : Kind → Result Settings SetupFault
told_by (SetUp settings) = Ok settings
told_by Play = Err NotSetup
told_by Exit = Err NotSetup

pub told_is : (flight : Flight) (kind : Kind) → IsFairKind flight kind
    → IsSetupReadAs (packet_of (record flight { kind = kind })) (told_by kind)
told_is flight kind fair = grind arith

module _ (limits : Limits) (me : ℕ) (m : machine.Node) (flight : Flight) where
  -- a set-up packet
  set_up_heard : (settings : Settings) (phase : Phase) → m.phase ≡ phase → flight.from ≡ 0
      → hears_none m.phase m.played ≡ false
      → ◌≡◌ {A = machine.Node × Heard} (on_set_up limits me m flight.from (Ok settings) phase)
      (on_packet_in limits me m flight phase (SetUp settings))
  set_up_heard settings phase at key on = grind arith

  -- a packet of the flight's commands: of a player who leaves, or who plays on
  record IsSpelt (packet : Packet) (kind : Kind) : Type 0 where
    player : packet.player ≡ flight.from
    plain : has_flag packet flag.set_up ≡ false
    alive : has_flag packet flag.kill ≡ false
    kinded : kind_in packet ≡ kind
    begins : start_in (made me m) packet ≡ Ok flight.start
    asks : request_in (made me m) packet ≡ flight.request
    items : packet.cmds.items ≡ flight.commands

  -- it is heard as the machine hears its flight
  play_heard : {packet : Packet} → IsSpelt packet Play → flight.kind ≡ Play → (phase : Phase) → m.phase ≡ phase
      → hears_none m.phase m.played ≡ false
      → ◌≡◌ {A = machine.Node × Heard} (on_read limits me m flight.from (Err NotSetup) (Ok packet))
      (on_packet_in limits me m flight phase Play)
  play_heard {packet} spelt same phase at on = grind arith

  exit_heard : {packet : Packet} → IsSpelt packet Exit → flight.kind ≡ Exit → (phase : Phase) → m.phase ≡ phase
      → hears_none m.phase m.played ≡ false
      → ◌≡◌ {A = machine.Node × Heard} (on_read limits me m flight.from (Err NotSetup) (Ok packet))
      (on_packet_in limits me m flight phase Exit)
  exit_heard {packet} spelt same phase at on = grind arith

  -- a close flight's packet is spelt so
  spelt_as : (flags : ℕ) {kind : Kind} → kind_in (commands_packet flags flight) ≡ kind
      → has_flag (commands_packet flags flight) flag.set_up ≡ false
      → has_flag (commands_packet flags flight) flag.kill ≡ false
      → (bit_and (flags + 0) 4 ≡ 0) × (bit_and (flags + 4) 4 ≡ 4)
      → (is_close (made me m) flight.start ≡ true) × (is_request_close (made me m) flight.request ≡ true)
      → list_any is_stop flight.commands ≡ false → IsSpelt (commands_packet flags flight) kind
  spelt_as flags kinded plain alive asks close fine = grind arith

  near_read : (kind : Kind) → flight.kind ≡ kind → IsFairKind flight kind
      → is_near (made me m) (record flight { kind = kind }) ≡ true → hears_none m.phase m.played ≡ false
      → ◌≡◌ {A = machine.Node × Heard}
      (on_read limits me m flight.from (told_by kind) (Ok (packet_of (record flight { kind = kind }))))
      (on_packet_in limits me m flight m.phase kind)
  near_read kind is fair near on =
      grind (arith, set_up_heard, play_heard, spelt_as, kind_flagged, flag_is, and_parts, exit_heard)

  ended_heard : (phase : Phase) (played : Bool) (kind : Kind) → m.played ≡ played → hears_none phase played ≡ true
      → ◌≡◌ {A = machine.Node × Heard} (m, Heard.Dropped drops.not_playing)
      (on_packet_in limits me m flight phase kind)
  ended_heard phase played kind at done = grind arith

  pub near_received : IsFair flight → flight.from < limits.players → flight.from ≢ me
      → is_near (made me m) flight ≡ true
      → ◌≡◌ {A = machine.Node × Heard}
      (received limits me m flight.from (told_by flight.kind) (Ok (packet_of flight)))
      (on_packet limits me m flight)
  unfolding on_packet
  near_received fair below other near = elim (cases_Bool (hears_none m.phase m.played)) [
    | inl done ↦ rw done (ended_heard m.phase m.played flight.kind refl done)
    | inr on ↦
        let there = lt-ltb flight.from limits.players below in
        let apart = ne_eqb flight.from me other in
        rw (on, there, apart) (near_read flight.kind refl fair.kind near on)
  ]

-- hence who hears any bytes by the tests hears a near flight as the machine does
pub near_from_any : (old new : Contents) (from : ℕ) (bytes : List ℕ) (answer : Heard)
    → HearsAny from bytes old new answer → old.me < old.players → HearsNear from bytes old new answer
near_from_any old new from bytes answer any own flight fair spelled sent below other near = steps any.same (λ limits me m r.
    let peer : flight.from < limits.players = omega (arith, sent, below, r.whose.players) in
    let apart : flight.from ≢ me = λ e. other (sym sent ∙ e ∙ sym r.whose.number) in
    let close : is_near (made me m) flight ≡ true =
    ap (λ (k : ℕ). is_near k flight) (sym (made_is limits me old m r own)) ∙ near in
    let step = ap (λ (k : ℕ). received limits me m k (told_by flight.kind) (Ok (packet_of flight))) (sym sent)
    ∙ near_received limits me m flight fair peer apart close in
    let heard = any.step (Ok (packet_of flight)) (told_by flight.kind) (fair.packet, spelled)
    (told_is flight flight.kind fair.kind) limits me m r in
    after _ _ (sym step) heard.node heard.answer)
