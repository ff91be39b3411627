-- What a node sends and gives: by the machine, and by a lockstep that was asked for a packet.
use Rattle.std.proofs.Common.{◌≡◌, ◌≢◌, ◌<◌, ◌≤◌, ℕ, Option, None, arith, ◌+◌, ◌-◌, min, Some, true, false, length, take, drop, refl, ap, Bool, ◌∙◌, inl, inr, List, ◌%◌, nat_lt, ◌⊎◌, if◌then◌else◌, IfSome, option_map}
use Rattle.std.proofs.lemmas.{Bool.{le-ltb, cond-false}, List.{length-drop, length-take}, Option.same_Some}
use Rattle.std.proofs.Math.Seq.{take-append_seam}
use Rattle.std.specs.List.{list_any}
use Rattle.dn_machine.specs.{Limits.Limits, Flight.{Flight, Kind, packet_of_kind, Play, packet_of, Exit, request_byte}}
use Rattle.dn_machine.specs.declared.answers.{Phase.{Phase, TheVariants.{Playing, Ended, Gathering}}, Cause.Cause}
use Rattle.dn_machine.specs.Sending.{on_send, on_send_in, commands_flight, first_sent, last_sent, left_kind, set_up_flight, after_sent, request_to}
use Rattle.dn_lockstep.specs.{Contents.Contents, Represents.Represents, Sent.{sent_to, aim_of, after_giving, bytes_of, IsFair}}
use Rattle.dn_lockstep.specs.{declared.lockstep.aiming.Aim.Aim, Giving.{Gives, Reaches, packet_of_aim}, Tables.is_stop}
use Rattle.dn_lockstep.proofs.{Shown.below, After.along}
use Rattle.dn_setup.specs.{Settings.{Settings, IsSettings}, Setup.setup_packet}
use Rattle.dn_packet.specs.{declared.packet.Packet.Packet, Text.{text, IsPacket}, Written.IsGiven}
use Rattle.dn_ring.proofs.Slots.{since-ring_of}
use Rattle.dn_machine.specs.Node as machine
use Rattle.dn_packet.specs.Flags as flag

-- What the machine's node sends, by the receiver's number and the phase, and its numbers.

module _ (limits : Limits) (me : ℕ) (m : machine.Node) (to : ℕ) where
  pub to_nobody : limits.players ≤ to → ◌≡◌ {A = machine.Node × Option Flight} (sent_to to limits me m) (m, None)
  to_nobody past = cond-false (nat_lt to limits.players) _ _ (le-ltb to limits.players past)

  pub to_itself : me ≡ to → ◌≡◌ {A = machine.Node × Option Flight} (sent_to to limits me m) (m, None)
  unfolding on_send
  to_itself same = grind arith

  pub to_peer : to < limits.players → me ≢ to → ◌≡◌ {A = machine.Node × Option Flight} (sent_to to limits me m)
      (on_send_in limits me m to m.phase)
  unfolding on_send
  to_peer below apart = grind arith

-- the same of a node that represents it
pub sends_in : (limits : Limits) (me : ℕ) (n : Contents) (m : machine.Node) (to : ℕ) (phase : Phase)
    → Represents limits me n m → to < n.players → to ≢ n.me → n.phase ≡ phase
    → ◌≡◌ {A = machine.Node × Option Flight} (sent_to to limits me m) (on_send_in limits me m to phase)
sends_in limits me n m to phase r inside apart on = grind (arith, to_peer, below)

-- how many commands a packet has, and where it ends
module _ (limits : Limits) (me : ℕ) (m : machine.Node) (to : ℕ) where
  many_sent : length (take limits.most (drop (first_sent limits me m to) (m.held me)))
      ≡ min limits.most (machine.made me m - first_sent limits me m to)
  many_sent = grind (arith, length-take, length-drop)

  pub last_is : (aim : Aim) (kind : Kind) (request : Option ℕ) → aim.start ≤ machine.made me m
      → aim ≡ aim_of (commands_flight limits me m to kind request)
      → aim.start + aim.count ≡ last_sent limits me m to
  last_is aim kind request low is = grind (arith, many_sent)

-- the numbers of the own commands from where the next packet starts
pub aim_is : (limits : Limits) (me : ℕ) (m : machine.Node) (to : ℕ) (kind : Kind)
    {flags : ℕ} {ask request : Option ℕ} {start made count : ℕ}
    → flags ≡ (packet_of_kind (commands_flight limits me m to kind request) kind).flags → ask ≡ request
    → start ≡ first_sent limits me m to → made ≡ machine.made me m → 12 ≡ limits.most
    → count ≡ min 12 (made - start)
    → ◌≡◌ {A = Aim} (record { flags = flags; ask = ask; start = start; count = count })
    (aim_of (commands_flight limits me m to kind request))
aim_is limits me m to kind flagged asks starts made most counted = grind (arith, many_sent)

-- one who has left tells its end where the packet reaches it
pub left_flags : (limits : Limits) (me : ℕ) (m : machine.Node) (to : ℕ) {start made count : ℕ}
    → start ≡ first_sent limits me m to → made ≡ machine.made me m → start ≤ made → 12 ≡ limits.most
    → count ≡ min 12 (made - start)
    → (if nat_lt (start + count) made then 0 else flag.exit)
    ≡ (packet_of_kind (commands_flight limits me m to (left_kind limits me m to) None)
    (left_kind limits me m to)).flags
left_flags limits me m to {start} {made} {count} starts makes low most counted = grind arith

pub exit_given : (limits : Limits) (me : ℕ) (m : machine.Node) (to : ℕ) (cause : Cause)
    (aim : Aim) → m.played ≡ true → aim ≡ aim_of (commands_flight limits me m to (left_kind limits me m to) None)
    → ◌≡◌ {A = Option Aim} (Some aim) (option_map aim_of (on_send_in limits me m to (Ended cause)).1)
exit_given limits me m to cause aim has is = rw has (ap (λ (a : Aim). Some a) is)

pub none_given : (limits : Limits) (me : ℕ) (m : machine.Node) (to : ℕ) (cause : Cause) → m.played ≡ false
    → ◌≡◌ {A = Option Aim} None (option_map aim_of (on_send_in limits me m to (Ended cause)).1)
none_given limits me m to cause never = rw never refl

-- the numbers of a packet of one who plays or has ended are those of own commands
pub own_aim : (limits : Limits) (me : ℕ) (m : machine.Node) (to : ℕ) (aim : Aim) (phase : Phase)
    → (phase ≡ Playing) ⊎ ((cause : Cause) × (phase ≡ Ended cause))
    → ◌≡◌ {A = Option Aim} (Some aim) (option_map aim_of (on_send_in limits me m to phase).1)
    → (kind : Kind) × (request : Option ℕ) × (aim ≡ aim_of (commands_flight limits me m to kind request))
own_aim limits me m to aim phase (inl plays) is = (Play, request_to m to, same_Some _ _ (grind arith))
own_aim limits me m to aim phase (inr ended) is = grind (arith, option_map, same_Some)

pub aim_of_set_up : (me to : ℕ) (settings : Option Settings) → settings ≢ None
    → ◌≡◌ {A = Option Aim} (Some (record { flags = 2; ask = None; start = 0; count = 0 }))
    (option_map aim_of (set_up_flight me to settings))
aim_of_set_up me to settings n = grind arith

-- the aim of what is sent, where what is sent is known
pub aimed : (limits : Limits) (me : ℕ) (m : machine.Node) (to : ℕ)
    (next : machine.Node × Option Flight) (aim : Option Aim)
    → sent_to to limits me m ≡ next → aim ≡ option_map aim_of next.1
    → aim ≡ option_map aim_of (sent_to to limits me m).1
aimed limits me m to next aim e is = grind (arith, is, e)

-- and where it is sent to a peer, by the phase
pub aimed_in : {limits : Limits} {me : ℕ} {n : Contents} {m : machine.Node}
    (r : Represents limits me n m) {to : ℕ} {phase : Phase} {aim : Option Aim}
    → to < n.players → to ≢ n.me → n.phase ≡ phase → aim ≡ option_map aim_of (on_send_in limits me m to phase).1
    → aim ≡ option_map aim_of (sent_to to limits me m).1
aimed_in {limits = limits} {me = me} {n = n} {m = m} r {to} {phase} {aim} below other at is =
    aimed limits me m to _ aim (sends_in limits me n m to phase r below other at) is

-- A node that was asked for a packet, and the packets of its own commands.

-- the machine's node once it was asked for a packet: as it was where it gave none, and else as noted
module _ (limits : Limits) (me : ℕ) (m : machine.Node) (to : ℕ) where
  pub none_sent : (sent_to to limits me m).1 ≡ None → (sent_to to limits me m).0 ≡ m
  none_sent = grind (arith, to_nobody, to_itself, to_peer)

-- nothing comes of nothing
pub no_flight : {A : Type 0} (view : Flight → A) (sent : Option Flight) → None ≡ option_map view sent → sent ≡ None
no_flight view sent e = grind arith

pub some_flight : {A : Type 0} (view : Flight → A) (a : A) (sent : Option Flight) → Some a ≡ option_map view sent
    → (flight : Flight) × (sent ≡ Some flight) × (a ≡ view flight)
some_flight view a None e = absurd (cc)
some_flight view a (Some flight) e = (flight, refl, same_Some _ _ e)

-- a node that gave a packet, and noted it
pub given_shows : (limits : Limits) (me : ℕ) (n new : Contents) (m : machine.Node) (to : ℕ) (packet : Packet)
    → Represents limits me n m → Gives n to → Some packet ≡ option_map packet_of (sent_to to limits me m).1
    → Represents limits me new (after_giving limits me m to m.phase)
    → Represents limits me new (sent_to to limits me m).0
given_shows limits me n new m to packet r given is shows =
    let sends = sends_in limits me n m to _ r given.below given.other r.stands.phase in grind (arith, along)

-- the bytes of a flight are the text of its packet
pub spelled : (sent : Option Flight) → option_map text (option_map packet_of sent) ≡ option_map bytes_of sent
spelled sent = grind arith

-- what is written tells what was sent
module _ (given : Option (List ℕ)) (old new : List ℕ) (count : ℕ) (w : IsGiven given old new count) where
  pub some_given : (sent : Option Flight) (aim : Aim) → given ≡ option_map bytes_of sent
      → Some aim ≡ option_map aim_of sent → Some (take count new) ≡ option_map bytes_of sent
  some_given sent aim e aimed = grind (arith, take-append_seam)

-- the own commands from a start on, as many as a packet carries
pub record IsOwn (limits : Limits) (m : machine.Node) (me : ℕ) (flight : Flight) : Type 0 where
  pub from : flight.from ≡ me
  pub kind : (flight.kind ≡ Play) ⊎ (flight.kind ≡ Exit)
  pub commands : flight.commands ≡ take limits.most (drop flight.start (m.held me))

-- only a gathering node sends anything but its own commands
module _ (limits : Limits) (me : ℕ) (m : machine.Node) (to : ℕ) where
  sends_own : (phase : Phase) → phase ≢ Gathering → IfSome (on_send_in limits me m to phase).1 (IsOwn limits m me)
  sends_own phase n = grind arith

-- so does a node that represents it
own_sent : (limits : Limits) (me : ℕ) (n : Contents) (m : machine.Node) (to : ℕ)
    → Represents limits me n m → Gives n to → n.phase ≢ Gathering
    → IfSome (sent_to to limits me m).1 (IsOwn limits m me)
own_sent limits me n m to r given on =
    grind (arith, IfSome, sends_in, sends_own limits me m to m.phase (λ e. on (r.stands.phase ∙ e)))

-- a packet of commands is its numbers and its commands
whole_packet : (flight : Flight) (kind : Kind) → (kind ≡ Play) ⊎ (kind ≡ Exit)
    → record {
      flags = (packet_of_kind flight kind).flags;
      ask = request_byte flight.request;
      start = flight.start % 256;
      player = flight.from;
      cmds = record { items = flight.commands };
    } ≡ packet_of_kind flight kind
whole_packet flight kind h = grind arith

-- what is sent has this packet, and is fair
pub record IsGivenAs (packet : Packet) (sent : Option Flight) : Type 0 where
  pub same : Some packet ≡ option_map packet_of sent
  pub fair : IfSome sent IsFair

module _ {limits : Limits} {me : ℕ} {n : Contents} {m : machine.Node}
    (r : Represents limits me n m) (inside : n.me < n.players) where
  module _ {packet : Packet} (aim : Aim) (reach : Reaches n aim) (is : packet ≡ packet_of_aim n aim)
      (valid : IsPacket packet) (fine : list_any is_stop packet.cmds.items ≡ false) where
    own_as : (sent : Option Flight) → IfSome sent (IsOwn limits m me)
        → ◌≡◌ {A = Option Aim} (Some aim) (option_map aim_of sent) → IsGivenAs packet sent
    own_as sent own e = grind (arith, same_Some, whole_packet, below, since-ring_of)

    -- a node that gives its own commands
    pub own_given : {to : ℕ} → Gives n to → n.phase ≢ Gathering
        → ◌≡◌ {A = Option Aim} (Some aim) (option_map aim_of (sent_to to limits me m).1)
        → IsGivenAs packet (sent_to to limits me m).1
    own_given {to} given on = own_as _ (own_sent limits me n m to r given on)

  -- and one that gives its settings, as player 0 does
  pub set_up_given : {to : ℕ} {settings : Settings} {packet : Packet} → Gives n to → n.phase ≡ Gathering
      → n.me ≡ 0 → n.settings ≡ Some settings
      → packet ≡ setup_packet settings → IsPacket packet → IsSettings settings
      → IsGivenAs packet (sent_to to limits me m).1
  set_up_given {to} {settings} {packet} given on key known is valid range =
      let sends = sends_in limits me n m to _ r given.below given.other on in grind arith
