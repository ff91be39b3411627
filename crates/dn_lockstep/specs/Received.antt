-- What a packet is read as, by a node that has made `made` commands, and what a datagram is heard as: the
-- tests that it meets, in their order. The first that it fails tells the number of its drop; what passes
-- them all is a flight, and the machine says what it does to a node.
use Rattle.std.specs.Prelude.{ℕ, Bool, not, ◌==◌, bit_and, if◌then◌else◌, Option, Some, None, Result, Ok, Err, true, false, ◌&&◌, ◌||◌, [], nat_lt}
use Rattle.std.specs.List.{list_any}
use Rattle.dn_packet.specs.declared.packet.Packet.{Packet}
use Rattle.dn_packet.specs.Flags as flag
use Rattle.dn_packet.specs.declared.packet.PacketFault.{PacketFault}
use Rattle.dn_packet.specs.declared.packet.PacketFault.TheVariants.{Short, Many, Length, Sum}
use Rattle.dn_tic.specs.Tics.{exact_tic}
use Rattle.dn_setup.specs.Settings.{Settings}
use Rattle.dn_setup.specs.Setup.{IsSetupReadAs}
use Rattle.dn_setup.specs.declared.setup.SetupFault.{SetupFault}
use Rattle.dn_setup.specs.declared.setup.SetupFault.TheVariants.{NotSetup, Version, Range}
use Rattle.dn_machine.specs.Drops as drops
use Rattle.dn_machine.specs.Flight.{Kind, Play, Exit, Flight, SetUp, is_exit}
use Rattle.dn_machine.specs.declared.answers.Phase.{Phase}
use Rattle.dn_machine.specs.declared.answers.Phase.TheVariants.{Listening, Gathering, Playing, Ended}
use Rattle.dn_machine.specs.declared.answers.Heard.{Heard}
use Rattle.dn_machine.specs.Limits.{Limits}
use Rattle.dn_machine.specs.Node as machine
use Rattle.dn_machine.specs.Node.{made}
use Rattle.dn_machine.specs.Hearing.{on_packet_in}
use Rattle.dn_lockstep.specs.Tables.{is_stop}
use Rattle.dn_lockstep.specs.Phases.{is_listening, hears_none}

-- a flag is set
abbrev pub has_flag : Packet → ℕ → Bool
has_flag packet which = not (bit_and packet.flags which == 0)

-- the kind of a packet of commands
abbrev pub kind_in : Packet → Kind
kind_in packet = if has_flag packet flag.exit then Exit else Play

-- the tic that a packet asks for
abbrev pub request_in : ℕ → Packet → Option ℕ
request_in made packet = if has_flag packet flag.retransmit then exact_tic made packet.ask else None

-- the tic at which commands start, if they do at any; or the number of their drop, since none may end a demo
abbrev pub start_at : Packet → Option ℕ → Result ℕ ℕ
start_at packet None = Err drops.tic
start_at packet (Some start) = if list_any is_stop packet.cmds.items then Err drops.command else Ok start

-- the tic of a packet's first command, or the number of its drop
abbrev pub start_in : ℕ → Packet → Result ℕ ℕ
start_in made packet = start_at packet (exact_tic made packet.start)

-- the flight that a packet of commands is, which start at this tic
abbrev pub flight_in : ℕ → ℕ → ℕ → Packet → ℕ → Flight
flight_in from me made packet start =
    record {
      from = from;
      to = me;
      kind = kind_in packet;
      start = start;
      request = request_in made packet;
      commands = packet.cmds.items;
    }

-- what passed the tests is heard as the machine hears it, and what failed one is dropped
abbrev pub heard_as : Limits → ℕ → machine.Node → Phase → Result Flight ℕ
    → machine.Node × Heard
heard_as limits me m phase (Err number) = (m, Heard.Dropped number)
heard_as limits me m phase (Ok flight) = on_packet_in limits me m flight phase flight.kind

-- a packet of commands that start at this tic, if they do at any
abbrev pub flight_at : ℕ → ℕ → ℕ → Packet → Result ℕ ℕ → Result Flight ℕ
flight_at from me made packet (Err number) = Err number
flight_at from me made packet (Ok start) = Ok (flight_in from me made packet start)

-- whether its numbers are looked at: by a node that plays, and by one that has ended, in the packet of one
-- who plays on
abbrev pub is_counted : Phase → Kind → Bool
is_counted Playing kind = true
is_counted (Ended cause) kind = not (is_exit kind)
is_counted Listening kind = false
is_counted Gathering kind = false

-- a player's packet of commands; where its numbers are not looked at, any start will do
abbrev pub player_flight : ℕ → ℕ → ℕ → Packet → Phase → Result Flight ℕ
player_flight from me made packet phase =
    flight_at from me made packet (if is_counted phase (kind_in packet) then start_in made packet else Ok 0)

-- a packet that is no set-up: a listener hears none, its player byte must be its sender's, and KILL is
-- dropped
abbrev pub other_flight : ℕ → ℕ → ℕ → Packet → Phase → Result Flight ℕ
other_flight from me made packet phase =
    if is_listening phase
    then Err drops.not_playing
    else (
    if not (packet.player == from)
    then Err drops.stranger
    else (
    if has_flag packet flag.kill
    then Err drops.kill
    else player_flight from me made packet phase))

-- the number of the drop of a set-up packet whose settings a listener cannot take
abbrev pub setup_drop : SetupFault → ℕ
setup_drop NotSetup = drops.out_of_place
setup_drop Version = drops.version
setup_drop Range = drops.range

-- the settings that a set-up packet tells
abbrev pub told_flight : ℕ → ℕ → Result Settings SetupFault → Result Flight ℕ
told_flight from me (Err fault) = Err (setup_drop fault)
told_flight from me (Ok settings) =
    Ok (record { from = from; to = me; kind = SetUp settings; start = 0; request = None; commands = [] })

-- a set-up packet: only a listener looks into it, and only if it comes from player 0
abbrev pub setup_flight : ℕ → ℕ → Result Settings SetupFault → Phase → Result Flight ℕ
setup_flight from me told phase = if is_listening phase && from == 0 then told_flight from me told
    else Err drops.out_of_place

-- the number of the drop of bytes that are no packet
abbrev pub packet_drop : PacketFault → ℕ
packet_drop Short = drops.short
packet_drop Many = drops.many
packet_drop Length = drops.length
packet_drop Sum = drops.sum

-- a peer's datagram
abbrev pub read_flight : ℕ → ℕ → ℕ → Result Settings SetupFault → Result Packet PacketFault → Phase
    → Result Flight ℕ
read_flight from me made told (Err fault) phase = Err (packet_drop fault)
read_flight from me made told (Ok packet) phase =
    if has_flag packet flag.set_up then setup_flight from me told phase else other_flight from me made packet
    phase

-- a datagram of this number
abbrev pub flight_from : ℕ → ℕ → ℕ → ℕ → Bool → Result Settings SetupFault → Result Packet PacketFault → Phase
    → Result Flight ℕ
flight_from players from me made played told read phase =
    if hears_none phase played
    then Err drops.not_playing
    else (
    if not (nat_lt from players) || from == me
    then Err drops.stranger
    else read_flight from me made told read phase)

-- a datagram of this number that is read so, and tells these settings if it is a set-up packet
abbrev pub received : Limits → ℕ → machine.Node → ℕ → Result Settings SetupFault
    → Result Packet PacketFault → machine.Node × Heard
received limits me m from told read = heard_as limits me m m.phase
    (flight_from limits.players from me (made me m) m.played told read m.phase)

-- the same of a peer's datagram
abbrev pub on_read : Limits → ℕ → machine.Node → ℕ → Result Settings SetupFault
    → Result Packet PacketFault → machine.Node × Heard
on_read limits me m from told read = heard_as limits me m m.phase
    (read_flight from me (made me m) told read m.phase)

-- of its set-up packet
abbrev pub on_set_up : Limits → ℕ → machine.Node → ℕ → Result Settings SetupFault → Phase
    → machine.Node × Heard
on_set_up limits me m from told phase = heard_as limits me m phase (setup_flight from me told phase)

-- and of its packet of commands
abbrev pub on_player : Limits → ℕ → machine.Node → ℕ → Packet → Phase → machine.Node × Heard
on_player limits me m from packet phase =
    heard_as limits me m phase (player_flight from me (made me m) packet phase)

-- what a packet tells as a set-up packet
abbrev pub IsTold : Result Packet PacketFault → Result Settings SetupFault → Type 0
IsTold (Ok packet) told = IsSetupReadAs packet told
IsTold (Err fault) told = Unit {0}
