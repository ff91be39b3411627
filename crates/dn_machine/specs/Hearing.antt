-- What a packet does to the node that it comes to (d_net.c, GetPackets). That an overrun is dropped, that a
-- request is bounded, and that EXIT tells its sender's end are rules of this project. For ten packets after a
-- request further ones are ignored, as by RESENDCOUNT of d_net.c.
use Rattle.std.specs.Prelude.{ℕ, ◌+◌, ◌-◌, Bool, true, false, not, ◌&&◌, ◌||◌, ◌++◌, nat_lt, nat_le, ◌==◌, if◌then◌else◌, drop, Option, Some, None}
use Rattle.dn_setup.specs.Settings.{Settings}
use Rattle.dn_setup.specs.Gathered.{all_noted}
use Rattle.dn_machine.specs.declared.answers.Phase.{Phase}
use Rattle.dn_machine.specs.declared.answers.Phase.TheVariants.{Listening, Gathering, Playing, Ended}
use Rattle.dn_machine.specs.declared.answers.Heard.{Heard}
use Rattle.dn_machine.specs.declared.peer.Peer.{Peer}
use Rattle.dn_machine.specs.Drops as drops
use Rattle.dn_machine.specs.Limits.{Limits}
use Rattle.dn_machine.specs.Flight.{Kind, SetUp, Play, Exit, Flight, is_exit, end_of}
use Rattle.dn_machine.specs.Node.{Node, put, with_peer, ends_of, got, made, ran}

-- the node begins to play
abbrev pub started : Node → Settings → Node
started node settings = record node { phase = Playing; played = true; settings = Some settings }

-- a gathering node has heard a player, and starts if that was the last
abbrev pub on_gathering : Limits → Node → ℕ → Node × Heard
on_gathering limits node player =
    let noted = put node.noted player true in
    if all_noted limits.players noted
    then (record node { phase = Playing; played = true; noted = noted }, Heard.Started)
    else (record node { noted = noted }, Heard.Noted)

-- a request that can be met: for one of the commands that are kept, or for the one that is built next
abbrev pub is_within : ℕ → ℕ → Option ℕ → Bool
is_within places made None = false
is_within places made (Some tic) = nat_le tic made && nat_le (made - places) tic

abbrev pub requested_tic : Option ℕ → ℕ
requested_tic None = 0
requested_tic (Some tic) = tic

-- a request that can be met is noted, unless one was within the last ten packets of that peer
abbrev pub after_request : ℕ → ℕ → Peer → Option ℕ → Peer
after_request places made peer request =
    if peer.pause == 0 && is_within places made request
    then record peer { resend = requested_tic request; pause = 10 }
    else record peer { pause = peer.pause - 1 }

-- a packet reaches past its sender's known end, or is an EXIT packet that tells another
abbrev pub is_past_end : Bool → Option ℕ → ℕ → Bool
is_past_end exit None end = false
is_past_end exit (Some known) end = nat_lt known end || (exit && not (end == known))

-- a packet ends where it cannot: an EXIT packet before what the node has of its sender, any packet past a
-- known end
abbrev pub is_strange_end : Bool → ℕ → Option ℕ → ℕ → Bool
is_strange_end exit got known end = (exit && nat_lt end got) || is_past_end exit known end

-- an EXIT packet tells where its sender's commands end
abbrev pub after_exit : Peer → Bool → ℕ → Peer
after_exit peer exit end = if exit then record peer { end = Some end } else peer

-- what is kept of the sender of a packet that is not dropped
abbrev pub after_flight : ℕ → ℕ → Peer → Flight → Peer
after_flight places made peer flight =
    after_exit (after_request places made peer flight.request) (is_exit flight.kind) (end_of flight)

-- the answer where nothing is missing up to a packet's end: for an EXIT packet that its sender has left, else
-- this one
abbrev pub left_or : Bool → Heard → Heard
left_or exit heard = if exit then Heard.Left else heard

-- what a playing node does with the commands of a packet: an overrun and a strange end are dropped; old ones
-- are stale; past a gap a resend is wanted; and the others are taken from the first that is missing on
abbrev pub on_commands : Limits → ℕ → Node → Flight → Node × Heard
on_commands limits me node flight =
    let from = flight.from in
    let exit = is_exit flight.kind in
    if nat_lt (ran node + limits.places) (end_of flight)
    then (node, Heard.Dropped drops.overrun)
    else (
    if is_strange_end exit (got node from) (ends_of node from) (end_of flight)
    then (node, Heard.Dropped drops.end)
    else (
    let peer = after_flight limits.places (made me node) (node.peers from) flight in
    if nat_le (end_of flight) (got node from)
    then (with_peer node from peer, left_or exit Heard.Stale)
    else (
    if nat_lt (got node from) flight.start
    then (with_peer node from (record peer { want = true }), Heard.Gap)
    else (
      record (with_peer node from (record peer { want = false })) {
        held = put node.held from (node.held from ++ drop (got node from - flight.start) flight.commands);
      },
      left_or exit (Heard.Taken (end_of flight - got node from)),
    ))))

-- a node that has ended hears requests if it has played, and takes no commands
abbrev pub on_ended : Limits → Bool → ℕ → Node → Flight → Kind → Node × Heard
on_ended limits false me node flight kind = (node, Heard.Dropped drops.not_playing)
on_ended limits true me node flight (SetUp settings) = (node, Heard.Dropped drops.out_of_place)
on_ended limits true me node flight Exit = (node, Heard.Dropped drops.not_playing)
on_ended limits true me node flight Play = (
  with_peer node flight.from (after_request limits.places (made me node) (node.peers flight.from) flight.request),
  Heard.Noted,
)

-- by the phase and the packet's kind
abbrev pub on_packet_in : Limits → ℕ → Node → Flight → Phase → Kind → Node × Heard
on_packet_in limits me node flight (Ended cause) kind = on_ended limits node.played me node flight kind
on_packet_in limits me node flight Listening (SetUp settings) = (started node settings, Heard.Started)
on_packet_in limits me node flight Gathering (SetUp settings) = (node, Heard.Dropped drops.out_of_place)
on_packet_in limits me node flight Playing (SetUp settings) = (node, Heard.Dropped drops.out_of_place)
on_packet_in limits me node flight Listening Play = (node, Heard.Dropped drops.not_playing)
on_packet_in limits me node flight Listening Exit = (node, Heard.Dropped drops.not_playing)
on_packet_in limits me node flight Gathering Play = on_gathering limits node flight.from
on_packet_in limits me node flight Gathering Exit = on_gathering limits node flight.from
on_packet_in limits me node flight Playing Exit = on_commands limits me node flight
on_packet_in limits me node flight Playing Play = on_commands limits me node flight

-- node `me` hears a packet: the node after it, and the answer
unfoldable pub on_packet : Limits → ℕ → Node → Flight → Node × Heard
on_packet limits me node flight = on_packet_in limits me node flight node.phase flight.kind
