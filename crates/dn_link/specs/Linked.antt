-- What a link keeps, what its calls do, and what is known of the line to a peer.
use Rattle.std.specs.{Prelude.{◌≡◌, ℕ, ◌+◌, ◌-◌, ◌%◌, ◌^◌, ◌==◌, ◌≤◌, ◌&&◌, ◌||◌, if◌then◌else◌, nat_lt, min, max, length, Bool, not, List, [], ◌∷◌, slice_index, ◌++◌, ◌≢◌, map, All, Option, is_some, pos, IfSome, None, Some, false, true, Result, Ok, Err}, Prelude.{true}}
use Rattle.dn_seal.specs.declared.seal.Seal.{Seal}
use Rattle.dn_machine.specs.Node.{put}
use Rattle.dn_lockstep.specs.{Contents.{Contents, end_in}, Told.made, Told.{command_told}}
use Rattle.dn_survivor.specs.{OfOthers.has, declared.{others.Others.Others, answers.Reported.{Reported, TheVariants.Kept}, report.{Report.Report, ReportFault.ReportFault}}, Surviving.Surviving, Telling.{MayRelay, report_for}, Calls.HearsReport, ReportBytes.{IsReadAs, IsReport, report_bytes}}
use Rattle.dn_open.specs.Sealed.{sealing_of}
use Rattle.dn_link.specs.{declared.{received.Received.{TheVariants.{Unopened, Stranger, GivenUp, Excluded, Heard}, Received}, bundle.{Bundle.Bundle, BundleFault.BundleFault, Carried.Carried, Part.Part}, line.Line.Line, tally.Figures.Figures}, Kept.{Unacknowledged, acknowledged, going, kept_after, taken_by}, Reading.IsBundledAs, Counting.{counts_of, held_of, reached}, Hearing.{SendsCarried, ByTest, HearsAll}, Line.{missing, own_echo}, Pacing.PaceState, Packets.{heard_in, takes_relay}, Packing.ArePacked, Relays.{AreHandedOn, AreLacked, Handed, handed_part}, Ends.{excludes, left_by, told_cause}, Text.{IsBundle, sealed_bytes}, Packing.{parts_room}, Pacing.{is_brief}, Relays.{IsNewest, newest_from}}
use Rattle.dn_link.specs.declared.bundle.Relay as relay

-- what it keeps of a peer: the packets that the peer has not acknowledged, the most that the peer's datagrams
-- told that it has of each of four players, why it has left, if it has told its end, and the number of the next
-- datagram to it
pub record PeerState : Type 0 where
  pub kept : Unacknowledged
  pub reported : List ℕ
  pub left : Option ℕ
  pub number : ℕ

-- its lockstep, whom it has given up and what those who play on reported, and its peers
pub record Linked : Type 0 where
  pub node : Contents
  pub others : Others
  pub peers : ℕ → PeerState

-- what it has of a survivor
abbrev pub surviving_of : Linked → Surviving
surviving_of link = record { lockstep = link.node; others = link.others }

-- it has given up this player
abbrev pub has_given_up : Linked → ℕ → Bool
has_given_up link player = has link.others.gone player

-- and nobody
abbrev pub IsWhole : Linked → Type 0
IsWhole link = (player : ℕ) → has_given_up link player ≡ false

-- another player of its game
abbrev pub is_peer : Contents → ℕ → Bool
is_peer n player = nat_lt player n.players && not (player == n.me)

-- another player of its game who is not given up
abbrev pub remains : Linked → ℕ → Bool
remains link player = is_peer link.node player && not (has_given_up link player)

-- the report that goes to a peer beside these parts: the one that is for it, if there is room for its bytes
abbrev pub fitting : ℕ → Option Report → Option Report
fitting room None = None
fitting room (Some report) = if nat_lt room (length (report_bytes report)) then None else Some report

abbrev pub report_beside : Surviving → ℕ → List Part → Option Report
report_beside now to parts = fitting (1139 - parts_room parts) (report_for now to)

-- its bytes, or none
abbrev pub written : Option Report → List ℕ
written None = []
written (Some report) = report_bytes report

-- behind its own parts a datagram has commands of players from this number on, none of which the peer has reported,
-- of no player who is given up, and only if the peer may be handed any: of third players, and in a brief one the
-- node's own
pub record HasBehind (link : Linked) (to low : ℕ) (brief : Bool) (own all : List Part) : Type 0 where
  pub handed : List Handed
  pub parts : all ≡ own ++ map handed_part handed
  pub on : AreHandedOn link.node to handed
  pub lacked : AreLacked (link.peers to).reported low handed
  pub stay : All (λ h. has_given_up link h.player ≡ false) handed
  pub makers : All (λ h. (h.player == link.node.me) ≡ brief) handed
  pub may : handed ≢ [] → MayRelay (surviving_of link) to

-- what is handed on are the node's newest commands, if the peer may be handed any and lacks some
abbrev pub HandsNewest : Linked → ℕ → List Handed → Type 0
HandsNewest link to [] =
    MayRelay (surviving_of link) to → has_given_up link link.node.me ≡ false
    → command_told link.node link.node.me (newest_from (link.peers to).reported link.node) ≡ None
HandsNewest link to (one ∷ []) = IsNewest link.node (newest_from (link.peers to).reported link.node) one
HandsNewest link to (one ∷ other ∷ handed) = ⊥

-- A datagram to a peer: what is kept for the peer, with the packet of the moment if the peer takes it, and
-- behind these commands of at most two third players. A brief one has the newest commands of the node alone,
-- handed on as if they were a third player's, so that the peer takes none past a gap. Each has how far the
-- node is; what it reports of those who are given up; by how many commands it led at its last tick; how many
-- datagrams of the peer are missing; and why the node has ended, if it has
pub record Gives (seal : Seal) (pace : PaceState) (to : ℕ) (old new : Linked) (bytes : List ℕ) : Type 0 where
  pub given : Option Carried
  pub step : SendsCarried to old.node new.node given
  pub idle : given ≡ None → new.node ≡ old.node
  pub bundle : Bundle
  pub is : bytes ≡ sealed_bytes seal bundle
  pub fits : IsBundle bundle
  pub from : bundle.from ≡ old.node.me
  pub goes : bundle.to ≡ to
  pub number : bundle.number ≡ (old.peers to).number
  pub lead : bundle.lead ≡ (pace.lines to).own_lead
  pub holes : bundle.holes ≡ missing (pace.lines to)
  pub cause : bundle.cause ≡ told_cause old.node.phase
  pub counts : bundle.counts ≡ counts_of new.node (own_echo (pace.lines to))
  pub report : bundle.report.items ≡ written (report_beside (surviving_of new) to bundle.parts.items)
  pub proper : IfSome (report_beside (surviving_of new) to bundle.parts.items) IsReport
  pub own : List Part
  pub packed : is_brief pace to ≡ false
      → ArePacked old.node.me (going (old.peers to).kept (taken_by (old.peers to).left given)) own
  pub none : is_brief pace to ≡ true → own ≡ []
  pub behind : HasBehind new to 0 (is_brief pace to) own bundle.parts.items
  pub newest : is_brief pace to ≡ true → HandsNewest new to behind.handed
  pub few : length behind.handed ≤ 2
  pub others : new.others ≡ old.others
  pub peers : new.peers ≡ put old.peers to (record (old.peers to) {
    kept = kept_after (old.peers to).kept (taken_by (old.peers to).left given);
    number = ((old.peers to).number + 1) % 2 ^ 32;
  })

-- the larger of two counts, for each of four players
abbrev pub larger : List ℕ → List ℕ → List ℕ
larger one other =
    max (slice_index one 0) (slice_index other 0) ∷ max (slice_index one 1) (slice_index other 1)
    ∷ max (slice_index one 2) (slice_index other 2) ∷ max (slice_index one 3) (slice_index other 3) ∷ []

-- how many commands of the node a peer has for certain. What it tells may count the node's end, once there is
-- one; and more than the node made is believed of nobody
abbrev pub certain : Contents → ℕ → ℕ
certain node count = min (if is_some (end_in node node.me) then count - 1 else count) (made node)

-- how many commands of the node a peer needs no more: all, once it has left
abbrev pub done_with : Option ℕ → Contents → ℕ → ℕ
done_with (Some cause) node count = made node
done_with None node count = certain node count

-- the peer tells what it has, and whether it has left
abbrev pub after_report : Contents → Bundle → PeerState → PeerState
after_report node bundle peer =
    record peer {
      kept = acknowledged peer.kept (done_with (left_by bundle peer.left) node (slice_index bundle.counts.got node.me));
      reported = larger peer.reported bundle.counts.got;
      left = left_by bundle peer.left;
    }

abbrev pub met : Bundle → Linked → Linked
met bundle link =
    record link { peers = put link.peers bundle.from (after_report link.node bundle (link.peers bundle.from)) }

-- it takes these commands of a third player
abbrev pub takes : Linked → relay.Relay → Bool
takes link relay = takes_relay (has_given_up link) (held_of link.node) relay

-- each player has acknowledged what it must have had when it made the commands that are here, whoever gave them
abbrev pub with_reached : Contents → (ℕ → PeerState) → ℕ → PeerState
with_reached node peers player =
    record (peers player) { kept = acknowledged (peers player).kept (reached node player) }

-- what a datagram tells of the peer is taken in, and its packets. What is heard then acknowledges, for whoever
-- made it
pub record TakesPackets (bundle : Bundle) (old new : Linked) : Type 0 where
  pub heard : HearsAll (heard_in (takes old) bundle) old.node new.node
  pub others : new.others ≡ old.others
  pub peers : new.peers ≡ with_reached new.node (met bundle old).peers

-- what bytes are read as: where they are no report, nothing comes. Where a report of a player comes while nobody is
-- given up, or is kept and others are awaited, the lockstep stays as it is
abbrev pub TakesRead : ℕ → Result Report ReportFault → Linked → Linked → Type 0
TakesRead from (Err fault) old new = new ≡ old
TakesRead from (Ok report) old new =
    (reported : Reported) × HearsReport from report (surviving_of old) (surviving_of new) reported
    × (reported ≡ Kept → new.node ≡ old.node) × (IsWhole old → new.node ≡ old.node) × (new.peers ≡ old.peers)

-- a datagram of a peer is taken in: its packets, and then its report
abbrev pub TakesIn : Bundle → Linked → Linked → Type 0
TakesIn bundle old new =
    (mid : Linked) × TakesPackets bundle old mid
    × (read : Result Report ReportFault) × IsReadAs bundle.report.items read × TakesRead bundle.from read mid new

-- what a peer who is not given up sent is taken in, unless it tells that it has given up this player
abbrev pub HearsPeer : Bundle → Linked → Linked → Received → Type 0
HearsPeer bundle old new answer =
    ByTest (excludes bundle) ((answer ≡ Excluded bundle.from) × (new ≡ old))
    ((answer ≡ Heard bundle.from) × TakesIn bundle old new)

-- any bytes are opened as a datagram or for a fault, and what a peer's tells is taken in, who is not given up;
-- all else changes nothing
abbrev pub ReceivesAs : Result Bundle BundleFault → Linked → Linked → Received → Type 0
ReceivesAs (Err fault) old new answer = (answer ≡ Unopened fault) × (new ≡ old)
ReceivesAs (Ok bundle) old new answer =
    ByTest (is_peer old.node bundle.from)
    (ByTest (has_given_up old bundle.from) ((answer ≡ GivenUp bundle.from) × (new ≡ old))
    (HearsPeer bundle old new answer)) ((answer ≡ Stranger bundle.from) × (new ≡ old))

abbrev pub Receives : Seal → List ℕ → Linked → Linked → Received → Type 0
Receives seal bytes old new answer =
    (opened : Result Bundle BundleFault) × IsBundledAs (sealing_of seal old.node.me) bytes opened
    × ReceivesAs opened old new answer

-- what one is told who is given up: that it is, and how far the node is
abbrev pub exclusion : Linked → ℕ → Bundle
exclusion link to =
    record {
      from = link.node.me;
      to = to;
      number = 0;
      lead = pos 0;
      holes = 0;
      cause = 4;
      counts = counts_of link.node 0;
      report = record { items = [] };
      parts = record { items = [] };
    }

-- sealed; nobody else is told so
abbrev pub exclusion_for : Seal → Linked → ℕ → Option (List ℕ)
exclusion_for seal link to =
    if is_peer link.node to && has_given_up link to then Some (sealed_bytes seal (exclusion link to)) else None

-- what goes to where a peer may be, before it has shown that it receives there: how far the node is, and no packets. It
-- says that it is a probe, so that nobody passes it on
abbrev pub probe : PaceState → Linked → ℕ → Bundle
probe pace link to =
    record (exclusion link to) {
      number = (link.peers to).number;
      lead = (pace.lines to).own_lead;
      holes = missing (pace.lines to);
      cause = 5;
      counts = counts_of link.node (own_echo (pace.lines to));
    }

-- sealed; of one who remains
abbrev pub probe_for : Seal → PaceState → Linked → ℕ → Option (List ℕ)
probe_for seal pace link to = if remains link to then Some (sealed_bytes seal (probe pace link to)) else None

-- after it the next datagram has the next number
abbrev pub probed : Linked → ℕ → Linked
probed link to =
    record link { peers = put link.peers to (record (link.peers to) { number = ((link.peers to).number + 1) % 2 ^ 32 }) }

-- the tic after a player's last command, where a node knows it
abbrev pub end_known : Contents → ℕ → Option ℕ
end_known node player = if nat_lt player node.players then end_in node player else None

-- a player needs nothing more of the node: it is no peer, is given up, has left, as an EXIT packet or its
-- datagrams told, or has told that it has one command more than the node made: all of them, and the end
abbrev pub needs_nothing : Linked → ℕ → Bool
needs_nothing link player =
    not (remains link player)
    || (is_some (end_known link.node player)
    || (is_some (link.peers player).left
    || nat_lt (made link.node) (slice_index (link.peers player).reported link.node.me)))

-- nobody needs anything more of the node
abbrev pub may_leave : Linked → Bool
may_leave link =
    needs_nothing link 0 && (needs_nothing link 1 && (needs_nothing link 2 && needs_nothing link 3))

-- What is known of the line to a peer, and of the commands that are on their way.
abbrev pub figures_of : Line → Figures
figures_of line =
    record {
      came = line.tally.came;
      lost = line.tally.lost;
      repeated = line.tally.repeated;
      too_old = line.tally.too_old;
      missing_there = line.reported_holes;
      lead = line.own_lead;
      lead_there = line.lead;
      echo = line.echo;
    }

-- how many of the node's commands a player has acknowledged; all, of one that needs nothing
abbrev pub acknowledged_by : Linked → ℕ → ℕ
acknowledged_by link player =
    if needs_nothing link player
    then made link.node
    else min (link.peers player).kept.done (made link.node)

-- how many of the node's commands not every remaining player has acknowledged
abbrev pub unacknowledged : Linked → ℕ
unacknowledged link =
    made link.node
    - min (min (acknowledged_by link 0) (acknowledged_by link 1)) (min (acknowledged_by link 2) (acknowledged_by link 3))
