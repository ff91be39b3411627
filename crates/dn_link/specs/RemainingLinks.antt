-- The links of one game in which players may be given up.
use Rattle.std.specs.Prelude.{◌≡◌, ◌≢◌, ◌<◌, ◌≤◌, ℕ, List, All, Option, Some, Ok, true, false, slice_get, slice_index}
use Rattle.dn_setup.specs.Settings.{Settings}
use Rattle.dn_survivor.specs.{OneGame.{AreRemaining, Given, Session, after_packet, after_relays, after_report}, declared.report.Report.Report, ReportBytes.IsReadAs}
use Rattle.dn_machine.specs.{Flight.Flight, Limits.Limits, Node.put}
use Rattle.dn_lockstep.specs.{Agreed.header_but_view, Marking.Marking, Phases.is_waiting, Told.HasStarted}
use Rattle.dn_survivor.specs.Surviving.{Surviving}
use Rattle.dn_seal.specs.declared.{opened.Opened.Opened, seal.Seal.Seal}
use Rattle.dn_open.specs.Sealed.{opened_of, sealing_of}
use Rattle.dn_link.specs.{declared.bundle.Bundle.Bundle, Counting.{has_ended, has_of}, Ends.tells_end, Linked.{Gives, Linked, PeerState, report_beside, surviving_of}, Packets.{opened_from, packets_in}, Pacing.PaceState, Relays.flights_of, Reading.IsDatagramOf, Text.{IsBundle, sealed_bytes}}

-- one of these packets, to this player, is opened so
abbrev pub WasGiven : List Flight → ℕ → Opened → Type 0
WasGiven given to packet =
    (which : ℕ) × (flight : Flight) × (slice_get given which ≡ Some flight) × (flight.to ≡ to)
    × (packet ≡ opened_of flight)

-- of each peer it was told of no more than the peer has of any other player, and that it has left only if it has
pub record IsTrulyTold (survivors : ℕ → Surviving) (peers : ℕ → PeerState) : Type 0 where
  pub reported : (peer which : ℕ) → which ≢ peer
      → slice_index (peers peer).reported which ≤ has_of (survivors peer).lockstep which
  pub left : (peer cause : ℕ) → (peers peer).left ≡ Some cause → has_ended (survivors peer).lockstep ≡ true

-- each player's link has the player's survivor of one game, which has started, keeps for each peer nothing but
-- packets that were given to that peer in it, and was told the truth of each peer, whoever has given up whom
pub record AreRemainingLinks (marking : Marking) (limits : Limits) (settings : Settings) (session : Session)
    (links : ℕ → Linked) : Type 0 where
  pub game : AreRemaining marking limits settings session
  pub survivors : (player : ℕ) → player < limits.players → surviving_of (links player) ≡ session.survivors player
  pub started : (player : ℕ) → player < limits.players
      → is_waiting (session.survivors player).lockstep.phase ≡ false
  pub kept : (player peer : ℕ) → player < limits.players
      → All (λ packet. WasGiven session.packets peer (opened_from player packet))
      ((links player).peers peer).kept.packets
  pub told : (player : ℕ) → player < limits.players → IsTrulyTold session.survivors (links player).peers

-- the packets that were given stay so, and the reports; each player has as much of each other as before, who had
-- ended has, and who had started has
pub record IsLater (session later : Session) : Type 0 where
  pub packets : (which : ℕ) (packet : Flight) → slice_get session.packets which ≡ Some packet
      → slice_get later.packets which ≡ Some packet
  pub reports : (which : ℕ) (given : Given) → slice_get session.reports which ≡ Some given
      → slice_get later.reports which ≡ Some given
  pub got : (player which : ℕ) → which ≢ player
      → has_of (session.survivors player).lockstep which ≤ has_of (later.survivors player).lockstep which
  pub ended : (player : ℕ) → has_ended (session.survivors player).lockstep ≡ true
      → has_ended (later.survivors player).lockstep ≡ true
  pub started : (player : ℕ) → is_waiting (session.survivors player).lockstep.phase ≡ false
      → is_waiting (later.survivors player).lockstep.phase ≡ false

-- with a new link of a player they are those of the game in a later session
abbrev pub StayRemaining : Marking → Limits → Settings → Session → (ℕ → Linked) → ℕ → Linked → Session → Type 0
StayRemaining marking limits settings session links player new later =
    AreRemainingLinks marking limits settings later (put links player new) × IsLater session later

-- after a datagram to a peer, with this packet of the survivor: the packet was given, if there is one, and so were
-- the commands of third players that the datagram hands on, and its report
abbrev pub after_datagram : {seal : Seal} {pace : PaceState} {old new : Linked} {bytes : List ℕ} → Session
    → (player to : ℕ) → Option Flight → Gives seal pace to old new bytes → Session
after_datagram {seal} {pace} {old} {new} {bytes} session player to packet gives =
    after_report (after_relays (after_packet session player packet (surviving_of new)) (flights_of to gives.behind.handed))
    player to (report_beside (surviving_of new) to gives.bundle.parts.items)

-- this report was given by one player to another
abbrev pub WasTold : List Given → (from to : ℕ) → Report → Type 0
WasTold reports from to report =
    (which : ℕ) × (slice_get reports which ≡ Some (record { from = from; to = to; report = report }))

-- a datagram tells of no more than its sender has of any other player, and that its sender has left only if it has
pub record HasReached (survivors : ℕ → Surviving) (bundle : Bundle) : Type 0 where
  pub got : (which : ℕ) → which ≢ bundle.from
      → slice_index bundle.counts.got which ≤ has_of (survivors bundle.from).lockstep which
  pub end : tells_end bundle ≡ true → has_ended (survivors bundle.from).lockstep ≡ true

-- the bytes were sealed in this game: they are a datagram that carries nothing but packets of this game, to whom
-- they were given, no report but one that its sender gave to its receiver, and tells of no more than its sender
-- has and knows
abbrev pub WasSealedIn : Seal → Session → List ℕ → Type 0
WasSealedIn seal session bytes =
    (bundle : Bundle) × IsBundle bundle × (bytes ≡ sealed_bytes seal bundle)
    × All (WasGiven session.packets bundle.to) (packets_in bundle)
    × ((report : Report) → IsReadAs bundle.report.items (Ok report)
    → WasTold session.reports bundle.from bundle.to report)
    × HasReached session.survivors bundle

-- the one thing that is asked of the network, and of whoever has it in hand: what a player opens was sealed in
-- this game before. No tag was forged
abbrev pub IsGenuineIn : Seal → Session → ℕ → List ℕ → Type 0
IsGenuineIn seal session player bytes =
    (bundle : Bundle) → IsDatagramOf (sealing_of seal player) bytes bundle → WasSealedIn seal session bytes

-- What their demos have in common beside their commands: the headers of any two differ in the view alone, which is
-- the player's own number
pub record HeadersAgree (players : ℕ) (survivors : ℕ → Surviving) : Type 0 where
  pub headers : (q r : ℕ) → q < players → r < players → HasStarted (survivors q).lockstep
      → HasStarted (survivors r).lockstep
      → header_but_view (survivors q).lockstep ≡ header_but_view (survivors r).lockstep
  pub views : (p : ℕ) → p < players → HasStarted (survivors p).lockstep
      → slice_get (survivors p).lockstep.demo.bytes 8 ≡ Some p
