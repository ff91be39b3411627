-- That what a peer is to be sent goes on from what is kept for it, and that from what it has.
use Rattle.std.specs.Prelude.{◌≡◌, ◌≢◌, ◌<◌, ◌≤◌, ℕ, ◌+◌, ◌-◌, true, false, All, List, [], ◌∷◌, Option, None, Some, ◌⊎◌, IfSome}
use Rattle.dn_seal.specs.{declared.opened.Opened.Opened, declared.seal.Seal.Seal}
use Rattle.dn_machine.specs.{Limits.Limits, Node.{is_ended, put}, Sending.lag}
use Rattle.dn_machine.specs.Node as machine
use Rattle.dn_lockstep.specs.{Told.got, Told.made, Contents.Contents, Represents.Represents}
use Rattle.dn_open.specs.{Arrivals.flag_in, Sealed.sealing_of}
use Rattle.dn_packet.specs.Flags as flag
use Rattle.dn_link.specs.{declared.bundle.Bundle.Bundle, declared.bundle.Carried.Carried, Counting.has_ended, Ends.excludes, Kept.IsKeptRising, Kept.Unacknowledged, Kept.end_of, Linked.IsWhole, Linked.Linked, Packets.own_in, Packets.packets_in, Reading.IsDatagramOf, Text.IsBundle, Text.sealed_bytes}

-- from which tic on a peer is to be sent commands: the next packet begins there, unless more were made from
-- there on than are kept; then it begins with the newest, or behind it where packets repeat none
abbrev pub next_to : Contents → ℕ → ℕ
next_to node to = (node.peers to).resend

-- a peer has left, and takes no packet any more
abbrev pub IsGone : Option ℕ → Type 0
IsGone left = (cause : ℕ) × (left ≡ Some cause)

-- that tic is not past the commands that are covered, or the peer is gone; the node is one of the machine in
-- these limits, and each kept packet ends past those before it
pub record GoesOn (limits : Limits) (me to : ℕ) (link : Linked) : Type 0 where
  pub mine : me < limits.players
  pub below : to < limits.players
  pub node : machine.Node
  pub shows : Represents limits me link.node node
  pub rising : IsKeptRising (link.peers to).kept
  pub next : IsGone (link.peers to).left ⊎ (next_to link.node to ≤ (link.peers to).kept.covered)

-- it still does, and what was covered is
pub record StillGoesOn (limits : Limits) (me to : ℕ) (old new : Linked) : Type 0 where
  pub goes : GoesOn limits me to new
  pub covered : (old.peers to).kept.covered ≤ (new.peers to).kept.covered

-- the node keeps all commands that it made from that tic on, so the next packet begins there; and it made at
-- most twenty-four that the peer has not acknowledged
pub record IsInTime (to : ℕ) (link : Linked) : Type 0 where
  pub there : made link.node ≤ next_to link.node to + link.node.places
  pub few : made link.node ≤ (link.peers to).kept.done + 24

-- if the bytes are a datagram of the peer, none of its packets asks for commands from a later tic on
abbrev pub AsksWithin : Seal → ℕ → ℕ → ℕ → List ℕ → Type 0
AsksWithin seal me from count bytes =
    (bundle : Bundle) → IsDatagramOf (sealing_of seal me) bytes bundle → bundle.from ≡ from
    → All (λ packet. IfSome packet.ask (λ tic. tic ≤ count)) (packets_in bundle)

-- That the links of a game are caught up: what each keeps for a peer goes on from what the peer has.

-- the tic after the last command of a packet that came
abbrev pub told_end : Opened → ℕ
told_end packet = end_of (record { start = packet.start; ask = packet.ask; datagram = packet.datagram })

-- they begin at this tic or before, and each where the one before it ends or before
abbrev pub HasNoGap : ℕ → List Opened → Type 0
HasNoGap tic [] = Unit {0}
HasNoGap tic (packet ∷ packets) = (packet.start ≤ tic) × HasNoGap (told_end packet) packets

-- the tic after the last command of the last of them, or this one where there are none
abbrev pub last_end : ℕ → List Opened → ℕ
last_end tic [] = tic
last_end tic (packet ∷ packets) = last_end (told_end packet) packets

-- none of these packets asks for anything; they begin at the first command that the peer still needs or before,
-- each where the one before it ends or before; and what they cover ends where the last of them does
abbrev pub IsChain : ℕ → List Carried → ℕ → Type 0
IsChain done [] covered = covered ≡ done
IsChain done (packet ∷ packets) covered =
    (packet.start ≤ done) × (packet.ask ≡ None) × IsChain (end_of packet) packets covered

abbrev pub IsKeptChain : Unacknowledged → Type 0
IsKeptChain kept = IsChain kept.done kept.packets kept.covered

-- the tic at which the first of these packets begins, or this one where there are none
abbrev pub begins : ℕ → List Carried → ℕ
begins next [] = next
begins next (packet ∷ packets) = packet.start

-- each ends at most so many commands behind the tic at which the one after it begins, and the last behind this one
abbrev pub IsClose : ℕ → List Carried → ℕ → Type 0
IsClose lag [] next = Unit {0}
IsClose lag (packet ∷ packets) next = (end_of packet ≤ begins next packets + lag) × IsClose lag packets next

-- of a player's link and a peer's: what is kept for the peer has no gap; the player asks the peer for nothing
-- again, and has of the peer's commands at most a window more than the peer has acknowledged of the player's.
-- And unless the peer has ended: what it has acknowledged it has; the next packet to it goes on from those that
-- are kept, and begins with none that was not made; and each of these repeats of the one before it one command at
-- most, and only where packets repeat one
pub record IsCaughtUp (limits : Limits) (player peer : ℕ) (mine theirs : Linked) : Type 0 where
  pub rising : IsKeptRising (mine.peers peer).kept
  pub chain : IsKeptChain (mine.peers peer).kept
  pub asks : (mine.node.peers peer).want ≡ false
  pub near : got mine.node peer ≤ (mine.peers peer).kept.done + limits.ahead
  pub there : has_ended theirs.node ≡ false → (mine.peers peer).kept.done ≤ got theirs.node player
  pub next : has_ended theirs.node ≡ false → next_to mine.node peer ≤ (mine.peers peer).kept.covered
  pub least : has_ended theirs.node ≡ false → next_to mine.node peer ≤ got mine.node player - lag limits
  pub close : has_ended theirs.node ≡ false
      → IsClose (lag limits) (mine.peers peer).kept.packets (next_to mine.node peer)

-- any two of them, and none has given up another
pub record AreCaughtUp (limits : Limits) (links : ℕ → Linked) : Type 0 where
  pub whole : (player : ℕ) → player < limits.players → IsWhole (links player)
  pub pairs : (player peer : ℕ) → player < limits.players → peer < limits.players → peer ≢ player
      → IsCaughtUp limits player peer (links player) (links peer)

-- a datagram between two players is one of its sender to a peer who is not given up, and asks for nothing
-- again; and unless its receiver has ended, its sender's packets have no gap behind what the receiver has of the
-- sender. Of commands that it hands on nothing is said: those past a gap are not heard
pub record IsInStep (limits : Limits) (links : ℕ → Linked) (bundle : Bundle) : Type 0 where
  pub sender : bundle.from < limits.players
  pub receiver : bundle.to < limits.players
  pub apart : bundle.from ≢ bundle.to
  pub plain : excludes bundle ≡ false
  pub asks : All (λ packet. packet.ask ≡ None) (own_in bundle)
  pub follows : has_ended (links bundle.to).node ≡ false
      → HasNoGap (got (links bundle.to).node bundle.from) (own_in bundle)

-- the bytes are such a datagram
abbrev pub WasInStep : Seal → Limits → (ℕ → Linked) → List ℕ → Type 0
WasInStep seal limits links bytes =
    (bundle : Bundle) × IsBundle bundle × (bytes ≡ sealed_bytes seal bundle) × IsInStep limits links bundle

-- and so is what a player opens
abbrev pub IsInStepTo : Seal → Limits → (ℕ → Linked) → ℕ → List ℕ → Type 0
IsInStepTo seal limits links player bytes =
    (bundle : Bundle) → IsDatagramOf (sealing_of seal player) bytes bundle → WasInStep seal limits links bytes

-- unless its receiver has ended, the receiver has so many commands of its sender once it has those of the
-- sender's packets
abbrev pub Brings : ℕ → (ℕ → Linked) → Bundle → Type 0
Brings count links bundle =
    has_ended (links bundle.to).node ≡ false
    → count ≤ last_end (got (links bundle.to).node bundle.from) (own_in bundle)

-- one of these packets of a player tells that it has left: it is an EXIT packet, and ends at this tic
abbrev pub HasExit : (from end : ℕ) → List Opened → Type 0
HasExit from end [] = ⊥
HasExit from end (packet ∷ packets) =
    ((packet.from ≡ from) × (told_end packet ≡ end) × (flag_in packet.datagram.items flag.exit ≡ true))
    ⊎ HasExit from end packets

-- each player has as many commands of each as before, or more; it has run as many tics, or more; its next
-- packet to a peer that has not ended begins no earlier; a player who had ended has ended, and makes no more; and who
-- has not ended, whether it had played or not, had not
pub record HasGrown (limits : Limits) (old new : ℕ → Linked) : Type 0 where
  pub still : (player : ℕ) → player < limits.players → has_ended (old player).node ≡ true
      → got (new player).node player ≡ got (old player).node player
  pub got : (player which : ℕ) → player < limits.players → which < limits.players
      → got (old player).node which ≤ got (new player).node which
  pub ran : (player : ℕ) → player < limits.players → (old player).node.ran ≤ (new player).node.ran
  pub sends : (player which : ℕ) → player < limits.players → which < limits.players → which ≢ player
      → has_ended (old which).node ≡ false → next_to (old player).node which ≤ next_to (new player).node which
  pub ended : (player : ℕ) → player < limits.players → has_ended (old player).node ≡ true
      → has_ended (new player).node ≡ true
  pub goes_on : (player : ℕ) → player < limits.players → is_ended (new player).node.phase ≡ false
      → is_ended (old player).node.phase ≡ false

-- with a new link of a player they are caught up still
abbrev pub StayCaughtUp : Limits → (ℕ → Linked) → ℕ → Linked → Type 0
StayCaughtUp limits links player new =
    AreCaughtUp limits (put links player new) × HasGrown limits links (put links player new)
