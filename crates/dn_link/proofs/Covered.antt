-- The packets that are kept for a peer: each ends past those before it, and they have each command that it
-- still needs, of those that they cover.
use Rattle.std.proofs.Common.{◌≡◌, ◌<◌, ◌≤◌, ℕ, zero, suc, Bool, true, false, List, [], ◌∷◌, ◌++◌, length, map, take, append-nil, refl, ap, sym, ◌∙◌, subst, arith, inl, inr, Option, Some, None, ◌+◌}
use Rattle.std.proofs.lemmas.{Bool.{and_from, and_parts, and_right, cases_lt, le-ltb, le-leb, leb-true, lt-ltb, ltb-true, or_cases, or_left, or_right, true≢false, leb-false}, List.length-map}
use Rattle.std.proofs.Math.Seq.{take-append_seam}
use Rattle.std.specs.{Prelude.{if◌then◌else◌, ◌&&◌, ◌↔◌, nat_le, nat_lt, max}, List.flat_map}
use Rattle.dn_seal.specs.declared.{opened.Opened.Opened, seal.Seal.Seal}
use Rattle.dn_machine.proofs.Put.{put_at}
use Rattle.dn_link.specs.{Kept.{IsCovering, Reaches, Unacknowledged, acknowledged, end_of, going, has_tic, is_news, kept_after, taken_by, without, IsKeptRising, IsRising}, Linking.peers_of}
use Rattle.dn_link.specs.{declared.{bundle.Carried.Carried, peer.Peer.Peer}, Linked.{Gives, Linked, PeerState}, Pacing.PaceState, Packets.{opened_from, packets_of}, Packing.ArePacked}
use Rattle.dn_link.specs.Packing.{parts_room}
use Rattle.dn_link.specs.Pacing.{is_brief}

-- Each packet that is kept for a peer ends past those before it.

-- so there are no more of them than commands that they cover and the peer needs
pub few : (done : ℕ) (packets : List Carried) (covered : ℕ) → IsRising done packets covered
    → done + length packets ≤ covered
few done [] covered rising = omega (arith, rising)
few done (packet ∷ packets) covered (first, rest) =
    omega (arith, first, few (end_of packet) packets covered rest)

-- they may cover more
covers_on : (done : ℕ) (packets : List Carried) (covered more : ℕ) → covered ≤ more
    → IsRising done packets covered → IsRising done packets more
covers_on done [] covered more less rising = omega (arith, less, rising)
covers_on done (packet ∷ packets) covered more less (first, rest) =
    (first, covers_on (end_of packet) packets covered more less rest)

-- one more that ends past what they cover
rises_on : (done : ℕ) (packets : List Carried) (covered : ℕ) (packet : Carried) → covered < end_of packet
    → IsRising done packets covered → IsRising done (packets ++ packet ∷ []) (end_of packet)
rises_on done [] covered packet past rising = (omega (arith, past, rising), omega arith)
rises_on done (other ∷ packets) covered packet past (first, rest) =
    (first, rises_on (end_of other) packets covered packet past rest)

pub news_rises : (kept : Unacknowledged) (packet : Carried) → is_news kept packet ≡ true
    → IsRising kept.done kept.packets kept.covered
    → IsRising kept.done (kept.packets ++ packet ∷ []) (end_of packet)
news_rises kept packet news rising = grind (arith, and_parts, ltb-true, rises_on)

-- the peer needs fewer
pub rises_past : (done : ℕ) (packets : List Carried) (covered count : ℕ) → IsRising done packets covered
    → IsRising (max done count) (without count packets) (max covered count)
rises_past done [] covered count rising = omega (arith, rising)
rises_past done (packet ∷ packets) covered count (first, rest) =
    go (nat_le (end_of packet) count) refl (rises_past (end_of packet) packets covered count rest)
  where
    go : (test : Bool) → nat_le (end_of packet) count ≡ test
        → IsRising (max (end_of packet) count) (without count packets) (max covered count)
        → IsRising (max done count) (if test then without count packets else packet ∷ packets) (max covered count)
    go true ends behind =
        let within = leb-true (end_of packet) count ends in
        let same : max (end_of packet) count ≡ max done count = omega (arith, within, first) in
        subst (λ (n : ℕ). IsRising n (without count packets) (max covered count)) same behind
    go false past behind =
        let beyond = leb-false (end_of packet) count past in (
          omega (arith, first, beyond),
          covers_on (end_of packet) packets covered (max covered count) (omega arith) rest,
        )

-- and no more packets than before are left
pub fewer : (packets : List Carried) (count : ℕ) → length (without count packets) ≤ length packets
fewer [] count = omega arith
fewer (packet ∷ packets) count = go (nat_le (end_of packet) count) (fewer packets count)
  where
    go : (test : Bool) → length (without count packets) ≤ length packets
        → length (if test then without count packets else packet ∷ packets) ≤ length (packet ∷ packets)
    go true less = omega (arith, less)
    go false less = omega arith

-- for each peer
pub all_rising : (peers : List Peer) (place : ℕ) → IsKeptRising (peers_of peers place).kept
all_rising [] place = omega arith
all_rising (peer ∷ peers) zero = peer.kept.rising
all_rising (peer ∷ peers) (suc place) = all_rising peers place

-- So each command that is covered, and still needed, is in them.

-- the packet has it
abbrev lies : ℕ → Carried → Bool
lies tic packet = nat_le packet.start tic && nat_lt tic (end_of packet)

-- with more packets behind
has_more : (tic : ℕ) (packets more : List Carried) → has_tic tic packets ≡ true
    → has_tic tic (packets ++ more) ≡ true
has_more tic [] more has = absurd (true≢false (sym has))
has_more tic (packet ∷ packets) more has = elim (or_cases (lies tic packet) (has_tic tic packets) has) [
  | inl here ↦ or_left (lies tic packet) (has_tic tic (packets ++ more)) here
  | inr behind ↦ or_right (lies tic packet) (has_tic tic (packets ++ more)) (has_more tic packets more behind)
]

-- the last has it
has_last : (tic : ℕ) (packets : List Carried) (packet : Carried) → packet.start ≤ tic → tic < end_of packet
    → has_tic tic (packets ++ packet ∷ []) ≡ true
has_last tic [] packet from before = grind (arith, or_left, and_from, le-leb, lt-ltb)
has_last tic (other ∷ packets) packet from before =
    or_right (lies tic other) (has_tic tic (packets ++ packet ∷ [])) (has_last tic packets packet from before)

-- a packet that ends before does not have it
has_behind : (tic : ℕ) (packet : Carried) (packets : List Carried) → end_of packet ≤ tic
    → has_tic tic (packet ∷ packets) ≡ true → has_tic tic packets ≡ true
has_behind tic packet packets ends has = grind (arith, or_cases, true≢false, and_right, le-ltb)

-- a packet that goes on where the others end is kept
pub covers_more : (kept : Unacknowledged) (packet : Carried) → IsCovering kept → is_news kept packet ≡ true
    → IsCovering (record kept { packets = kept.packets ++ packet ∷ []; covered = end_of packet })
covers_more kept packet covers news tic needed before = grind (arith, has_more, has_last, leb-true, and_parts)

-- what goes to the peer has all that is kept afterwards
goes_covering : (kept : Unacknowledged) (packet : Option Carried) → IsCovering kept → (tic : ℕ)
    → kept.done ≤ tic → tic < (kept_after kept packet).covered → has_tic tic (going kept packet) ≡ true
goes_covering kept None covers tic needed before = covers tic needed before
goes_covering kept (Some packet) covers tic needed before = grind (arith, covers_more, has_more)

-- the peer needs fewer
without_covers : (packets : List Carried) (count tic : ℕ) → count ≤ tic → has_tic tic packets ≡ true
    → has_tic tic (without count packets) ≡ true
without_covers [] count tic needed has = has
without_covers (packet ∷ packets) count tic needed has =
    go (nat_le (end_of packet) count) refl (λ more. without_covers packets count tic needed more)
  where
    go : (test : Bool) → nat_le (end_of packet) count ≡ test
        → (has_tic tic packets ≡ true → has_tic tic (without count packets) ≡ true)
        → has_tic tic (if test then without count packets else packet ∷ packets) ≡ true
    go true ends behind =
        let within = leb-true (end_of packet) count ends in
        behind (has_behind tic packet packets (omega (arith, within, needed)) has)
    go false past behind = has

pub covers_less : (kept : Unacknowledged) (count : ℕ) → IsCovering kept → IsCovering (acknowledged kept count)
covers_less kept count covers tic needed before = grind (arith, without_covers)

-- for each peer
pub all_covering : (peers : List Peer) (place : ℕ) → IsCovering (peers_of peers place).kept
all_covering [] place = λ tic needed before. absurd (omega (arith, before))
all_covering (peer ∷ peers) zero = peer.kept.covers
all_covering (peer ∷ peers) (suc place) = all_covering peers place

-- what is covered reaches a packet that is given
pub reached : (kept : Unacknowledged) (packet : Carried)
    → (end_of packet ≤ (kept_after kept (Some packet)).covered) ↔ Reaches kept packet
reached kept packet = grind (arith, and_parts, leb-true, ltb-true, and_from, le-leb, lt-ltb, true≢false)

-- and a datagram has all of them, where it has room
pub carries : (seal : Seal) (pace : PaceState) (to : ℕ) (old new : Linked) (bytes : List ℕ)
    (gives : Gives seal pace to old new bytes) → is_brief pace to ≡ false
    → IsCovering (old.peers to).kept → length gives.own < 24 → parts_room gives.own ≤ 998
    → (packets : List Carried) × (flat_map (packets_of gives.bundle.from) gives.own
    ≡ map (opened_from old.node.me) packets)
    × ((tic : ℕ) → (old.peers to).kept.done ≤ tic → tic < (new.peers to).kept.covered → has_tic tic packets ≡ true)
carries seal pace to old new bytes gives full covers few short =
    let kept : Unacknowledged = (old.peers to).kept in
    let taken : Option Carried = taken_by (old.peers to).left gives.given in
    let packets : List Carried = going kept taken in
    let packed : ArePacked old.node.me packets gives.own = gives.packed full in
    let told : List Opened = map (opened_from old.node.me) packets in
    let long = length-map packets (opened_from old.node.me) in
    let all : length packets ≤ packed.count = elim (cases_lt packed.count (length packets)) [
      | inl some ↦ let full = packed.all some (omega (arith, few)) in absurd (omega (arith, full, short))
      | inr none ↦ none
    ] in
    let count : packed.count ≡ length told = omega (arith, long, all, packed.some) in
    let now : (new.peers to).kept.covered ≡ (kept_after kept taken).covered =
    ap (λ (f : ℕ → PeerState). (f to).kept.covered) gives.peers
    ∙ ap (λ (t : PeerState). t.kept.covered) (put_at old.peers to to _ refl) in (
      packets,
      ap (λ (k : ℕ). flat_map (packets_of k) gives.own) gives.from ∙ packed.front ∙ ap (λ (k : ℕ). take k told)
          count ∙ ap (take (length told)) (sym (append-nil told)) ∙ take-append_seam told [],
      λ tic needed before. goes_covering kept taken covers tic needed (subst (λ (n : ℕ). tic < n) now before),
    )

pub reaches_given : (seal : Seal) (pace : PaceState) (to : ℕ) (old new : Linked)
    (bytes : List ℕ) (gives : Gives seal pace to old new bytes) (packet : Carried)
    → taken_by (old.peers to).left gives.given ≡ Some packet
    → (end_of packet ≤ (new.peers to).kept.covered) ↔ Reaches (old.peers to).kept packet
reaches_given seal pace to old new bytes gives packet taken = grind (arith, put_at, reached)
