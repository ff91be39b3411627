-- A datagram has room for all packets that its receiver needs.
use Rattle.std.proofs.Common.{◌≡◌, ◌≤◌, ◌+◌, ◌-◌, ◌*◌, ◌/◌, ◌%◌, ◌^◌, ℕ, zero, suc, Bool, true, false, List, [], ◌∷◌, ◌++◌, length, map, take, drop, append-nil, refl, ap, sym, ◌∙◌, subst, arith, All, inl, inr, Option, Some, None}
use Rattle.std.proofs.lemmas.{List.{Elements.{All-append, All-cons, All-head, All-nil, All-tail}, length-append, length-map, length-take, map-append}, Bool.cases_lt, Grind.flat_map-append}
use Rattle.std.specs.{Prelude.{if◌then◌else◌, slice_get}, List.flat_map}
use Rattle.dn_machine.specs.Flight.{Flight}
use Rattle.dn_lockstep.specs.Sent.{IsFair}
use Rattle.dn_open.specs.Sealed.{opened_of}
use Rattle.dn_seal.specs.declared.{opened.Opened.Opened, seal.Seal.Seal}
use Rattle.dn_link.specs.{CaughtUp.{IsChain, IsClose, begins, last_end}, Kept.{IsRising, Unacknowledged, end_of, going, is_news, kept_after}, Linked.{Gives, Linked}, Pacing.{PaceState, is_brief}}
use Rattle.dn_link.specs.{Packets.{opened_from, own_in, packets_of, short_packets}, Packing.{ArePacked, IsNeeded, part_room, parts_room}, Relays.{Handed, handed_part}, RemainingLinks.WasGiven, Text.IsPart}
use Rattle.dn_link.specs.declared.bundle.{Carried.Carried, Part.{Part, TheVariants.{Whole, Run, Relay}}}
use Rattle.dn_link.proofs.{Arriving.short_of, Covered.few, Makers.{close_end, own_of}, Relinking.AreGiven, Sending.{IsSized, whole_of}}

-- What a datagram carries of its sender's own packets.

-- parts that packets were written as are all the sender's own
own_only : (from : ℕ) (parts : List Part) → All (IsNeeded from) parts
    → flat_map (own_of from) parts ≡ flat_map (packets_of from) parts
own_only from [] needed = refl
own_only from (part ∷ parts) needed =
    (λ i. first part (All-head (IsNeeded from) part parts needed) i
    ++ own_only from parts (All-tail (IsNeeded from) part parts needed) i)
  where
    first : (part : Part) → IsNeeded from part → own_of from part ≡ packets_of from part
    first (Whole packet) needed = refl
    first (Run run) needed = refl
    first (Relay relay) needed = absurd needed

-- and what is handed on is not
none_own : (from : ℕ) (handed : List Handed) → flat_map (own_of from) (map handed_part handed) ≡ []
none_own from [] = refl
none_own from (one ∷ handed) = none_own from handed

pub gives_own : (seal : Seal) (pace : PaceState) (to : ℕ) (old new : Linked) (bytes : List ℕ)
    → (gives : Gives seal pace to old new bytes)
    → own_in gives.bundle ≡ flat_map (packets_of old.node.me) gives.own
gives_own seal pace to old new bytes gives =
    (λ i. flat_map (own_of (gives.from i)) (gives.behind.parts i))
    ∙ flat_map-append (own_of old.node.me) gives.own (map handed_part gives.behind.handed)
    ∙ ap (λ (ps : List Opened). flat_map (own_of old.node.me) gives.own ++ ps) (none_own old.node.me gives.behind.handed)
    ∙ append-nil (flat_map (own_of old.node.me) gives.own) ∙ own_only old.node.me gives.own (needed (is_brief pace to) refl)
  where
    needed : (brief : Bool) → is_brief pace to ≡ brief → All (IsNeeded old.node.me) gives.own
    needed true brief = subst (All (IsNeeded old.node.me)) (sym (gives.none brief)) (All-nil (IsNeeded old.node.me))
    needed false full = (gives.packed full).needed

-- The room for packets.

-- what they take at most, each written as it is
abbrev pub weight : List Opened → ℕ
weight [] = 0
weight (packet ∷ packets) = 11 + length packet.datagram.items + weight packets

pub weight_on : (one other : List Opened) → weight (one ++ other) ≡ weight one + weight other
weight_on [] other = omega arith
weight_on (packet ∷ one) other = omega (arith, weight_on one other)

first_light : (count : ℕ) (one other : List Opened) → count ≤ length one → weight (take count (one ++ other)) ≤ weight one
first_light zero one other less = omega arith
first_light (suc count) [] other less = absurd (omega (arith, less))
first_light (suc count) (packet ∷ one) other less = omega (arith, first_light count one other (omega (arith, less)))

run_light : (n from start : ℕ) (commands : List ℕ)
    → (19 * n ≤ weight (short_packets n from start commands)) × (length (short_packets n from start commands) ≡ n)
run_light zero from start commands = (omega arith, refl)
run_light (suc n) from start commands =
    let rest = run_light n from ((start + 1) % 2 ^ 32) (drop 8 commands) in (omega (arith, rest.0), ap suc rest.1)

-- a part takes no more than its packets, of which it has one at least
part_light : (from : ℕ) (part : Part) → IsPart part
    → (part_room part ≤ weight (packets_of from part)) × (1 ≤ length (packets_of from part))
part_light from (Whole packet) is = (omega arith, omega arith)
part_light from (Run run) is =
    let light = run_light (length run.commands.items / 8) from run.start run.commands.items in
    let some = is.some in
    let whole = is.whole in
    (omega (arith, light.0, some, whole), omega (arith, light.1, some))
part_light from (Relay relay) is =
    let light = run_light (length relay.run.commands.items / 8) relay.player relay.run.start relay.run.commands.items in
    let some = is.run.some in
    let whole = is.run.whole in
    (omega (arith, light.0, some, whole), omega (arith, light.1, some))

parts_light : (from : ℕ) (parts : List Part) → All IsPart parts
    → (parts_room parts ≤ 1 + weight (flat_map (packets_of from) parts))
    × (length parts ≤ length (flat_map (packets_of from) parts))
parts_light from [] all = (omega arith, omega arith)
parts_light from (part ∷ parts) all =
    let one = part_light from part (All-head IsPart part parts all) in
    let rest = parts_light from parts (All-tail IsPart part parts all) in
    let both = weight_on (packets_of from part) (flat_map (packets_of from) parts) in
    let long = length-append (packets_of from part) (flat_map (packets_of from) parts) in
    (omega (arith, one.0, rest.0, both), omega (arith, one.1, rest.1, long))

-- packets of which each repeats one command of the one before it at most
close_light : (from lag : ℕ) (packets : List Carried) (next : ℕ) → lag ≤ 1 → IsClose lag packets next
    → All IsSized packets
    → weight (map (opened_from from) packets) + 8 * begins next packets ≤ 27 * length packets + 8 * next
close_light from lag [] next small close sized = omega arith
close_light from lag (packet ∷ packets) next small (end, close) sized =
    let rest = close_light from lag packets next small close (All-tail IsSized packet packets sized) in
    let one = All-head IsSized packet packets sized in
    omega (arith, rest, one.0, end, small)

-- packets that were given are such as nodes send
pub all_sized : (given : List Flight)
    → ((which : ℕ) (flight : Flight) → slice_get given which ≡ Some flight → IsFair flight) → (from to : ℕ)
    (packets : List Carried) → AreGiven given from to packets → All IsSized packets
all_sized given fair from to [] all = All-nil IsSized
all_sized given fair from to (packet ∷ packets) all =
    let was = All-head (λ packet. WasGiven given to (opened_from from packet)) packet packets all in
    All-cons IsSized packet packets (one was.1 (fair was.0 was.1 was.2) was.4) (all_sized given fair from to packets
    (All-tail (λ packet. WasGiven given to (opened_from from packet)) packet packets all))
  where
    one : (flight : Flight) → IsFair flight → opened_from from packet ≡ opened_of flight → IsSized packet
    one flight fair is = grind (arith, short_of, whole_of)

-- so there is room for what is kept of so many commands
pub fits : (from lag made done wide : ℕ) (packets : List Carried) (covered next : ℕ) → lag ≤ 1
    → IsRising done packets covered → IsChain done packets covered → IsClose lag packets next → All IsSized packets
    → next ≤ made - lag → made ≤ done + wide → 2 ≤ wide
    → (length packets ≤ wide) × (weight (map (opened_from from) packets) ≤ 35 * wide + 88)
fits from lag made done wide [] covered next small rising chain close sized least more some = (omega arith, omega arith)
fits from lag made done wide (packet ∷ packets) covered next small rising chain close sized least more some =
    let most = few done (packet ∷ packets) covered rising in
    let ends = close_end lag done (packet ∷ packets) covered next chain close (omega arith) in
    let light = close_light from lag (packet ∷ packets) next small close sized in
    let one = All-head IsSized packet packets sized in
    let count : length (packet ∷ packets) ≤ wide = omega (arith, most, ends, least, more, small, some) in
    (count, omega (arith, light, count, one.1, rising.0, least, more, some))

-- and all of it goes
pub all_go : (from : ℕ) (packets rest : List Carried) (parts : List Part)
    → (packed : ArePacked from (packets ++ rest) parts) → All IsPart parts → length packets ≤ 24
    → weight (map (opened_from from) packets) ≤ 997 → length packets ≤ packed.count
all_go from packets rest parts packed fit few light = elim (cases_lt packed.count (length packets)) [
  | inl fewer ↦
      let told : List Opened = map (opened_from from) packets in
      let more : List Opened = map (opened_from from) rest in
      let front = packed.front ∙ ap (take packed.count) (map-append (opened_from from) packets rest) in
      let is = parts_light from parts fit in
      let count = ap (length {A = Opened}) front ∙ length-take packed.count (told ++ more) in
      let long = length-map packets (opened_from from) in
      let heavy = first_light packed.count told more (omega (arith, fewer, long)) in
      let full = packed.all (let both = length-append packets rest in omega (arith, fewer, both))
      (omega (arith, is.1, count, fewer, few)) in
      absurd (omega (arith, full, is.0, ap weight front, heavy, light))
  | inr all ↦ all
]

-- what is kept afterwards, and what goes beside it
pub goes_first : (P : Carried → Type 0) (kept : Unacknowledged) (packet : Option Carried)
    → ((one : Carried) → packet ≡ Some one → P one)
    → (rest : List Carried) × (going kept packet ≡ (kept_after kept packet).packets ++ rest) × All P rest
goes_first P kept None is = ([], sym (append-nil kept.packets), All-nil P)
goes_first P kept (Some packet) is = go (is_news kept packet)
  where
    go : (test : Bool) → (rest : List Carried) × (kept.packets ++ packet ∷ []
        ≡ (if test then record kept { packets = kept.packets ++ packet ∷ []; covered = end_of packet } else kept).packets ++ rest)
        × All P rest
    go true = ([], sym (append-nil (kept.packets ++ packet ∷ [])), All-nil P)
    go false = (packet ∷ [], refl, All-cons P packet [] (is packet refl) (All-nil P))

pub after_all : (P : Carried → Type 0) (kept : Unacknowledged) (packet : Option Carried) → All P kept.packets
    → ((one : Carried) → packet ≡ Some one → P one) → All P (kept_after kept packet).packets
after_all P kept None all is = all
after_all P kept (Some packet) all is = go (is_news kept packet)
  where
    go : (test : Bool) → All P
        (if test then record kept { packets = kept.packets ++ packet ∷ []; covered = end_of packet } else kept).packets
    go true = All-append P kept.packets (packet ∷ []) all (All-cons P packet [] (is packet refl) (All-nil P))
    go false = all

-- they end no earlier, where those behind them do not
pub ends_past : (from tic bound count : ℕ) (packets rest : List Carried) → length packets ≤ count
    → All (λ packet. bound ≤ end_of packet) rest → bound ≤ last_end tic (map (opened_from from) packets)
    → bound ≤ last_end tic (take count (map (opened_from from) (packets ++ rest)))
ends_past from tic bound zero [] rest less all ends = ends
ends_past from tic bound (suc count) [] [] less all ends = ends
ends_past from tic bound (suc count) [] (packet ∷ rest) less all ends =
    ends_past from (end_of packet) bound count [] rest (omega arith)
    (All-tail (λ (packet : Carried). bound ≤ end_of packet) packet rest all)
    (All-head (λ (packet : Carried). bound ≤ end_of packet) packet rest all)
ends_past from tic bound zero (packet ∷ packets) rest less all ends = absurd (omega (arith, less))
ends_past from tic bound (suc count) (packet ∷ packets) rest less all ends =
    ends_past from (end_of packet) bound count packets rest (omega (arith, less)) all ends
