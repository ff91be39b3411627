-- The packets of a datagram are of its sender, and bytes.
use Rattle.std.proofs.Common.{◌≡◌, ◌≤◌, ◌*◌, ℕ, List, [], ◌∷◌, refl, sym, subst, arith, All, inl, inr, ◌<◌, ◌+◌, ◌/◌, ◌%◌, ◌^◌, zero, suc, ◌++◌, length, take, drop}
use Rattle.std.proofs.lemmas.Bool.{cases_eq, cases_lt, eq-eqb, le-ltb, lt-ltb, ne_eqb}
use Rattle.std.proofs.lemmas.List.{length-drop, length-take-le}
use Rattle.std.proofs.lemmas.List.Elements.{All-head, All-tail, All-nil, All-cons, All-append, All-take, All-drop, All-replicate}
use Rattle.std.specs.List.{flat_map}
use Rattle.std.specs.Int.{w8, w32, cast_unsigned, to_le_bytes}
use Rattle.std.proofs.Math.Nat.{mod-lt}
use Rattle.byteorder.specs.Endian.{little_bytes}
use Rattle.dn_packet.specs.{Read.AreBytes, Text.sum_of}
use Rattle.dn_seal.specs.{declared.opened.Opened.Opened, declared.seal.Seal.Seal, Envelope.ask_bytes, Hmac.tag_of, Sealing.front_bytes}
use Rattle.dn_link.specs.{declared.bundle.Bundle.Bundle, declared.bundle.Part.Part, declared.bundle.Part.TheVariants.Whole, declared.bundle.Part.TheVariants.Run, declared.bundle.Part.TheVariants.Relay}
use Rattle.dn_link.specs.Packets.{packets_of, packets_in, short_body, short_packet, short_packets, opened_from}
use Rattle.dn_link.specs.Text.{run_bytes, run_head, bundle_bytes, carried_bytes, counts_bytes, part_bytes, parts_bytes, report_field, sealed_bytes}
use Rattle.dn_link.specs.Differences.{change_bits, changed, commands_bytes, difference, differences, run_differences, zeros}

abbrev pub IsByte : ℕ → Type 0
IsByte byte = byte < 256

-- of two lists
after : (xs ys : List ℕ) → AreBytes (xs ++ ys) → AreBytes ys
after [] ys all = all
after (x ∷ xs) ys all = after xs ys (All-tail IsByte x (xs ++ ys) all)

before : (xs ys : List ℕ) → AreBytes (xs ++ ys) → AreBytes xs
before [] ys all = All-nil IsByte
before (x ∷ xs) ys all =
    All-cons IsByte x xs (All-head IsByte x (xs ++ ys) all) (before xs ys (All-tail IsByte x (xs ++ ys) all))

-- the datagram of a packet is of bytes
abbrev pub IsSpelled : Opened → Type 0
IsSpelled opened = AreBytes opened.datagram.items

-- a packet of one command
four_bytes : (a b c d : ℕ) → a < 256 → b < 256 → c < 256 → d < 256 → AreBytes (a ∷ b ∷ c ∷ d ∷ [])
four_bytes a b c d la lb lc ld =
    All-cons IsByte a (b ∷ c ∷ d ∷ []) la (All-cons IsByte b (c ∷ d ∷ []) lb
    (All-cons IsByte c (d ∷ []) lc (All-cons IsByte d [] ld (All-nil IsByte))))

sum_bytes : (sum : ℕ) → AreBytes (little_bytes 4 sum)
sum_bytes sum = four_bytes (sum % 256) (sum / 256 % 256) (sum / 65536 % 256) (sum / 16777216 % 256)
    (mod-lt sum (omega arith)) (mod-lt (sum / 256) (omega arith)) (mod-lt (sum / 65536) (omega arith))
    (mod-lt (sum / 16777216) (omega arith))

short_bytes : (from start : ℕ) (command : List ℕ) → from < 256 → AreBytes command
    → IsSpelled (opened_from from (short_packet from start command))
short_bytes from start command low all =
    All-append IsByte (little_bytes 4 (sum_of (short_body from start command))) (short_body from start command)
    (sum_bytes (sum_of (short_body from start command))) (All-cons IsByte 0 (start % 256 ∷ from ∷ 1 ∷ command)
    (omega arith) (All-cons IsByte (start % 256) (from ∷ 1 ∷ command) (mod-lt start (omega arith))
    (All-cons IsByte from (1 ∷ command) low (All-cons IsByte 1 command (omega arith) all))))

shorts_bytes : (n from start : ℕ) (commands : List ℕ) → from < 256 → AreBytes commands
    → All IsSpelled (short_packets n from start commands)
shorts_bytes zero from start commands low all = All-nil IsSpelled
shorts_bytes (suc n) from start commands low all =
    All-cons IsSpelled _ _ (short_bytes from start (take 8 commands) low (All-take IsByte 8 commands all))
    (shorts_bytes n from ((start + 1) % 2 ^ 32) (drop 8 commands) low (All-drop IsByte 8 commands all))

-- of commands that are told by differences
changed_bytes : (before command : List ℕ) → length command ≤ length before → AreBytes before
    → AreBytes (changed before command) → AreBytes command
changed_bytes before [] few were are = All-nil IsByte
changed_bytes [] (c ∷ command) few were are = absurd (omega (arith, few))
changed_bytes (b ∷ before) (c ∷ command) few were are =
    let less : length command ≤ length before = omega (arith, few) in
    let after : AreBytes before = All-tail IsByte b before were in
    elim (cases_eq c b) [
      | inl same ↦ let on = eq-eqb c b same in
          All-cons IsByte c command (subst IsByte (sym same) (All-head IsByte b before were))
          (changed_bytes before command less after (rw on at are))
      | inr other ↦ let off = ne_eqb c b other in
          let all : AreBytes (c ∷ changed before command) = rw off at are in
          All-cons IsByte c command (All-head IsByte c (changed before command) all)
          (changed_bytes before command less after (All-tail IsByte c (changed before command) all))
    ]

told_bytes : (n from start : ℕ) (last commands : List ℕ) → from < 256 → length last ≡ 8 → 8 * n ≤ length commands
    → AreBytes last → AreBytes (differences n last commands) → All IsSpelled (short_packets n from start commands)
told_bytes zero from start last commands low eight long were all = All-nil IsSpelled
told_bytes (suc n) from start last commands low eight long were all =
    let first : List ℕ = take 8 commands in
    let rest : List ℕ = differences n first (drop 8 commands) in
    let size = length-take-le 8 commands (omega (arith, long)) in
    let left = length-drop 8 commands in
    let one : AreBytes first = changed_bytes last first (omega (arith, size, eight)) were
    (All-tail IsByte (change_bits last first) (changed last first) (before (difference last first) rest all)) in
    All-cons IsSpelled _ _ (short_bytes from start first low one)
    (told_bytes n from ((start + 1) % 2 ^ 32) first (drop 8 commands) low size (omega (arith, left, long)) one
    (after (difference last first) rest all))

run_of_bytes : (from start : ℕ) (commands : List ℕ) → from < 256 → AreBytes (commands_bytes commands)
    → All IsSpelled (short_packets (length commands / 8) from start commands)
run_of_bytes from start commands low all = elim (cases_lt (length (run_differences commands)) (length commands)) [
  | inl shorter ↦ let on = lt-ltb (length (run_differences commands)) (length commands) shorter in
      told_bytes (length commands / 8) from start zeros commands low refl (omega arith)
      (All-replicate IsByte 8 0 (omega arith)) (rw on at all)
  | inr whole ↦ let off = le-ltb (length (run_differences commands)) (length commands) whole in
      shorts_bytes (length commands / 8) from start commands low (rw off at all)
]

-- what a part stands for
part_of_bytes : (from : ℕ) (part : Part) → from < 256 → AreBytes (part_bytes part) → All IsSpelled (packets_of from part)
part_of_bytes from (Whole packet) low all =
    All-cons IsSpelled (opened_from from packet) [] (All-tail IsByte (length packet.datagram.items)
    packet.datagram.items (after (ask_bytes packet.ask) (length packet.datagram.items ∷ packet.datagram.items)
    (after (to_le_bytes w32 packet.start) (ask_bytes packet.ask ++ length packet.datagram.items
    ∷ packet.datagram.items) (All-tail IsByte 0 (carried_bytes packet) all)))) (All-nil IsSpelled)
part_of_bytes from (Run run) low all =
    run_of_bytes from run.start run.commands.items low
    (after (to_le_bytes w32 run.start) (commands_bytes run.commands.items)
    (All-tail IsByte (run_head 0 run.commands.items) (run_bytes run) all))
part_of_bytes from (Relay relay) low all =
    let of : AreBytes (relay.player ∷ run_bytes relay.run) =
    All-tail IsByte (run_head 32 relay.run.commands.items) (relay.player ∷ run_bytes relay.run) all in
    run_of_bytes relay.player relay.run.start relay.run.commands.items
    (All-head IsByte relay.player (run_bytes relay.run) of)
    (after (to_le_bytes w32 relay.run.start) (commands_bytes relay.run.commands.items)
    (All-tail IsByte relay.player (run_bytes relay.run) of))

all_of_bytes : (from : ℕ) (parts : List Part) → from < 256 → AreBytes (flat_map part_bytes parts)
    → All IsSpelled (flat_map (packets_of from) parts)
all_of_bytes from [] low all = All-nil IsSpelled
all_of_bytes from (part ∷ parts) low all =
    All-append IsSpelled (packets_of from part) (flat_map (packets_of from) parts)
    (part_of_bytes from part low (before (part_bytes part) (flat_map part_bytes parts) all))
    (all_of_bytes from parts low (after (part_bytes part) (flat_map part_bytes parts) all))

-- the bytes of a datagram up to its ends, its number, its lead, its counts, and its report
abbrev to_ends : Seal → Bundle → List ℕ
to_ends seal bundle = front_bytes seal 5 ++ (bundle.from ∷ bundle.to ∷ [])

abbrev to_number : Seal → Bundle → List ℕ
to_number seal bundle = to_ends seal bundle ++ to_le_bytes w32 bundle.number

abbrev to_lead : Seal → Bundle → List ℕ
to_lead seal bundle = to_number seal bundle ++ (cast_unsigned w8 bundle.lead ∷ bundle.holes ∷ bundle.cause ∷ [])

abbrev to_counts : Seal → Bundle → List ℕ
to_counts seal bundle = to_lead seal bundle ++ counts_bytes bundle.counts

abbrev to_report : Seal → Bundle → List ℕ
to_report seal bundle = to_counts seal bundle ++ report_field bundle.report.items

-- what a datagram carries
pub packets_of_bytes : (seal : Seal) (bundle : Bundle) → AreBytes (sealed_bytes seal bundle)
    → All (IsSpelled) (packets_in bundle)
packets_of_bytes seal bundle all =
    let parts : List ℕ = parts_bytes bundle.parts.items in
    let whole = before (bundle_bytes seal bundle) (tag_of seal.key (bundle_bytes seal bundle)) all in
    let report = before (to_report seal bundle) parts whole in
    let counts = before (to_counts seal bundle) (report_field bundle.report.items) report in
    let lead = before (to_lead seal bundle) (counts_bytes bundle.counts) counts in
    let number = before (to_number seal bundle) (cast_unsigned w8 bundle.lead ∷ bundle.holes ∷ bundle.cause ∷ []) lead in
    let ends = before (to_ends seal bundle) (to_le_bytes w32 bundle.number) number in
    let low = All-head IsByte bundle.from (bundle.to ∷ [])
    (after (front_bytes seal 5) (bundle.from ∷ bundle.to ∷ []) ends) in
    all_of_bytes bundle.from bundle.parts.items low (All-tail IsByte (length bundle.parts.items)
    (flat_map part_bytes bundle.parts.items) (after (to_report seal bundle) parts whole))
