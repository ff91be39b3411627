-- The bytes of a report: they are read as one thing, and how many they are.
use Rattle.std.proofs.Common.{◌≡◌, ◌<◌, ◌+◌, ◌*◌, ℕ, suc, List, [], ◌∷◌, ◌++◌, length, take, get_or, ap, sym, ◌∙◌, arith, append_assoc, append-nil, ◌≤◌, drop, All, refl, length-append, None, ◌/◌, ◌%◌, subst, Option, Some, Result, Ok, Err, inl, inr, flat_map, take-suc, slice_index, Bool, true, false, ne_eqb, le-ltb, eq-eqb, take-append-drop, length-take-le, drop-drop}
use Rattle.std.proofs.lemmas.{Grind.flat_map-append, List.Elements.{All-head, All-tail}, Option.{same_Some, none-some}}
use Rattle.std.proofs.lemmas.Nat.{from_le_bytes-to_le_bytes_4, le_bytes_4}
use Rattle.dn_tic.specs.{Command.{command_bytes, IsCommand}, declared.command.TicCmd.TicCmd}
use Rattle.dn_tic.proofs.Bytes.{same_command}
use Rattle.dn_packet.proofs.Texts.{length-commands}
use Rattle.dn_survivor.specs.declared.report.{Tail.Tail, Report.Report, ReportFault.ReportFault}
use Rattle.dn_survivor.specs.ReportBytes.{tail_bytes, IsTail, fault_at, told_count, told_number, IsFirst, report_bytes}
use Rattle.dn_survivor.specs.ReportBytes.{IsReport, bit, number_of, first_byte, AreInOrder, AreTold, first_fault}
use Rattle.dn_survivor.specs.ReportBytes.{next_after, HasFault, IsReadAs}

-- What is told of a player is found again in its bytes.
four_fit : (a b c d : ℕ) → a < 256 → b < 256 → c < 256 → d < 256 → (i : ℕ) → get_or (a ∷ b ∷ c ∷ d ∷ []) i 0 < 256
four_fit a b c d ha hb hc hd i = grind arith

-- what was read of a player's bytes has these bytes
pub assembled : (bytes : List ℕ) (count : ℕ) (commands : List TicCmd) → ((i : ℕ) → get_or bytes i 0 < 256)
    → 6 ≤ length bytes → 6 + 8 * told_number bytes ≤ length bytes → count ≡ told_count bytes
    → take (8 * told_number bytes) (drop 6 bytes) ≡ flat_map command_bytes commands
    → (length commands ≡ told_number bytes)
    × (bytes ≡ tail_bytes (record {
      player = slice_index bytes 0;
      count = count;
      commands = record { items = commands };
    }) ++ drop (6 + 8 * told_number bytes) bytes)
assembled (p ∷ a ∷ b ∷ c ∷ d ∷ n ∷ rest) count commands fits long whole counted spelled =
    let many : length commands ≡ n =
    omega (arith, length-commands commands, ap (length {A = ℕ}) spelled, length-take-le (8 * n) rest (omega arith)) in
    let four = sym (le_bytes_4 (a ∷ b ∷ c ∷ d ∷ []) count refl
    (four_fit a b c d (fits 1) (fits 2) (fits 3) (fits 4)) counted) in
    let behind : drop (8 * n) rest ≡ drop (6 + 8 * n) (p ∷ a ∷ b ∷ c ∷ d ∷ n ∷ rest) =
    drop-drop (8 * n) 6 (p ∷ a ∷ b ∷ c ∷ d ∷ n ∷ rest) in
    let split : rest ≡ flat_map command_bytes commands ++ drop (6 + 8 * n) (p ∷ a ∷ b ∷ c ∷ d ∷ n ∷ rest) =
    sym (take-append-drop (8 * n) rest) ∙ (λ i. spelled i ++ behind i) in (
      many,
      (λ i. p ∷ (four i ++ sym many i ∷ split i)),
    )
assembled _ count commands fits long whole counted spelled = absurd (omega arith)

-- where a player's bytes stand in front there is no fault
clean : (before least : ℕ) (bytes : List ℕ) → IsFirst before least bytes → fault_at before least bytes ≡ None
unfolding fault_at
clean before least bytes f = grind (arith, ne_eqb, le-ltb)

-- what is told of a player stands in front of its bytes
stands : (before least : ℕ) (tail : Tail) (rest : List ℕ) → IsTail tail → before < 2 → least ≤ tail.player
    → IsFirst before least (tail_bytes tail ++ rest)
stands before least tail rest is few order = grind (arith, from_le_bytes-to_le_bytes_4, length-commands, length-append)

-- as many commands, whatever follows them
same_front : (cs ds : List TicCmd) (xs ys : List ℕ) → length cs ≡ length ds → All IsCommand cs → All IsCommand ds
    → flat_map command_bytes cs ++ xs ≡ flat_map command_bytes ds ++ ys → (cs ≡ ds) × (xs ≡ ys)
same_front [] [] xs ys long p q e = (refl, e)
same_front [] (d ∷ ds) xs ys long p q e = absurd (omega (arith, long))
same_front (c ∷ cs) [] xs ys long p q e = absurd (omega (arith, long))
same_front (c ∷ cs) (d ∷ ds) xs ys long p q e =
    let one = same_command c d (flat_map command_bytes cs ++ xs) (flat_map command_bytes ds ++ ys)
    (All-head IsCommand c cs p) (All-head IsCommand d ds q) e in
    let others = same_front cs ds xs ys (omega (arith, long)) (All-tail IsCommand c cs p) (All-tail IsCommand d ds q)
    one.1 in
    (λ i. one.0 i ∷ others.0 i, others.1)

-- each player's bytes are of one tail, whatever follows them
same_tail : (t u : Tail) (xs ys : List ℕ) → IsTail t → IsTail u → tail_bytes t ++ xs ≡ tail_bytes u ++ ys
    → (t ≡ u) × (xs ≡ ys)
same_tail t u xs ys p q e = grind (arith, from_le_bytes-to_le_bytes_4, same_front)

-- Bytes that are written piece by piece.

-- the pieces of these, and of one more
grown : {X : Type 0} (f : X → List ℕ) (xs : List X) (x : X) → flat_map f (xs ++ x ∷ []) ≡ flat_map f xs ++ f x
grown f xs x = grind (arith, flat_map-append, append-nil)

-- the pieces up to one more
pub one_more : {X : Type 0} (f : X → List ℕ) (start : List ℕ) (xs : List X) (i : ℕ) (d : X) (bytes new : List ℕ)
    → i < length xs → bytes ≡ start ++ flat_map f (take i xs) → new ≡ bytes ++ f (get_or xs i d)
    → new ≡ start ++ flat_map f (take (i + 1) xs)
one_more {X} f start xs i d bytes new below so_far more =
    let x : X = get_or xs i d in
    let next : i + 1 ≡ suc i = omega arith in
    let taken : take (i + 1) xs ≡ take i xs ++ x ∷ [] = ap (λ (n : ℕ). take n xs) next ∙ take-suc xs i d below in
    more ∙ ap (λ (bs : List ℕ). bs ++ f x) so_far
    ∙ append_assoc start (flat_map f (take i xs)) (f x)
    ∙ ap (λ (bs : List ℕ). start ++ bs) (sym (ap (flat_map f) taken ∙ grown f (take i xs) x))

-- one more piece is read from the front of the rest
pub one_read : {X : Type 0} (f : X → List ℕ) (bytes rest after : List ℕ) (found more : List X) (x : X)
    → bytes ≡ flat_map f found ++ rest → rest ≡ f x ++ after → more ≡ found ++ x ∷ []
    → bytes ≡ flat_map f more ++ after
one_read f bytes rest after found more x so_far front pushed = grind (arith, append_assoc, grown)

-- six bytes, and eight to a command
length-tail : (tail : Tail) → length (tail_bytes tail) ≡ 6 + 8 * length tail.commands.items
length-tail tail = omega (arith, length-commands tail.commands.items)

-- How many bytes a report has.

-- each has at most so many commands
abbrev Has : ℕ → Tail → Type 0
Has most tail = length tail.commands.items ≤ most

tails : (most : ℕ) (told : List Tail) → All (Has most) told → length (flat_map tail_bytes told) ≤ length told * (6 + 8 * most)
tails most [] all = omega arith
tails most (t ∷ told) all =
    let one = All-head (Has most) t told all in
    let rest = tails most told (All-tail (Has most) t told all) in
    omega (arith, one, rest, length-tail t, length-append (tail_bytes t) (flat_map tail_bytes told))

two : (ahead : ℕ) (told : List Tail) → length told ≤ 2 → All (Has (ahead + ahead)) told
    → length (flat_map tail_bytes told) ≤ 12 + 32 * ahead
two ahead [] few all = omega arith
two ahead (t ∷ []) few all = omega (arith, tails (ahead + ahead) (t ∷ []) all)
two ahead (t ∷ u ∷ []) few all = omega (arith, tails (ahead + ahead) (t ∷ u ∷ []) all)
two ahead (t ∷ u ∷ v ∷ told) few all = absurd (omega (arith, few))

pub report_length : (report : Report) (ahead : ℕ) → IsReport report → All (Has (ahead + ahead)) report.told.items
    → length (report_bytes report) ≤ 13 + 32 * ahead
report_length report ahead is all = omega (arith, two ahead report.told.items is.told.few all)

few : (told : List Tail) → All IsTail told → All (Has (12 + 12)) told
few told all i d below = (all i d below).few

-- in the widest window
pub longest : (report : Report) → IsReport report → length (report_bytes report) ≤ 397
longest report is = report_length report 12 is (few report.told.items is.told.tails)

-- Bytes are read as one thing.

-- Bits are found again in their number.

bit_small : (b : Bool) → bit b ≤ 1
bit_small true = omega arith
bit_small false = omega arith

bits_small : (bits : List Bool) → length bits ≡ 4 → number_of bits < 16
bits_small (a ∷ b ∷ c ∷ d ∷ []) four = omega (arith, bit_small a, bit_small b, bit_small c, bit_small d)
bits_small _ four = absurd (omega arith)

same_bit : (a b : Bool) → bit a ≡ bit b → a ≡ b
same_bit a b e = grind arith

-- as many bits, of one number
same_bits : (xs ys : List Bool) → length xs ≡ length ys → number_of xs ≡ number_of ys → xs ≡ ys
same_bits [] [] long e = refl
same_bits [] (y ∷ ys) long e = absurd (omega (arith, long))
same_bits (x ∷ xs) [] long e = absurd (omega (arith, long))
same_bits (x ∷ xs) (y ∷ ys) long e =
    let sx = bit_small x in
    let sy = bit_small y in
    let one = same_bit x y (omega (arith, e, sx, sy)) in
    let others = same_bits xs ys (omega (arith, long)) (omega (arith, e, sx, sy)) in
    λ i. one i ∷ others i

-- a first byte is of one set, and of one leaving
same_first : (xs ys : List Bool) (l m : Bool) → length xs ≡ 4 → length ys ≡ 4
    → number_of xs + 128 * bit l ≡ number_of ys + 128 * bit m → (xs ≡ ys) × (l ≡ m)
same_first xs ys l m p q e = grind (arith, bits_small, bit_small, same_bits, same_bit)

-- and has no bit that means nothing
none_free : (xs : List Bool) (l : Bool) → length xs ≡ 4 → (number_of xs + 128 * bit l) / 16 % 8 ≡ 0
none_free xs l p = omega (arith, bits_small xs p, bit_small l)

-- what stands behind these players: this fault, or nothing
record Ends (before least : ℕ) (rest : List ℕ) (end : Option ReportFault) : Type 0 where
  is : fault_at before least rest ≡ end
  none : end ≡ None → rest ≡ []

-- behind so many players these can be told
record Begins (before least : ℕ) (told : List Tail) : Type 0 where
  few : before + length told ≤ 2
  order : AreInOrder least told
  tails : All IsTail told

others : (before least : ℕ) (t : Tail) (told : List Tail) → Begins before least (t ∷ told)
    → Begins (before + 1) (suc t.player) told
others before least t told begins =
    record { few = omega (arith, begins.few); order = begins.order.1; tails = All-tail IsTail t told begins.tails }

-- where a player's bytes stand, no end does
not_both : (before least : ℕ) (tail : Tail) (rest bytes : List ℕ) (end : Option ReportFault) → IsTail tail → before < 2
    → least ≤ tail.player → bytes ≡ tail_bytes tail ++ rest → Ends before least bytes end → ⊥
not_both before least tail rest bytes end is few order e ends =
    let first = clean before least (tail_bytes tail ++ rest) (stands before least tail rest is few order) in
    let nothing = ends.none (sym ends.is ∙ ap (fault_at before least) e ∙ first) in
    let long : length bytes ≡ length (tail_bytes tail ++ rest) = ap (length {A = ℕ}) e in
    let short : length bytes ≡ 0 = ap (length {A = ℕ}) nothing in
    absurd (omega (arith, long, short))

-- players, and what stands behind theirs, are found again in the bytes
once : (before least : ℕ) (a b : List Tail) (r s : List ℕ) (o p : Option ReportFault)
    → Begins before least a → Begins before least b → flat_map tail_bytes a ++ r ≡ flat_map tail_bytes b ++ s
    → (n m : ℕ) → n ≡ before + length a → m ≡ before + length b
    → Ends n (next_after least a) r o → Ends m (next_after least b) s p → (a ≡ b) × (o ≡ p)
once before least [] [] r s o p ha hb e n m hn hm x y = grind arith
once before least [] (u ∷ b) r s o p ha hb e n m hn hm x y =
    absurd (not_both n least u (flat_map tail_bytes b ++ s) r o (All-head IsTail u b hb.tails)
    (omega (arith, hn, hb.few)) hb.order.0 (e ∙ append_assoc (tail_bytes u) (flat_map tail_bytes b) s) x)
once before least (t ∷ a) [] r s o p ha hb e n m hn hm x y =
    absurd (not_both m least t (flat_map tail_bytes a ++ r) s p (All-head IsTail t a ha.tails)
    (omega (arith, hm, ha.few)) ha.order.0 (sym e ∙ append_assoc (tail_bytes t) (flat_map tail_bytes a) r) y)
once before least (t ∷ a) (u ∷ b) r s o p ha hb e n m hn hm x y =
    let one = same_tail t u (flat_map tail_bytes a ++ r) (flat_map tail_bytes b ++ s) (All-head IsTail t a ha.tails)
    (All-head IsTail u b hb.tails) (sym (append_assoc (tail_bytes t) (flat_map tail_bytes a) r) ∙ e
    ∙ append_assoc (tail_bytes u) (flat_map tail_bytes b) s) in
    let same : u ≡ t = sym one.0 in
    let more = subst (λ (v : Tail). Begins (before + 1) (suc v.player) b) same (others before least u b hb) in
    let end = subst (λ (v : Tail). Ends m (next_after (suc v.player) b) s p) same y in
    let rest = once (before + 1) (suc t.player) a b r s o p (others before least t a ha) more one.1 n m
    (omega (arith, hn)) (omega (arith, hm)) x end in
    (λ i. one.0 i ∷ rest.0 i, rest.1)

begin : (told : List Tail) → AreTold told → Begins 0 0 told
begin told are = record { few = omega (arith, are.few); order = are.order; tails = are.tails }

nothing : (before least : ℕ) → Ends before least [] None
unfolding fault_at
nothing before least = record { is = refl; none = λ e. refl }

fault : (before least : ℕ) (rest : List ℕ) (f : ReportFault) → fault_at before least rest ≡ Some f
    → Ends before least rest (Some f)
fault before least rest f is = record { is = is; none = λ e. absurd (none-some f (sym e)) }

same_told : (a b : List Tail) → AreTold a → AreTold b → flat_map tail_bytes a ≡ flat_map tail_bytes b → a ≡ b
same_told a b ha hb e =
    (once 0 0 a b [] [] None None (begin a ha) (begin b hb)
    (append-nil (flat_map tail_bytes a) ∙ e ∙ sym (append-nil (flat_map tail_bytes b))) (length a) (length b)
    (omega arith) (omega arith) (nothing _ _) (nothing _ _)).0

-- each report has its own bytes
pub same_report : (p q : Report) → IsReport p → IsReport q → report_bytes p ≡ report_bytes q → p ≡ q
same_report p q hp hq e =
    let first : first_byte p ≡ first_byte q = cc in
    let behind : flat_map tail_bytes p.told.items ≡ flat_map tail_bytes q.told.items = cc in
    let bits = same_first p.gone q.gone p.left q.left hp.four hq.four first in
    let told = same_told p.told.items q.told.items hp.told hq.told behind in
    λ i. record { gone = bits.0 i; left = bits.1 i; told = record { items = told i } }

-- a report's bytes have no fault
no_first : (p : Report) → IsReport p → first_fault (report_bytes p) ≡ None
no_first p is = grind (arith, ne_eqb, eq-eqb, none_free)

no_fault : (p : Report) (f : ReportFault) → IsReport p → HasFault (flat_map tail_bytes p.told.items) f → ⊥
no_fault p f is (told, rest, are, e, has) =
    none-some f (once 0 0 p.told.items told [] rest None (Some f) (begin p.told.items is.told) (begin told are)
    (append-nil (flat_map tail_bytes p.told.items) ∙ e) (length p.told.items) (length told) (omega arith) (omega arith) (nothing _ _)
    (fault _ _ rest f has)).1

same_fault : (bytes : List ℕ) (f g : ReportFault) → HasFault bytes f → HasFault bytes g → f ≡ g
same_fault bytes f g (a, r, ha, d, hf) (b, s, hb, e, hg) =
    same_Some f g (once 0 0 a b r s (Some f) (Some g) (begin a ha) (begin b hb) (sym d ∙ e) (length a) (length b)
    (omega arith) (omega arith) (fault _ _ r f hf) (fault _ _ s g hg)).1

not_both_ways : (bytes : List ℕ) (p : Report) (f : ReportFault) → IsReadAs bytes (Ok p) → IsReadAs bytes (Err f) → ⊥
not_both_ways bytes p f (is, e) (inl first) = none-some f (sym (no_first p is) ∙ ap first_fault (sym e) ∙ first)
not_both_ways bytes p f (is, e) (inr (none, has)) =
    no_fault p f is (subst (λ (bs : List ℕ). HasFault (drop 1 bs) f) e has)

-- bytes are read as one thing
pub one_reading : (bytes : List ℕ) (a b : Result Report ReportFault) → IsReadAs bytes a → IsReadAs bytes b → a ≡ b
one_reading bytes (Ok p) (Ok q) x y = ap Ok (same_report p q x.0 y.0 (sym x.1 ∙ y.1))
one_reading bytes (Ok p) (Err g) x y = absurd (not_both_ways bytes p g x y)
one_reading bytes (Err f) (Ok q) x y = absurd (not_both_ways bytes q f y x)
one_reading bytes (Err f) (Err g) (inl x) (inl y) = ap Err (same_Some f g (sym x ∙ y))
one_reading bytes (Err f) (Err g) (inl x) (inr y) = absurd (none-some f (sym y.0 ∙ x))
one_reading bytes (Err f) (Err g) (inr x) (inl y) = absurd (none-some g (sym x.0 ∙ y))
one_reading bytes (Err f) (Err g) (inr x) (inr y) = ap Err (same_fault (drop 1 bytes) f g x.1 y.1)
