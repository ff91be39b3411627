-- Filling a room by reads, and reading a key back from its text.
use Rattle.std.proofs.Common.{◌≡◌, ◌≤◌, ◌+◌, ℕ, List, ◌++◌, length, take, ap, sym, ◌∙◌, subst, ◌<◌, ◌-◌, ◌/◌, ◌%◌, [], ◌∷◌, get_or, Ok, inl, inr, false, refl, arith}
use Rattle.std.specs.Prelude.{Option, All}
use Rattle.std.specs.Io.KnownBytes.{Consumes}
use Rattle.std.proofs.KnownBytes.{Consumes-trans}
use Rattle.std.proofs.Math.Seq.{take-append-add}
use Rattle.std.proofs.lemmas.List.{take-append-le, length-take-le, length_push, get_or_push, get_or_past, take_at}
use borrow.Rule.Slice.PartMut.{put_mid}
use Rattle.std.proofs.lemmas.Bool.{cases_lt, lt-ltb, eq-eqb, ne_eqb}
use Rattle.hex.specs.Hex.{IsBytes, encode_lower, decode_of, decode_sized, lower_digits}
use Rattle.hex.proofs.HexLemmas.{length-encode_with, decode_of-encode_lower}
use Rattle.dn_program.specs.Keys.{key_text, key_read, key_of_digits, is_zeros}

-- one more read fills one more piece of the room
pub filled_more : (a b c : Option (List ℕ)) (xs ys : List ℕ) (f n k : ℕ) → f ≤ length xs → n ≤ length ys
    → Consumes a b (take f xs) → Consumes b c (take n ys) → Consumes a c (take (f + n) (put_mid f k xs ys))
filled_more a b c xs ys f n k h m p q =
    subst (λ bs. Consumes a c bs)
    (ap (λ (t : List ℕ). take f xs ++ t) (sym (take-append-le n ys _ m))
    ∙ sym (take-append-add (take f xs) (ys ++ _) n)
    ∙ ap (λ i. take (i + n) (put_mid f k xs ys)) (length-take-le f xs h))
    (Consumes-trans a b c (take f xs) (take n ys) p q)

-- 64 digits and a line end are read as the digits are
read_digits : (digits : List ℕ) → length digits ≡ 64 → key_read (digits ++ 10 ∷ []) ≡ key_of_digits digits
read_digits digits long =
    let whole = length_push digits 10 in
    let count : length (digits ++ 10 ∷ []) - 1 ≡ 64 = omega arith in
    let some = lt-ltb 0 (length (digits ++ 10 ∷ [])) (omega arith) in
    let last : get_or (digits ++ 10 ∷ []) 64 0 ≡ 10 = get_or_push digits 10 0 64 long in
    let is_end = eq-eqb (get_or (digits ++ 10 ∷ []) 64 0) 10 last in
    let front : take 64 (digits ++ 10 ∷ []) ≡ digits = take_at digits (10 ∷ []) 64 long in
    rw (count, some, is_end, front) refl

-- 64 digits are decoded into 32 bytes
sized : (digits : List ℕ) → length digits ≡ 64 → decode_sized digits 32 ≡ decode_of digits
sized digits long =
    let even = ne_eqb (length digits % 2) 1 (λ e. omega arith) in
    let half = eq-eqb (length digits / 2) 32 (omega arith) in
    rw (even, half) refl

pub read_back : (key : List ℕ) → length key ≡ 32 → IsBytes key → is_zeros key ≡ false
    → key_read (key_text key) ≡ Ok key
read_back key long bytes some =
    let digits = length-encode_with lower_digits key in
    let count : length (encode_lower key) ≡ 64 = omega arith in
    let decoded = decode_of-encode_lower key bytes in
    rw (read_digits (encode_lower key) count, sized (encode_lower key) count, decoded, some) refl

-- each place of a list of bytes has a byte, and so has each place past its end
pub bytes_of : (key : List ℕ) → All (λ byte. byte < 256) key → IsBytes key
bytes_of key bytes = λ i. elim (cases_lt i (length key)) [
  | inl below ↦ bytes i 0 below
  | inr past ↦ let none = get_or_past key i 0 past in omega arith
]
