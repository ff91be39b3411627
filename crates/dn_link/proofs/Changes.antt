-- Commands are told by differences: what is written is read back.
use Rattle.std.proofs.Common.{◌≡◌, ◌<◌, ◌≤◌, ◌+◌, ◌*◌, ◌/◌, ◌%◌, ◌^◌, ◌-◌, ◌==◌, if◌then◌else◌, ℕ, zero, suc, List, [], ◌∷◌, ◌++◌, ◌≢◌, length, take, drop, refl, ap, sym, ◌∙◌, arith, append_assoc, inl, inr, get_or}
use Rattle.std.proofs.lemmas.Bool.{cases_eq, eq-eqb, ne_eqb}
use Rattle.std.proofs.lemmas.List.{drop_more, take_more, take_more_set, drop-set-lt, length-drop, length-append, length-take-le, take-append-drop}
use Rattle.std.proofs.Math.Seq.{drop-append_seam, take-append_seam}
use Rattle.std.proofs.{Math.Pow.pow_mono, lemmas.Nat.pow_pos, Math.Nat.pow-suc, Math.ListN.set}
use Rattle.std.specs.Prelude.{slice_index}
use Rattle.dn_link.specs.Differences.{changed, change_bits, difference, differences}
use Rattle.dn_link.specs.Told.{told_changed, told_command, told_differences}

-- as many bits as bytes
pub bits_low : (before command : List ℕ) → change_bits before command < 2 ^ length before
bits_low [] command = omega arith
bits_low (b ∷ before) [] = pow_pos (length (b ∷ before))
bits_low (b ∷ before) (c ∷ command) =
    let low = bits_low before command in
    let twice : 2 ^ length (b ∷ before) ≡ 2 ^ length before * 2 = pow-suc 2 (length before) in
    elim (cases_eq c b) [
      | inl same ↦ let on = eq-eqb c b same in rw on (omega (arith, low, twice))
      | inr other ↦ let off = ne_eqb c b other in rw off (omega (arith, low, twice))
    ]

-- before its last, a byte has room for one more bit
pub bits_few : (before command : List ℕ) (bits done : ℕ) → length before ≡ 8 → done < 8
    → bits ≡ change_bits (drop (8 - done) before) (drop (8 - done) command) → 2 * bits + 1 < 256
bits_few before command bits done eight few is =
    let left = length-drop (8 - done) before in
    let low = bits_low (drop (8 - done) before) (drop (8 - done) command) in
    let most = pow_mono {i = length (drop (8 - done) before)} {j = 7} (omega (arith, left, eight, few)) in
    omega (arith, low, most, is)

-- a command is read back
even : (bits : ℕ) → (0 + 2 * bits) % 2 ≡ 0
even bits = omega arith

odd : (bits : ℕ) → (1 + 2 * bits) % 2 ≡ 1
odd bits = omega arith

half_even : (bits : ℕ) → (0 + 2 * bits) / 2 ≡ bits
half_even bits = omega arith

half_odd : (bits : ℕ) → (1 + 2 * bits) / 2 ≡ bits
half_odd bits = omega arith

pub changed_back : (before command rest : List ℕ) → length command ≡ length before
    → told_changed (change_bits before command) before (changed before command ++ rest) ≡ command
changed_back [] [] rest same = refl
changed_back [] (c ∷ command) rest same = absurd (omega (arith, same))
changed_back (b ∷ before) [] rest same = absurd (omega (arith, same))
changed_back (b ∷ before) (c ∷ command) rest same =
    let back = changed_back before command rest (omega (arith, same)) in
    let bits : ℕ = change_bits before command in
    elim (cases_eq c b) [
      | inl equal ↦ let on = eq-eqb c b equal in
          rw (on, even bits, half_even bits) (λ i. sym equal i ∷ back i)
      | inr other ↦ let off = ne_eqb c b other in
          rw (off, odd bits, half_odd bits) (λ i. c ∷ back i)
    ]

pub difference_back : (before command rest : List ℕ) → length command ≡ length before
    → told_command before (difference before command ++ rest) ≡ command
difference_back before command rest same = changed_back before command rest same

-- commands are read back
pub differences_back : (n : ℕ) (before commands rest : List ℕ) → length before ≡ 8 → length commands ≡ 8 * n
    → told_differences n before (differences n before commands ++ rest) ≡ commands
differences_back zero before [] rest eight long = refl
differences_back zero before (c ∷ commands) rest eight long = absurd (omega (arith, long))
differences_back (suc n) before commands rest eight long =
    let first : List ℕ = take 8 commands in
    let one : List ℕ = difference before first in
    let more : List ℕ = differences n first (drop 8 commands) ++ rest in
    let size = length-take-le 8 commands (omega (arith, long)) in
    let left = length-drop 8 commands in
    let back = difference_back before first more (size ∙ sym eight) in
    let others = differences_back n first (drop 8 commands) rest size (omega (arith, long, left)) in
    ap (told_differences (suc n) before) (append_assoc one (differences n first (drop 8 commands)) rest)
    ∙ (λ i. back i ++ told_differences n (back i) (drop (length (difference before (back i))) (one ++ more)))
    ∙ ap (λ (xs : List ℕ). first ++ told_differences n first xs) (drop-append_seam one more)
    ∙ ap (λ (xs : List ℕ). first ++ xs) others ∙ take-append-drop 8 commands

-- eight bytes a command
pub length-changed : (bits : ℕ) (before bytes : List ℕ) → length (told_changed bits before bytes) ≡ length before
length-changed bits [] bytes = refl
length-changed bits (b ∷ before) bytes = elim (cases_eq (bits % 2) 0) [
  | inl equal ↦ let on = eq-eqb (bits % 2) 0 equal in
      rw on (ap suc (length-changed (bits / 2) before bytes))
  | inr other ↦ let off = ne_eqb (bits % 2) 0 other in
      rw off (ap suc (length-changed (bits / 2) before (drop 1 bytes)))
]

pub length-told : (n : ℕ) (before bytes : List ℕ) → length before ≡ 8
    → length (told_differences n before bytes) ≡ 8 * n
length-told zero before bytes eight = refl
length-told (suc n) before bytes eight =
    let one : List ℕ = told_command before bytes in
    let rest : List ℕ = drop (length (difference before one)) bytes in
    let size = length-changed (slice_index bytes 0) before (drop 1 bytes) in
    let both = length-append one (told_differences n one rest) in
    omega (arith, both, size, eight, length-told n one rest (size ∙ eight))

-- Reading and writing, step by step.

-- one more byte of a command is read
module _ (command rest whole : List ℕ) (bits place : ℕ) (low : place < length command)
    (so : take place command ++ told_changed bits (drop place command) rest ≡ whole) where
  abbrev byte : ℕ
  byte = get_or command place 0

  abbrev behind : List ℕ
  behind = drop (place + 1) command

  unsaid : bits % 2 ≡ 0 → told_changed bits (byte ∷ behind) rest ≡ byte ∷ told_changed (bits / 2) behind rest
  unsaid none = let on = eq-eqb (bits % 2) 0 none in rw on refl

  said : bits % 2 ≢ 0
      → told_changed bits (byte ∷ behind) rest ≡ get_or rest 0 0 ∷ told_changed (bits / 2) behind (drop 1 rest)
  said some = let off = ne_eqb (bits % 2) 0 some in rw off refl

  pub same_byte : bits % 2 ≡ 0
      → take (place + 1) command ++ told_changed (bits / 2) (drop (place + 1) command) rest ≡ whole
  same_byte none =
      ap (λ (xs : List ℕ). xs ++ told_changed (bits / 2) behind rest) (take_more command place 0 low)
      ∙ append_assoc (take place command) (byte ∷ []) (told_changed (bits / 2) behind rest)
      ∙ ap (λ (xs : List ℕ). take place command ++ xs) (sym (unsaid none))
      ∙ ap (λ (xs : List ℕ). take place command ++ told_changed bits xs rest) (sym (drop_more command place 0 low))
      ∙ so

  pub other_byte : bits % 2 ≢ 0 → take (place + 1) (set command place (get_or rest 0 0))
      ++ told_changed (bits / 2) (drop (place + 1) (set command place (get_or rest 0 0))) (drop 1 rest) ≡ whole
  other_byte some =
      let new : ℕ = get_or rest 0 0 in
      let others : drop (place + 1) (set command place new) ≡ behind =
      drop-set-lt (place + 1) command place new (omega arith) in
      (λ i. take_more_set command place new low i ++ told_changed (bits / 2) (others i) (drop 1 rest))
      ∙ append_assoc (take place command) (new ∷ []) (told_changed (bits / 2) behind (drop 1 rest))
      ∙ ap (λ (xs : List ℕ). take place command ++ xs) (sym (said some))
      ∙ ap (λ (xs : List ℕ). take place command ++ told_changed bits xs rest) (sym (drop_more command place 0 low))
      ∙ so

-- and the last
pub command_read : (command rest whole : List ℕ) (bits : ℕ) → length command ≡ 8
    → take 8 command ++ told_changed bits (drop 8 command) rest ≡ whole → command ≡ whole
command_read (a ∷ b ∷ c ∷ d ∷ e ∷ f ∷ g ∷ h ∷ []) rest whole bits eight so = so
command_read _ rest whole bits eight so = absurd (omega arith)

-- one more command is read
pub commands_read : (commands before rest whole : List ℕ) (count done : ℕ) → done < count
    → commands ++ told_differences (count - done) before rest ≡ whole
    → (commands ++ told_command before rest) ++ told_differences (count - (done + 1)) (told_command before rest)
    (drop (length (difference before (told_command before rest))) rest) ≡ whole
commands_read commands before rest whole count done low so =
    let one : List ℕ = told_command before rest in
    let left : count - done ≡ suc (count - (done + 1)) = omega (arith, low) in
    append_assoc commands one (told_differences (count - (done + 1)) one (drop (length (difference before one)) rest))
    ∙ ap (λ (n : ℕ). commands ++ told_differences n before rest) (sym left) ∙ so

-- one more command is written
pub commands_written : (bytes before rest command after whole : List ℕ) → length command ≡ 8
    → rest ≡ command ++ after → bytes ++ differences (length rest / 8) before rest ≡ whole
    → (bytes ++ difference before command) ++ differences (length after / 8) command after ≡ whole
commands_written bytes before rest command after whole eight split so =
    let size = ap (length {A = ℕ}) split in
    let both = length-append command after in
    let count : length rest / 8 ≡ suc (length after / 8) = omega (arith, size, both, eight) in
    let first : take 8 rest ≡ command =
    (λ i. take (sym eight i) (split i)) ∙ take-append_seam command after in
    let others : drop 8 rest ≡ after =
    (λ i. drop (sym eight i) (split i)) ∙ drop-append_seam command after in
    append_assoc bytes (difference before command) (differences (length after / 8) command after)
    ∙ (λ i. bytes ++ (difference before (sym first i) ++ differences (length after / 8) (sym first i) (sym others i)))
    ∙ ap (λ (n : ℕ). bytes ++ differences n before rest) (sym count) ∙ so
