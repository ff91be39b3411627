use Rattle.std.proofs.{Common.{◌≡◌, ◌++◌, ◌∷◌, [], ℕ, List, slice_index_or, ap, sym, ◌∙◌, arith, ◌/◌, ◌%◌, ◌^◌}, lemmas.List.take_more, lemmas.Nat.{le_or_l, le_or_r}, lemmas.Nat.Bits.{same_from_bits, bit_at_xor, bit_at-zero, bit_at-lt}}
use Rattle.std.specs.{Prelude.{bit_xor, bit_or}, Int.Bits.xor_self}
use Rattle.dn_seal.proofs.mac.is_same.Goals as goal

-- Numbers whose bits do not differ are equal.
same_bits : (a b : ℕ) → bit_xor a b ≡ 0 → a ≡ b
same_bits a b none =
    same_from_bits a b (λ i. omega (
      arith,
      sym (bit_at_xor a b i) ∙ ap (λ (n : ℕ). n / 2 ^ i % 2) none ∙ bit_at-zero i,
      bit_at-lt a i,
      bit_at-lt b i,
    ))

-- nothing in either
none_left : (a b : ℕ) → bit_or a b ≡ 0 → a ≡ 0
none_left a b none = let below = le_or_l a b in omega arith

none_right : (a b : ℕ) → bit_or a b ≡ 0 → b ≡ 0
none_right a b none = let below = le_or_r a b in omega arith

pub bytes-preserved : goal.bytes-preserved
bytes-preserved c =
    let one = c.args.one.now in
    let other = c.args.other.now in
    let i = c.bytes.i in
    let x : ℕ = slice_index_or one i 0 in
    let y : ℕ = slice_index_or other i 0 in
    let inv = c.bytes.invariant in
    record {
      same = λ none.
          let at : x ≡ y = same_bits x y
          (none_right c.bytes.differing (bit_xor x y) none) in
          let before = inv.same (none_left c.bytes.differing (bit_xor x y) none) in
          take_more one i 0 (omega arith) ∙ (λ k. before k ++ at k ∷ []) ∙ sym (take_more other i 0 (omega arith));
      none = λ all.
          let at : bit_xor x y ≡ 0 = ap (λ (xs : List ℕ). bit_xor x (slice_index_or xs i 0)) (sym all) ∙ xor_self x in
          (λ k. bit_or (inv.none all k) (at k));
    }
