-- Counts are read back, and what is read is what stands there.
use Rattle.std.proofs.Common.{◌≡◌, ◌<◌, ◌≤◌, ◌+◌, ◌^◌, ℕ, List, [], ◌∷◌, ◌++◌, length, take, drop, get_or, refl, arith, All}
use Rattle.std.proofs.lemmas.{List.{get_or-drop, Elements.{All-nil, All-cons, All-head, All-tail}}, Nat.from_le_bytes-to_le_bytes_4}
use Rattle.std.specs.Int.{w32, from_le_bytes}
use Rattle.dn_seal.proofs.Openings.{four_bytes}
use Rattle.dn_link.specs.{declared.bundle.Counts.Counts, Told.told_counts, Text.{counts_bytes, AreCounts}}

-- each number of the list is a byte
abbrev pub Fit : List ℕ → Type 0
Fit bytes = (i : ℕ) → get_or bytes i 0 < 256

pub fit_drop : (n : ℕ) (bytes : List ℕ) → Fit bytes → Fit (drop n bytes)
fit_drop n bytes fits i = omega (arith, get_or-drop n bytes i 0, fits (n + i))

pub small : (a b c d : ℕ) → a < 256 → b < 256 → c < 256 → d < 256
    → from_le_bytes w32 (a ∷ b ∷ c ∷ d ∷ []) < 2 ^ 32
small a b c d ha hb hc hd = omega arith

pub counts_back : (counts : Counts) (rest : List ℕ) → AreCounts counts
    → told_counts (counts_bytes counts ++ rest) ≡ counts
counts_back counts rest are = go counts.got are.four are.got
  where
    go : (got : List ℕ) → length got ≡ 4 → All (λ count. count < 2 ^ 32) got
        → told_counts (counts_bytes (record counts { got = got }) ++ rest) ≡ record counts { got = got }
    go (a ∷ b ∷ c ∷ d ∷ []) four all =
        let P : ℕ → Type 0 = λ count. count < 2 ^ 32 in
        let m = from_le_bytes-to_le_bytes_4 counts.made are.made in
        let r = from_le_bytes-to_le_bytes_4 counts.echo are.echo in
        let ta = All-tail P a (b ∷ c ∷ d ∷ []) all in
        let tb = All-tail P b (c ∷ d ∷ []) ta in
        let tc = All-tail P c (d ∷ []) tb in
        let pa = from_le_bytes-to_le_bytes_4 a (All-head P a (b ∷ c ∷ d ∷ []) all) in
        let pb = from_le_bytes-to_le_bytes_4 b (All-head P b (c ∷ d ∷ []) ta) in
        let pc = from_le_bytes-to_le_bytes_4 c (All-head P c (d ∷ []) tb) in
        let pd = from_le_bytes-to_le_bytes_4 d (All-head P d [] tc) in
        λ i. record { made = m i; echo = r i; got = pa i ∷ pb i ∷ pc i ∷ pd i ∷ [] }
    go _ four all = absurd (omega arith)

pub length-counts : (counts : Counts) → length counts.got ≡ 4 → length (counts_bytes counts) ≡ 24
length-counts counts four = go counts.got four
  where
    go : (got : List ℕ) → length got ≡ 4 → length (counts_bytes (record counts { got = got })) ≡ 24
    go (a ∷ b ∷ c ∷ d ∷ []) four = refl
    go _ four = absurd (omega arith)

-- twenty-four bytes are counts
pub record Counted (bytes : List ℕ) : Type 0 where
  pub are : AreCounts (told_counts bytes)
  pub spelled : take 24 bytes ≡ counts_bytes (told_counts bytes)

pub counts_is : (bytes : List ℕ) → Fit bytes → 24 ≤ length bytes → Counted bytes
counts_is (m0 ∷ m1 ∷ m2 ∷ m3 ∷ r0 ∷ r1 ∷ r2 ∷ r3 ∷ a0 ∷ a1 ∷ a2 ∷ a3 ∷ b0 ∷ b1 ∷ b2 ∷ b3 ∷ c0 ∷ c1 ∷ c2 ∷ c3 ∷ d0 ∷ d1 ∷ d2 ∷ d3 ∷ rest)
    fits long =
    let P : ℕ → Type 0 = λ count. count < 2 ^ 32 in
    let pm = four_bytes m0 m1 m2 m3 _ (fits 0) (fits 1) (fits 2) (fits 3) refl in
    let pr = four_bytes r0 r1 r2 r3 _ (fits 4) (fits 5) (fits 6) (fits 7) refl in
    let pa = four_bytes a0 a1 a2 a3 _ (fits 8) (fits 9) (fits 10) (fits 11) refl in
    let pb = four_bytes b0 b1 b2 b3 _ (fits 12) (fits 13) (fits 14) (fits 15) refl in
    let pc = four_bytes c0 c1 c2 c3 _ (fits 16) (fits 17) (fits 18) (fits 19) refl in
    let pd = four_bytes d0 d1 d2 d3 _ (fits 20) (fits 21) (fits 22) (fits 23) refl in
    let nd : ℕ = from_le_bytes w32 (d0 ∷ d1 ∷ d2 ∷ d3 ∷ []) in
    let nc : ℕ = from_le_bytes w32 (c0 ∷ c1 ∷ c2 ∷ c3 ∷ []) in
    let nb : ℕ = from_le_bytes w32 (b0 ∷ b1 ∷ b2 ∷ b3 ∷ []) in
    let sd = All-cons P _ [] (small d0 d1 d2 d3 (fits 20) (fits 21) (fits 22) (fits 23)) (All-nil P) in
    let sc = All-cons P nc (nd ∷ []) (small c0 c1 c2 c3 (fits 16) (fits 17) (fits 18) (fits 19)) sd in
    let sb = All-cons P nb (nc ∷ nd ∷ []) (small b0 b1 b2 b3 (fits 12) (fits 13) (fits 14) (fits 15)) sc in
    record {
      are = record {
        made = small m0 m1 m2 m3 (fits 0) (fits 1) (fits 2) (fits 3);
        echo = small r0 r1 r2 r3 (fits 4) (fits 5) (fits 6) (fits 7);
        four = refl;
        got = All-cons P _ (nb ∷ nc ∷ nd ∷ []) (small a0 a1 a2 a3 (fits 8) (fits 9) (fits 10) (fits 11)) sb;
      };
      spelled = λ i. pm i ++ (pr i ++ (pa i ++ (pb i ++ (pc i ++ (pd i ++ [])))));
    }
counts_is _ fits long = absurd (omega arith)
