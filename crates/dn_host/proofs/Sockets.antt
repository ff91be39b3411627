-- The parts of an address of a socket.
use Rattle.std.proofs.Common.{◌≡◌, ℕ, Bool, true, false, zero, suc, ◌+◌, ◌-◌, ◌*◌, ◌/◌, ◌%◌, ◌<◌, List, [], ◌∷◌, ◌++◌, length, take, drop, refl, sym, ap, ◌∙◌, subst, arith, get_or, replicate, length-append}
use Rattle.std.proofs.Math.Seq.{take-append_seam, drop-append_seam}
use Rattle.std.specs.{Prelude.if◌then◌else◌, Net.Addr.octets_of, Net.Addr.segments_of}
use Rattle.dn_host.specs.Addresses.{mapped}

-- a list in three parts
pub take_first : (n : ℕ) (xs ys : List ℕ) → length xs ≡ n → take n (xs ++ ys) ≡ xs
take_first n xs ys long = subst (λ (n : ℕ). take n (xs ++ ys) ≡ xs) long (take-append_seam xs ys)

pub drop_first : (n : ℕ) (xs ys : List ℕ) → length xs ≡ n → drop n (xs ++ ys) ≡ ys
drop_first n xs ys long = subst (λ (n : ℕ). drop n (xs ++ ys) ≡ ys) long (drop-append_seam xs ys)

-- the address and the port are put in
pub put_in : (ip port : List ℕ) → length ip ≡ 16 → length port ≡ 2
    → take 16 (ip ++ replicate 16 0) ++ (port ++ drop 2 (drop 16 (ip ++ replicate 16 0)))
    ≡ ip ++ (port ++ replicate 14 0)
put_in ip port long two = λ i.
    take_first 16 ip (replicate 16 0) long i ++ (port ++ drop 2 (drop_first 16 ip (replicate 16 0) long i))

-- an address of 32 bytes is joined of its parts
pub joined : (bytes ip port : List ℕ) → length bytes ≡ 32 → length port ≡ 2
    → bytes ≡ ip ++ (port ++ replicate 14 0)
    → take 16 bytes ++ (take 2 (drop 16 bytes) ++ replicate 14 0) ≡ bytes
joined bytes ip port long two is =
    let whole : length (ip ++ (port ++ replicate 14 0)) ≡ 32 = sym (ap (λ (b : List ℕ). length b) is) ∙ long in
    let sixteen : length ip ≡ 16 = omega (
      arith,
      length-append ip (port ++ replicate 14 0),
      length-append port (replicate 14 0),
      whole,
      two,
    ) in
    let front : take 16 bytes ≡ ip = ap (λ (b : List ℕ). take 16 b) is ∙ take_first 16 ip _ sixteen in
    let back : drop 16 bytes ≡ port ++ replicate 14 0 = ap (λ (b : List ℕ). drop 16 b) is ∙ drop_first 16 ip _ sixteen in
    let middle : take 2 (drop 16 bytes) ≡ port =
    ap (λ (b : List ℕ). take 2 b) back ∙ take_first 2 port _ two in
    (λ i. front i ++ (middle i ++ replicate 14 0)) ∙ sym is

-- the octets of segments
pub octets_again : (n : ℕ) (xs : List ℕ) → length xs ≡ 2 * n → ((k : ℕ) → get_or xs k 0 < 256)
    → octets_of (segments_of xs) ≡ xs
octets_again n [] even small = refl
octets_again n (a ∷ []) even small = absurd (omega arith)
octets_again n (a ∷ b ∷ xs) even small =
    let low : b < 256 = small 1 in
    let high : (a * 256 + b) / 256 ≡ a = omega arith in
    let rest : (a * 256 + b) % 256 ≡ b = omega arith in
    λ i. high i ∷ rest i ∷ octets_again (n - 1) xs (omega arith) (λ k. small (suc (suc k))) i

-- bytes stay bytes
pub small_take : (n : ℕ) (xs : List ℕ) → ((i : ℕ) → get_or xs i 0 < 256)
    → (i : ℕ) → get_or (take n xs) i 0 < 256
small_take zero xs small i = omega arith
small_take (suc n) [] small i = omega arith
small_take (suc n) (x ∷ xs) small zero = small 0
small_take (suc n) (x ∷ xs) small (suc i) = small_take n xs (λ k. small (suc k)) i

pub small_drop : (n : ℕ) (xs : List ℕ) → ((i : ℕ) → get_or xs i 0 < 256)
    → (i : ℕ) → get_or (drop n xs) i 0 < 256
small_drop zero xs small = small
small_drop (suc n) [] small = small
small_drop (suc n) (x ∷ xs) small = small_drop n xs (λ k. small (suc k))

-- the IP address for a wide socket
pub wide_is : (wide : Bool) (bytes : List ℕ) → wide ≡ true
    → (if wide then take 16 bytes else mapped (take 4 (drop 12 bytes))) ≡ take 16 bytes
wide_is true bytes is = refl
wide_is false bytes is = absurd (cc)
