-- What is written of a datagram, eight bytes at a time.
use Rattle.std.proofs.{Common.{◌≡◌, ◌+◌, ◌*◌, ◌/◌, ◌%◌, ◌^◌, ℕ, zero, suc, List, [], ◌∷◌, ◌++◌, length, take, drop, refl, ap, sym, ◌∙◌, arith, length-append}, Math.Nat.mod-add-mod, Math.Seq.{take-append_seam, drop-append_seam}}
use Rattle.std.proofs.{lemmas.List.{drop-drop, append_assoc}, lemmas.Grind.flat_map-append}
use Rattle.std.specs.List.{flat_map}
use Rattle.byteorder.specs.Endian.{little_number, little_bytes}
use Rattle.dn_tic.specs.{Command.command_bytes, declared.command.TicCmd.TicCmd}
use Rattle.dn_packet.specs.{declared.packet.Head.Head, declared.packet.Packet.Packet, Text.{words, weighted, sum_of, body_of, text, packet_with}, Written.{IsWritten, IsFront}}
use Rattle.dn_packet.proofs.Pairs.{low_bits}

-- the words of bytes, and of more behind whole words
words-append : (n : ℕ) (xs ys : List ℕ) → length xs ≡ 4 * n → words (xs ++ ys) ≡ words xs ++ words ys
words-append zero [] ys long = refl
words-append (suc n) (a ∷ b ∷ c ∷ d ∷ rest) ys long =
    ap (λ (ws : List ℕ). little_number 4 (a ∷ b ∷ c ∷ d ∷ []) ∷ ws) (words-append n rest ys (omega
    (arith, long)))
words-append n _ ys long = absurd (omega arith)

length-words : (n : ℕ) (xs : List ℕ) → length xs ≡ 4 * n → length (words xs) ≡ n
length-words zero [] long = refl
length-words (suc n) (a ∷ b ∷ c ∷ d ∷ rest) long = ap suc (length-words n rest (omega (arith, long)))
length-words n _ long = absurd (omega arith)

-- the sum over words, and over more behind them
weighted-append : (k : ℕ) (ws vs : List ℕ)
    → weighted k (ws ++ vs) ≡ weighted k ws + weighted (k + length ws) vs
weighted-append k [] vs = let e : k + 0 ≡ k = omega arith in rw e (omega arith)
weighted-append k (w ∷ ws) vs =
    let e : k + suc (length ws) ≡ k + 1 + length ws = omega arith in
    let rest = weighted-append (k + 1) ws vs in
    rw e (omega (arith, rest))

-- eight more bytes, and the sum with their two words
module _ (start bytes old room : List ℕ) (end : ℕ) (w : IsWritten start old room end)
  where
    pub sum_more : (sum next : ℕ) → length start % 8 ≡ 0
        → sum ≡ (0x1234567 + weighted 0 (words start)) % 2 ^ 32
        → next ≡ (sum + weighted (end / 4) (words bytes)) % 2 ^ 32
        → next ≡ (0x1234567 + weighted 0 (words (start ++ bytes))) % 2 ^ 32
    sum_more sum next whole summed added =
        let n : ℕ = end / 4 in
        let r : ℕ = weighted n (words bytes) in
        let before : ℕ = 0x1234567 + weighted 0 (words start) in
        let by_four : length start ≡ 4 * n = omega (arith, whole, w.0) in
        let long = length-words n start by_four in
        let both = ap (weighted 0) (words-append n start bytes by_four)
        ∙ weighted-append 0 (words start) (words bytes) in
        let place : weighted (0 + length (words start)) (words bytes) ≡ r =
        ap (λ (k : ℕ). weighted k (words bytes)) (omega (arith, long)) in
        added ∙ ap (λ (s : ℕ). (s + r) % 2 ^ 32) summed ∙ mod-add-mod before (2 ^ 32) r
        ∙ ap (λ (x : ℕ). x % 2 ^ 32) (omega (arith, both, place))

    pub written_more : (eight : length bytes ≡ 8) (piece : List ℕ) (k : ℕ) → k ≡ 8 → piece ≡ bytes
        → IsWritten (start ++ bytes) old (take end room ++ (piece ++ drop k (drop end room))) (end + 8)
    written_more eight piece k is same =
        let rest : List ℕ = drop (length start) old in
        let long = length-append start bytes in
        let front : take end room ≡ start = (λ i. take (w.0 i) (w.1 i)) ∙ take-append_seam start rest in
        let past : drop end room ≡ rest = (λ i. drop (w.0 i) (w.1 i)) ∙ drop-append_seam start rest in
        let place : length start + 8 ≡ length (start ++ bytes) = omega (arith, long) in
        let behind : drop k (drop end room) ≡ drop (length (start ++ bytes)) old =
        (λ i. drop (is i) (past i)) ∙ drop-drop 8 (length start) old ∙ ap (λ (k : ℕ). drop k old) place in (
          omega (arith, w.0, place),
          (λ i. front i ++ (same i ++ behind i)) ∙ sym (append_assoc start bytes _),
        )

-- a packet's first eight bytes, with no flags and no sum
abbrev numbers : Head → ℕ → List ℕ
numbers head count = 0 ∷ 0 ∷ 0 ∷ 0 ∷ head.ask ∷ head.start ∷ head.player ∷ count ∷ []

-- the flags and the sum before them make the text
pub parts_written : (head : Head) (first second : List TicCmd) (flags count end size sum : ℕ)
    (old room new : List ℕ)
    → flags ≡ head.flags → count ≡ length first + length second → size ≡ end
    → IsFront ((numbers head count ++ flat_map command_bytes first) ++ flat_map command_bytes second) old room
    end sum
    → new ≡ little_bytes 4 (flags * 2 ^ 28 + sum % 2 ^ 28) ++ drop 4 room
    → IsWritten (text (packet_with head (first ++ second))) old new size
parts_written head first second flags count end size sum old room new flagged counted whole w made =
    let packet : Packet = packet_with head (first ++ second) in
    let body : List ℕ = body_of packet in
    let many : count ≡ length (first ++ second) = counted ∙ sym (length-append first second) in
    let spelled = sym (flat_map-append command_bytes first second) in
    let spread : List ℕ = (numbers head count ++ flat_map command_bytes first) ++ flat_map command_bytes
    second in
    let same : spread ≡ 0 ∷ 0 ∷ 0 ∷ 0 ∷ body =
    λ i. 0 ∷ 0 ∷ 0 ∷ 0 ∷ head.ask ∷ head.start ∷ head.player ∷ many i ∷ spelled i in
    let behind : drop 4 room ≡ body ++ drop (length (text packet)) old =
    ap (drop 4) (w.written.1 ∙ (λ i. same i ++ drop (length (same i)) old)) in
    let none : 0x1234567 + weighted 0 (words (0 ∷ 0 ∷ 0 ∷ 0 ∷ body)) ≡ 0x1234567 + weighted 1 (words body) =
    omega arith in
    let total : sum % 2 ^ 28 ≡ sum_of body =
    ap (λ (s : ℕ). s % 2 ^ 28) w.total
    ∙ low_bits (0x1234567 + weighted 0 (words spread))
    ∙ ap (λ (s : ℕ). s % 2 ^ 28) (ap (λ (bytes : List ℕ). 0x1234567 + weighted 0 (words bytes)) same
    ∙ none) in (
      whole ∙ w.written.0 ∙ ap length same,
      made ∙ (λ i. little_bytes 4 (flagged i * 2 ^ 28 + total i) ++ behind i),
    )
