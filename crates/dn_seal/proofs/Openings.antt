-- Every list of bytes is opened as one thing, and what passes all tests is an envelope.
use Rattle.std.proofs.Common.{◌≡◌, ◌≢◌, ◌⊎◌, ◌<◌, ◌≤◌, ◌+◌, ◌-◌, ◌^◌, ℕ, zero, suc, List, [], ◌∷◌, ◌++◌, length, take, drop, get_or, refl, ap, sym, ◌∙◌, arith, Option, Some, None, Result, Ok, Err, inl, inr, All}
use Rattle.std.proofs.lemmas.{Bool.{eq-eqb, ne_eqb, cases_eq, cases_lt, cases_Bool}, List.{take-append-drop, take-take, length-take-le, length-drop, get_or-drop, get_or_past, length-take}, Nat.le_bytes_4, Option.same_Some}
use Rattle.std.proofs.lemmas.{List.Elements.All-get_or, Slice.Eq.bytes_eq-Decides}
use Rattle.std.specs.{Prelude.{slice_index, IfSome, ◌==◌, ◌&&◌, if◌then◌else◌}, Int.{w32, to_le_bytes, from_le_bytes}}
use Rattle.std.specs.Str.{bytes_eq}
use Rattle.dn_seal.specs.{declared.opened.Opened.Opened, declared.opened.SealFault.SealFault, declared.opened.SealFault.TheVariants.{Short, Long, Suite, Kind, Game, Receiver, Tag, Request}, Hmac.{tag_of, suite_byte}}
use Rattle.dn_seal.specs.{Envelope.{ask_bytes, head_bytes, body_bytes, envelope}, Opening.{Sealing, envelopes, letter_to, IsOpenedAs, IsSized, IsFor, IsTagged, told_game, told_body, told_tag, told_tic, ask_in, IsOfSuite, IsOfKind, IsOfGame}}
use Rattle.dn_seal.proofs.Envelopes.{length-envelope, body-envelope, tag-envelope, datagram-envelope, game-envelope, from-envelope, to-envelope, start-envelope, ask-envelope}

module _ (s : Sealing) (bytes : List ℕ) (o : Opened) (is : IsOpenedAs s bytes (Ok o)) where
  -- what is read off an envelope is read off its bytes
  off : {A : Type 0} (f : List ℕ → A) (a : A) → f (envelope s.seal.key (letter_to s o)) ≡ a → f bytes ≡ a
  off f a e = ap f is.1 ∙ e

  len : length bytes ≡ 37 + length o.datagram.items
  len = off length _ (length-envelope s.seal.key (letter_to s o) is.0.game)

  pub opened-tagged : IsTagged envelopes s bytes
  opened-tagged =
      let short = is.0.datagram in
      let body = off told_body _ (body-envelope s.seal.key (letter_to s o) is.0.game) in
      let tag = off told_tag _ (tag-envelope s.seal.key (letter_to s o) is.0.game) in (
        (
          (
            (
              ((omega (arith, len), omega (arith, len, short)), off (λ xs. slice_index xs 0) _ refl),
              off (λ xs. slice_index xs 1) 1 refl,
            ),
            off told_game _ (game-envelope s.seal.key (letter_to s o) is.0.game),
          ),
          off (λ xs. slice_index xs 11) _ (to-envelope s.seal.key (letter_to s o) is.0.game),
        ),
        tag ∙ ap (tag_of s.seal.key) (sym body),
      )

  pub opened-ask : ask_in (slice_index bytes 16) (told_tic bytes) ≡ Some o.ask
  opened-ask = off (λ xs. ask_in (slice_index xs 16) (told_tic xs)) _
      (ask-envelope s.seal.key (letter_to s o) is.0.game is.0.ask)

  pub opened-from : slice_index bytes 10 ≡ o.from
  opened-from = off (λ xs. slice_index xs 10) _ (from-envelope s.seal.key (letter_to s o) is.0.game)

  pub opened-start : from_le_bytes w32 (take 4 (drop 12 bytes)) ≡ o.start
  opened-start = off (λ xs. from_le_bytes w32 (take 4 (drop 12 xs))) _
      (start-envelope s.seal.key (letter_to s o) is.0.game is.0.start)

  pub opened-datagram : drop 21 (told_body bytes) ≡ o.datagram.items
  opened-datagram = off (λ xs. drop 21 (told_body xs)) _
      (datagram-envelope s.seal.key (letter_to s o) is.0.game)

module _ (s : Sealing) (bytes : List ℕ) where
  -- bytes are too short, or too long, and have that fault alone, or pass the test of their number
  abbrev IsByLength : Result Opened SealFault → Type 0
  IsByLength read =
      ((length bytes < 37) × (Err Short ≡ read)) ⊎ (((141 < length bytes) × (Err Long ≡ read)) ⊎ IsSized envelopes bytes)

  by_length : (read : Result Opened SealFault) → IsOpenedAs s bytes read → IsByLength read
  by_length (Ok o) h = inr (inr (opened-tagged s bytes o h).0.0.0.0.0)
  by_length (Err Short) h = inl (h, refl)
  by_length (Err Long) h = inr (inl (h, refl))
  by_length (Err Suite) h = inr (inr h.0)
  by_length (Err Kind) h = inr (inr h.0.0)
  by_length (Err Game) h = inr (inr h.0.0.0)
  by_length (Err Receiver) h = inr (inr h.0.0.0.0)
  by_length (Err Tag) h = inr (inr h.0.0.0.0.0)
  by_length (Err Request) h = inr (inr h.0.0.0.0.0.0)

  pub only_short : length bytes < 37 → (read : Result Opened SealFault) → IsOpenedAs s bytes read
      → Err Short ≡ read
  only_short few read h = grind (arith, by_length)

  pub only_long : 141 < length bytes → (read : Result Opened SealFault) → IsOpenedAs s bytes read
      → Err Long ≡ read
  only_long many read h = grind (arith, by_length)

  -- nor have those whose tag is wrong
  pub only_tag : IsFor envelopes s bytes → told_tag bytes ≢ tag_of s.seal.key (told_body bytes)
      → (read : Result Opened SealFault) → IsOpenedAs s bytes read → Err Tag ≡ read
  only_tag for wrong (Ok o) h = absurd (wrong (opened-tagged s bytes o h).1)
  only_tag for wrong (Err Short) h = absurd (let t = for.0.0.0.0.0 in omega arith)
  only_tag for wrong (Err Long) h = absurd (let t = for.0.0.0.0.1 in omega arith)
  only_tag for wrong (Err Suite) h = absurd (h.1 for.0.0.0.1)
  only_tag for wrong (Err Kind) h = absurd (h.1 for.0.0.1)
  only_tag for wrong (Err Game) h = absurd (h.1 for.0.1)
  only_tag for wrong (Err Receiver) h = absurd (h.1 for.1)
  only_tag for wrong (Err Tag) h = refl
  only_tag for wrong (Err Request) h = absurd (wrong h.0.1)

  -- an envelope is opened as one letter, and has no fault
  pub only_opened : (o : Opened) → IsOpenedAs s bytes (Ok o) → (read : Result Opened SealFault)
      → IsOpenedAs s bytes read → Ok o ≡ read
  only_opened o is (Ok p) h =
      let from = sym (opened-from s bytes o is) ∙ opened-from s bytes p h in
      let start = sym (opened-start s bytes o is) ∙ opened-start s bytes p h in
      let ask = same_Some o.ask p.ask (sym (opened-ask s bytes o is) ∙ opened-ask s bytes p h) in
      let items = sym (opened-datagram s bytes o is) ∙ opened-datagram s bytes p h in
      λ i. Ok (record { from = from i; start = start i; ask = ask i; datagram = record { items = items i } })
  only_opened o is (Err Short) h = absurd (let t = (opened-tagged s bytes o is).0.0.0.0.0.0 in omega arith)
  only_opened o is (Err Long) h = absurd (let t = (opened-tagged s bytes o is).0.0.0.0.0.1 in omega arith)
  only_opened o is (Err Suite) h = absurd (h.1 (opened-tagged s bytes o is).0.0.0.0.1)
  only_opened o is (Err Kind) h = absurd (h.1 (opened-tagged s bytes o is).0.0.0.1)
  only_opened o is (Err Game) h = absurd (h.1 (opened-tagged s bytes o is).0.0.1)
  only_opened o is (Err Receiver) h = absurd (h.1 (opened-tagged s bytes o is).0.1)
  only_opened o is (Err Tag) h = absurd (h.1 (opened-tagged s bytes o is).1)
  only_opened o is (Err Request) h = absurd (let e = sym (opened-ask s bytes o is) ∙ h.1 in cc)

-- four bytes
four_fit : (a b c d : ℕ) → a < 256 → b < 256 → c < 256 → d < 256 → (i : ℕ)
    → get_or (a ∷ b ∷ c ∷ d ∷ []) i 0 < 256
four_fit a b c d ha hb hc hd zero = ha
four_fit a b c d ha hb hc hd (suc zero) = hb
four_fit a b c d ha hb hc hd (suc (suc zero)) = hc
four_fit a b c d ha hb hc hd (suc (suc (suc zero))) = hd
four_fit a b c d ha hb hc hd (suc (suc (suc (suc i)))) = omega arith

pub four_bytes : (a b c d n : ℕ) → a < 256 → b < 256 → c < 256 → d < 256
    → n ≡ from_le_bytes w32 (a ∷ b ∷ c ∷ d ∷ []) → a ∷ b ∷ c ∷ d ∷ [] ≡ to_le_bytes w32 n
four_bytes a b c d n ha hb hc hd e =
    sym (le_bytes_4 (a ∷ b ∷ c ∷ d ∷ []) n refl (four_fit a b c d ha hb hc hd) e)

-- the bytes of no request
no_request : (q a b c d : ℕ) (ask : Option ℕ)
    → (if q == 0 && from_le_bytes w32 (a ∷ b ∷ c ∷ d ∷ []) == 0 then Some None else None) ≡ Some ask
    → q ∷ a ∷ b ∷ c ∷ d ∷ [] ≡ ask_bytes ask
no_request q a b c d ask e = grind (arith, off, eq-eqb, same_Some, ne_eqb)

-- the bytes of a request that was read
pub ask_is : (q a b c d : ℕ) (ask : Option ℕ) → a < 256 → b < 256 → c < 256 → d < 256
    → ask_in q (from_le_bytes w32 (a ∷ b ∷ c ∷ d ∷ [])) ≡ Some ask → q ∷ a ∷ b ∷ c ∷ d ∷ [] ≡ ask_bytes ask
ask_is q a b c d ask ha hb hc hd e = grind (arith, eq-eqb, same_Some, four_bytes, off, ne_eqb, no_request)

-- the 21 bytes in front, by what was read of them
head_is : (bytes : List ℕ) (s : Sealing) (o : Opened) → ((i : ℕ) → get_or bytes i 0 < 256) → 21 ≤ length bytes
    → slice_index bytes 0 ≡ suite_byte s.seal.suite → slice_index bytes 1 ≡ 1
    → told_game bytes ≡ take 8 s.seal.game → slice_index bytes 10 ≡ o.from
    → slice_index bytes 11 ≡ s.me → o.start ≡ from_le_bytes w32 (take 4 (drop 12 bytes))
    → ask_in (slice_index bytes 16) (told_tic bytes) ≡ Some o.ask
    → take 21 bytes ≡ head_bytes (letter_to s o)
head_is (v ∷ k ∷ g0 ∷ g1 ∷ g2 ∷ g3 ∷ g4 ∷ g5 ∷ g6 ∷ g7 ∷ f ∷ t ∷ s0 ∷ s1 ∷ s2 ∷ s3 ∷ q ∷ a ∷ b ∷ c ∷ d ∷ rest) s o
    fits long suite kind game from to start ask =
    let starts = four_bytes s0 s1 s2 s3 o.start (fits 12) (fits 13) (fits 14) (fits 15) start in
    let asks = ask_is q a b c d o.ask (fits 17) (fits 18) (fits 19) (fits 20) ask in
    λ i. (suite i ∷ kind i ∷ []) ++ game i ++ (from i ∷ to i ∷ []) ++ starts i ++ asks i
head_is _ s o fits long suite kind game from to start ask = absurd (omega arith)

-- what passes all tests is an envelope
pub assembled : (bytes : List ℕ) (s : Sealing) (o : Opened) → ((i : ℕ) → get_or bytes i 0 < 256)
    → IsTagged envelopes s bytes → slice_index bytes 10 ≡ o.from → o.start ≡ from_le_bytes w32 (take 4 (drop 12 bytes))
    → ask_in (slice_index bytes 16) (told_tic bytes) ≡ Some o.ask
    → o.datagram.items ≡ drop 21 (told_body bytes) → bytes ≡ envelope s.seal.key (letter_to s o)
assembled bytes s o fits tests from start ask datagram =
    let long = tests.0.0.0.0.0.0 in
    let head = head_is bytes s o fits (omega arith) tests.0.0.0.0.1 tests.0.0.0.1 tests.0.0.1 from tests.0.1 start
    ask in
    let front : take 21 (told_body bytes) ≡ head_bytes (letter_to s o) =
    take-take 21 (length bytes - 16) bytes (omega arith) ∙ head in
    let body : told_body bytes ≡ body_bytes (letter_to s o) =
    sym (take-append-drop 21 (told_body bytes)) ∙ (λ i. front i ++ sym datagram i) in
    let tag : told_tag bytes ≡ tag_of s.seal.key (body_bytes (letter_to s o)) =
    tests.1 ∙ ap (tag_of s.seal.key) body in
    sym (take-append-drop (length bytes - 16) bytes) ∙ (λ i. body i ++ tag i)

-- a request that was read of four bytes fits into four
pub asked-small : (flag tic : ℕ) (ask : Option ℕ) → tic < 2 ^ 32 → ask_in flag tic ≡ Some ask
    → IfSome ask (λ t. t < 2 ^ 32)
asked-small flag tic None small e = tt
asked-small flag tic (Some t) small e = grind (arith, eq-eqb, same_Some, off, ne_eqb)

-- a datagram in an envelope is not too long
pub datagram-short : (bytes : List ℕ) → length bytes ≤ 141 → length (drop 21 (told_body bytes)) ≤ 104
datagram-short bytes short =
    let front = length-take-le (length bytes - 16) bytes (omega arith) in
    omega (arith, front, length-drop 21 (told_body bytes))

-- Every list of bytes is opened as something.

-- two lists of numbers are the same, or not
same_lists : (xs ys : List ℕ) → (xs ≡ ys) ⊎ (xs ≢ ys)
same_lists xs ys =
    let decides = bytes_eq-Decides xs ys in
    elim (cases_Bool (bytes_eq xs ys)) [
      | inl same ↦ inl (decides.0 same)
      | inr off ↦ inr (λ same. absurd (let e = sym off ∙ decides.1 same in cc))
    ]

-- four bytes make a number of 32 bits
four_small : (xs : List ℕ) → ((i : ℕ) → get_or xs i 0 < 256) → 4 ≤ length xs
    → from_le_bytes w32 (take 4 xs) < 2 ^ 32
four_small (a ∷ b ∷ c ∷ d ∷ rest) fits long =
    let ha : a < 256 = fits 0 in
    let hb : b < 256 = fits 1 in
    let hc : c < 256 = fits 2 in
    let hd : d < 256 = fits 3 in
    omega arith
four_small _ fits long = absurd (omega arith)

module _ (s : Sealing) (bytes : List ℕ) (all : All (λ byte. byte < 256) bytes) where
  fits : (i : ℕ) → get_or bytes i 0 < 256
  fits i = grind (arith, cases_lt, All-get_or, get_or_past)

  small : (i : ℕ) → i + 4 ≤ length bytes → from_le_bytes w32 (take 4 (drop i bytes)) < 2 ^ 32
  small i long = four_small (drop i bytes)
      (λ j. let same = get_or-drop i bytes j 0 in let there = fits (i + j) in omega arith)
      (let rest = length-drop i bytes in omega arith)

  -- what they are opened as
  abbrev IsSomething : Type 0
  IsSomething = (opened : Result Opened SealFault) × IsOpenedAs s bytes opened

  tagged : IsTagged envelopes s bytes → (ask : Option (Option ℕ)) → ask_in (slice_index bytes 16) (told_tic bytes) ≡ ask
      → IsSomething
  tagged tests None asked = (Err Request, (tests, asked))
  tagged tests (Some ask) asked =
      let long = tests.0.0.0.0.0.0 in
      let short = tests.0.0.0.0.0.1 in
      let opened : Opened = record {
        from = slice_index bytes 10;
        start = from_le_bytes w32 (take 4 (drop 12 bytes));
        ask = ask;
        datagram = record { items = drop 21 (told_body bytes) };
      } in
      let from = fits 10 in
      let to = fits 11 in
      let mine = tests.0.1 in
      let told = ap length tests.0.0.1 in
      let eight = length-take-le 8 (drop 2 bytes) (let rest = length-drop 2 bytes in omega arith) in
      let most = length-take 8 s.seal.game in (
        Ok opened,
        (
          record {
            game = omega arith;
            from = omega arith;
            to = omega arith;
            start = small 12 (omega arith);
            ask = asked-small (slice_index bytes 16) (told_tic bytes) ask (small 17 (omega arith)) asked;
            datagram = let few = datagram-short bytes short in omega arith;
          },
          assembled bytes s opened fits tests refl refl asked refl,
        ),
      )

  for_me : IsFor envelopes s bytes → IsSomething
  for_me tests = elim (same_lists (told_tag bytes) (tag_of s.seal.key (told_body bytes))) [
    | inl same ↦ tagged (tests, same) (ask_in (slice_index bytes 16) (told_tic bytes)) refl
    | inr other ↦ (Err Tag, (tests, other))
  ]

  of_game : IsOfGame envelopes s bytes → IsSomething
  of_game tests = elim (cases_eq (slice_index bytes 11) s.me) [
    | inl same ↦ for_me (tests, same)
    | inr other ↦ (Err Receiver, (tests, other))
  ]

  of_kind : IsOfKind envelopes s bytes → IsSomething
  of_kind tests = elim (same_lists (told_game bytes) (take 8 s.seal.game)) [
    | inl same ↦ of_game (tests, same)
    | inr other ↦ (Err Game, (tests, other))
  ]

  of_suite : IsOfSuite envelopes s bytes → IsSomething
  of_suite tests = elim (cases_eq (slice_index bytes 1) 1) [
    | inl same ↦ of_kind (tests, same)
    | inr other ↦ (Err Kind, (tests, other))
  ]

  sized : IsSized envelopes bytes → IsSomething
  sized tests = elim (cases_eq (slice_index bytes 0) (suite_byte s.seal.suite)) [
    | inl same ↦ of_suite (tests, same)
    | inr other ↦ (Err Suite, (tests, other))
  ]

  pub is_something : IsSomething
  is_something = elim (cases_lt (length bytes) 37) [
    | inl few ↦ (Err Short, few)
    | inr long ↦ elim (cases_lt 141 (length bytes)) [
      | inl many ↦ (Err Long, many)
      | inr short ↦ sized (long, short)
    ]
  ]
