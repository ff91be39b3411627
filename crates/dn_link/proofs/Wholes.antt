-- A bundle is read back, and what is read is what stands there, one part after the other. So bytes are read
-- as one thing.
use Rattle.std.proofs.Common.{◌≡◌, ◌<◌, ◌≤◌, ◌+◌, ◌^◌, ℕ, List, [], ◌∷◌, ◌++◌, length, take, drop, refl, ap, sym, ◌∙◌, subst, arith, append_assoc, Option, Some, None, All, inl, inr, w8, ℤ, to_z, of_z, zero, suc, get_or, append-nil, ◌≢◌, ◌-◌, Result, Ok, Err}
use Rattle.std.proofs.lemmas.{List.{take-append-drop, length-drop, drop-drop, length-append, length-take-le, length-take, take-take, get_or-take, get_or_past}, Bool.{cases_lt, lt-ltb, le-ltb}}
use Rattle.std.proofs.lemmas.{Int.{to_z-of_z, of_z-to_z}, Nat.{from_le_bytes-to_le_bytes_2, from_le_bytes-to_le_bytes_4, le_bytes_2}, Option.{same_Some, none-some}}
use Rattle.std.proofs.Math.Seq.{drop-append_seam, take-append_seam}
use Rattle.std.specs.{Prelude.{slice_index, FitsSigned, nat_lt, false}, Int.{w16, w32, cast_signed, cast_unsigned, from_le_bytes, to_le_bytes}, Option.option_map}
use Rattle.dn_seal.specs.{Opening.{Sealing, told_game, IsOfKind, IsOfGame, IsFor, IsTagged, told_body, told_tag}, declared.seal.Seal.Seal, Hmac.{suite_byte, tag_of}}
use Rattle.dn_seal.proofs.{Openings.four_bytes, Envelopes.{length-tag, eight}}
use Rattle.dn_link.specs.{Text.{counts_bytes, parts_bytes, report_field, bundle_bytes, IsBundle, IsPart, part_bytes}, Reading.{IsDatagramOf, IsBundledAs, bundles}}
use Rattle.dn_link.specs.Told.{number_at, report_size, told_counts, told_parts, bundle_with, told_bundle, told_part, told_all}
use Rattle.dn_link.specs.declared.bundle.{BundleFault.{TheVariants.{Short, Long, Game, Receiver, Tag, Form}, BundleFault}, Bundle.Bundle, Part.Part}
use Rattle.dn_link.proofs.{Parts.{Fit, fit_drop, small, counts_back, length-counts, counts_is}, Items.{all_back, all_is, opened}}

-- Parts are read one after the other.

-- what is found, with what the rest tells, is what all tells
pub record SoFar (count : ℕ) (bytes : List ℕ) (done : ℕ) (rest : List ℕ) (found : List Part) : Type 0 where
  pub left : ℕ
  pub adds : left + done ≡ count
  pub told : told_all count bytes ≡ option_map (λ (more : List Part). found ++ more) (told_all left rest)

pub begins : (count : ℕ) (bytes : List ℕ) (found : List Part) → found ≡ [] → SoFar count bytes 0 bytes found
begins count bytes found none = subst (SoFar count bytes 0 bytes) (sym none) (record { left = count; adds = omega arith; told = go (told_all count bytes) })
  where
    go : (o : Option (List Part)) → o ≡ option_map (λ (more : List Part). more) o
    go None = refl
    go (Some more) = refl

module _ (count : ℕ) (bytes : List ℕ) (done : ℕ) (rest : List ℕ) (found : List Part) where
  goes_on : (part : Part) → done < count → SoFar count bytes done rest found → told_part rest ≡ Some part
      → SoFar count bytes (done + 1) (drop (length (part_bytes part)) rest) (found ++ part ∷ [])
  goes_on part below so one = go so.left so.adds so.told
    where
      glued : (o : Option (List Part))
          → option_map (λ (more : List Part). found ++ more) (option_map (λ (more : List Part). part ∷ more) o)
          ≡ option_map (λ (more : List Part). (found ++ part ∷ []) ++ more) o
      glued None = refl
      glued (Some more) = ap Some (sym (append_assoc found (part ∷ []) more))

      go : (left : ℕ) → left + done ≡ count
          → told_all count bytes ≡ option_map (λ (more : List Part). found ++ more) (told_all left rest)
          → SoFar count bytes (done + 1) (drop (length (part_bytes part)) rest) (found ++ part ∷ [])
      go zero adds told = absurd (omega arith)
      go (suc left) adds told =
          record {
            left = left;
            adds = omega arith;
            told = told ∙ ap (λ (o : Option Part). option_map (λ (more : List Part). found ++ more) (opened left rest o)) one
                ∙ glued (told_all left (drop (length (part_bytes part)) rest));
          }

  pub goes_on_to : (part : Part) (n : ℕ) (rest_new : List ℕ) (found_new : List Part) → done < count
      → SoFar count bytes done rest found → told_part rest ≡ Some part → n ≡ length (part_bytes part)
      → rest_new ≡ drop n rest → found_new ≡ found ++ part ∷ []
      → SoFar count bytes (done + 1) rest_new found_new
  goes_on_to part n rest_new found_new below so one e r f =
      let rests : drop (length (part_bytes part)) rest ≡ rest_new = ap (λ (k : ℕ). drop k rest) (sym e) ∙ sym r in
      subst (λ (xs : List ℕ). SoFar count bytes (done + 1) xs found_new) rests
      (subst (SoFar count bytes (done + 1) (drop (length (part_bytes part)) rest)) (sym f) (goes_on part below so one))

  pub fails : done < count → SoFar count bytes done rest found → told_part rest ≡ None
      → told_all count bytes ≡ None
  fails below so one = go so.left so.adds so.told
    where
      go : (left : ℕ) → left + done ≡ count
          → told_all count bytes ≡ option_map (λ (more : List Part). found ++ more) (told_all left rest)
          → told_all count bytes ≡ None
      go zero adds told = absurd (omega arith)
      go (suc left) adds told =
          told ∙ ap (λ (o : Option Part). option_map (λ (more : List Part). found ++ more) (opened left rest o)) one

ends : (count : ℕ) (bytes rest : List ℕ) (found : List Part) → length rest ≡ 0
    → SoFar count bytes count rest found → told_all count bytes ≡ Some found
ends count bytes rest found none so = go so.left rest so.adds none so.told
  where
    go : (left : ℕ) (xs : List ℕ) → left + count ≡ count → length xs ≡ 0
        → told_all count bytes ≡ option_map (λ (more : List Part). found ++ more) (told_all left xs)
        → told_all count bytes ≡ Some found
    go zero [] adds none told = told ∙ ap Some (append-nil found)
    go zero (x ∷ xs) adds none told = absurd (omega arith)
    go (suc left) xs adds none told = absurd (omega arith)

-- A whole bundle.

-- the nineteen bytes in front, with this suite and these bytes of the game's number
abbrev headed : ℕ → List ℕ → Bundle → List ℕ
headed suite game b =
    (suite ∷ 5 ∷ game) ++ (b.from ∷ b.to ∷ []) ++ to_le_bytes w32 b.number
    ++ (cast_unsigned w8 b.lead ∷ b.holes ∷ b.cause ∷ [])

abbrev head_bytes : Seal → Bundle → List ℕ
head_bytes seal b = headed (suite_byte seal.suite) (take 8 seal.game) b

-- and what follows them
abbrev last_bytes : Bundle → List ℕ
last_bytes b = report_field b.report.items ++ parts_bytes b.parts.items

abbrev rest_bytes : Bundle → List ℕ
rest_bytes b = counts_bytes b.counts ++ last_bytes b

parted : (seal : Seal) (b : Bundle) → bundle_bytes seal b ≡ head_bytes seal b ++ rest_bytes b
parted seal b = grind (arith, append_assoc)

module _ (seal : Seal) (b : Bundle) (long : 8 ≤ length seal.game) where
  -- what is told by the bytes in front, whatever the game's number is
  by_head : {A : Type 0} (f : List ℕ → A) (a : A) → ((x0 x1 x2 x3 x4 x5 x6 x7 : ℕ)
      → f (headed (suite_byte seal.suite) (x0 ∷ x1 ∷ x2 ∷ x3 ∷ x4 ∷ x5 ∷ x6 ∷ x7 ∷ []) b ++ rest_bytes b) ≡ a)
      → f (bundle_bytes seal b) ≡ a
  by_head f a each =
      ap f (parted seal b)
      ∙ eight seal.game long (λ g. f (headed (suite_byte seal.suite) g b ++ rest_bytes b) ≡ a) each

  length-head : length (head_bytes seal b) ≡ 19
  length-head = eight seal.game long (λ g. length (headed (suite_byte seal.suite) g b) ≡ 19)
      (λ x0 x1 x2 x3 x4 x5 x6 x7. refl)

module _ (seal : Seal) (b : Bundle) (long : 8 ≤ length seal.game) (is : IsBundle b) where
  after_head : drop 19 (bundle_bytes seal b) ≡ rest_bytes b
  after_head = by_head seal b long (drop 19) (rest_bytes b) (λ x0 x1 x2 x3 x4 x5 x6 x7. refl)

  after_counts : drop 43 (bundle_bytes seal b) ≡ last_bytes b
  after_counts =
      let size = length-counts b.counts is.counts.four in
      sym (drop-drop 24 19 (bundle_bytes seal b)) ∙ ap (drop 24) after_head
      ∙ ap (λ (n : ℕ). drop n (rest_bytes b)) (sym size)
      ∙ drop-append_seam (counts_bytes b.counts) (last_bytes b)

  abbrev report : List ℕ
  report = b.report.items

  size_back : report_size (bundle_bytes seal b) ≡ length report
  size_back =
      let few = is.report in
      ap (λ (xs : List ℕ). from_le_bytes w16 (take 2 xs)) after_counts
      ∙ from_le_bytes-to_le_bytes_2 (length report) (omega (arith, few))

  after_size : drop 45 (bundle_bytes seal b) ≡ report ++ parts_bytes b.parts.items
  after_size = sym (drop-drop 2 43 (bundle_bytes seal b)) ∙ ap (drop 2) after_counts

  report_back : take (report_size (bundle_bytes seal b)) (drop 45 (bundle_bytes seal b)) ≡ report
  report_back = (λ i. take (size_back i) (after_size i)) ∙ take-append_seam report (parts_bytes b.parts.items)

  after_report : drop (45 + report_size (bundle_bytes seal b)) (bundle_bytes seal b) ≡ parts_bytes b.parts.items
  after_report =
      sym (drop-drop (report_size (bundle_bytes seal b)) 45 (bundle_bytes seal b))
      ∙ (λ i. drop (size_back i) (after_size i)) ∙ drop-append_seam report (parts_bytes b.parts.items)

  parts_back : told_parts (parts_bytes b.parts.items) ≡ Some b.parts.items
  parts_back = grind (arith, le-ltb, all_back)

  from : slice_index (bundle_bytes seal b) 10 ≡ b.from
  from = by_head seal b long (λ xs. slice_index xs 10) b.from (λ x0 x1 x2 x3 x4 x5 x6 x7. refl)

  to : slice_index (bundle_bytes seal b) 11 ≡ b.to
  to = by_head seal b long (λ xs. slice_index xs 11) b.to (λ x0 x1 x2 x3 x4 x5 x6 x7. refl)

  number : number_at 12 (bundle_bytes seal b) ≡ b.number
  number = by_head seal b long (number_at 12) b.number
      (λ x0 x1 x2 x3 x4 x5 x6 x7. from_le_bytes-to_le_bytes_4 b.number is.number)

  lead : cast_signed w8 (slice_index (bundle_bytes seal b) 16) ≡ b.lead
  lead = ap (cast_signed w8) (by_head seal b long (λ xs. slice_index xs 16) (cast_unsigned w8 b.lead)
      (λ x0 x1 x2 x3 x4 x5 x6 x7. refl)) ∙ to_z-of_z w8 b.lead is.lead

  holes : slice_index (bundle_bytes seal b) 17 ≡ b.holes
  holes = by_head seal b long (λ xs. slice_index xs 17) b.holes (λ x0 x1 x2 x3 x4 x5 x6 x7. refl)

  cause : slice_index (bundle_bytes seal b) 18 ≡ b.cause
  cause = by_head seal b long (λ xs. slice_index xs 18) b.cause (λ x0 x1 x2 x3 x4 x5 x6 x7. refl)

  bundle_back : told_bundle (bundle_bytes seal b) ≡ Some b
  bundle_back =
      let few : nat_lt 5 (slice_index (bundle_bytes seal b) 18) ≡ false =
      ap (nat_lt 5) cause ∙ le-ltb 5 b.cause is.cause in
      let short : nat_lt 397 (report_size (bundle_bytes seal b)) ≡ false =
      ap (nat_lt 397) size_back ∙ le-ltb 397 (length report) is.report in
      let parts : told_parts (drop (45 + report_size (bundle_bytes seal b)) (bundle_bytes seal b)) ≡ Some b.parts.items =
      ap told_parts after_report ∙ parts_back in
      let counts : told_counts (drop 19 (bundle_bytes seal b)) ≡ b.counts =
      ap told_counts after_head ∙ counts_back b.counts (last_bytes b) is.counts in
      rw (few, short, parts) (λ i. Some (record {
        from = from i;
        to = to i;
        number = number i;
        lead = lead i;
        holes = holes i;
        cause = cause i;
        counts = counts i;
        report = record { items = report_back i };
        parts = b.parts;
      }))

-- the nineteen bytes in front, by what was tested of them
head_is : (body : List ℕ) (seal : Seal) (b : Bundle) → Fit body → 19 ≤ length body
    → slice_index body 0 ≡ suite_byte seal.suite → slice_index body 1 ≡ 5
    → told_game body ≡ take 8 seal.game → slice_index body 10 ≡ b.from → slice_index body 11 ≡ b.to
    → b.number ≡ number_at 12 body → cast_unsigned w8 b.lead ≡ slice_index body 16
    → slice_index body 17 ≡ b.holes → slice_index body 18 ≡ b.cause → take 19 body ≡ head_bytes seal b
head_is (v ∷ k ∷ g0 ∷ g1 ∷ g2 ∷ g3 ∷ g4 ∷ g5 ∷ g6 ∷ g7 ∷ f ∷ t ∷ n0 ∷ n1 ∷ n2 ∷ n3 ∷ l ∷ h ∷ c ∷ rest) seal b
    fits long suite kind told from to number lead holes cause =
    let numbers = four_bytes n0 n1 n2 n3 b.number (fits 12) (fits 13) (fits 14) (fits 15) number in
    λ i. (suite i ∷ kind i ∷ told i) ++ (from i ∷ to i ∷ []) ++ numbers i ++ (sym lead i ∷ holes i ∷ cause i ∷ [])
head_is _ seal b fits long suite kind told from to number lead holes cause = absurd (omega arith)

number_small : (body : List ℕ) → Fit body → 16 ≤ length body → number_at 12 body < 2 ^ 32
number_small (v ∷ k ∷ g0 ∷ g1 ∷ g2 ∷ g3 ∷ g4 ∷ g5 ∷ g6 ∷ g7 ∷ f ∷ t ∷ n0 ∷ n1 ∷ n2 ∷ n3 ∷ rest) fits long =
    small n0 n1 n2 n3 (fits 12) (fits 13) (fits 14) (fits 15)
number_small _ fits long = absurd (omega arith)

signed_fits : (byte : ℕ) → byte < 256 → FitsSigned w8 (cast_signed w8 byte)
signed_fits byte below = omega (arith, Rattle.std.proofs.lemmas.Int.ints)

-- two bytes are a number, and what follows stands behind it
field_is : (bytes : List ℕ) → Fit bytes → 2 ≤ length bytes
    → bytes ≡ to_le_bytes w16 (from_le_bytes w16 (take 2 bytes)) ++ drop 2 bytes
field_is (a ∷ b ∷ rest) fits long =
    let two = le_bytes_2 (a ∷ b ∷ []) (from_le_bytes w16 (a ∷ b ∷ [])) refl (two_fit a b (fits 0) (fits 1)) refl in
    λ i. sym two i ++ rest
  where
    two_fit : (a b : ℕ) → a < 256 → b < 256 → (i : ℕ) → get_or (a ∷ b ∷ []) i 0 < 256
    two_fit a b la lb zero = la
    two_fit a b la lb (suc zero) = lb
    two_fit a b la lb (suc (suc i)) = omega arith
field_is _ fits long = absurd (omega arith)

-- bytes that are read as a bundle
pub record IsWhole (seal : Seal) (body : List ℕ) (b : Bundle) : Type 0 where
  pub fits : IsBundle b
  pub to : slice_index body 11 ≡ b.to
  pub spelled : body ≡ bundle_bytes seal b

module _ (seal : Seal) (body : List ℕ) (fits : Fit body) (long : 46 ≤ length body)
    (suite : slice_index body 0 ≡ suite_byte seal.suite) (kind : slice_index body 1 ≡ 5)
    (told : told_game body ≡ take 8 seal.game) where
  counted : (bytes : List ℕ) (parts : List Part) → told_parts bytes ≡ Some parts → Fit bytes
      → (length parts ≤ 24) × All IsPart parts × (bytes ≡ parts_bytes parts)
  counted [] parts e fit = absurd (none-some parts e)
  counted (count ∷ bytes) parts e fit = elim (cases_lt 24 count) [
    | inl many ↦ let on = lt-ltb 24 count many in
        let none : ◌≡◌ {A = Option (List Part)} None (Some parts) = rw on at e in absurd (none-some parts none)
    | inr few ↦
        let off = le-ltb 24 count few in
        let all = all_is count bytes parts (fit_drop 1 (count ∷ bytes) fit) (rw off at e) in
        (omega (arith, all.count), all.fit, λ i. sym all.count i ∷ all.spelled i)
  ]

  abbrev size : ℕ
  size = report_size body

  abbrev rest : List ℕ
  rest = drop (45 + size) body

  with_parts : slice_index body 18 ≤ 5 → size ≤ 397 → (b : Bundle) (o : Option (List Part)) → told_parts rest ≡ o
      → option_map (bundle_with body) o ≡ Some b → IsWhole seal body b
  with_parts low short b None is e = absurd (none-some b e)
  with_parts low short b (Some parts) is e =
      let all = counted rest parts is (fit_drop (45 + size) body fits) in
      let behind = length-drop 19 body in
      let counts = counts_is (drop 19 body) (fit_drop 19 body fits) (omega (arith, behind)) in
      let bundle : Bundle = bundle_with body parts in
      let lead : cast_unsigned w8 (cast_signed w8 (slice_index body 16)) ≡ slice_index body 16 =
      of_z-to_z w8 (slice_index body 16) (fits 16) in
      let head = head_is body seal bundle fits (omega arith) suite kind told refl refl refl lead refl refl in
      let full : size ≤ length (drop 45 body) =
      whole_size parts is (length-drop 45 body) (length-drop (45 + size) body) in
      let sized : length (take size (drop 45 body)) ≡ size = length-take-le size (drop 45 body) full in
      let last : drop 43 body ≡ last_bytes bundle =
      field_is (drop 43 body) (fit_drop 43 body fits) (omega (arith, length-drop 43 body))
      ∙ (λ i. to_le_bytes w16 (sym sized i) ++ cut i) ∙ (λ i. to_le_bytes w16 (length (take size (drop 45 body)))
      ++ (take size (drop 45 body) ++ (behind_it ∙ all.2) i)) in
      let middle : drop 19 body ≡ rest_bytes bundle =
      sym (take-append-drop 24 (drop 19 body)) ∙ (λ i. counts.spelled i ++ (drop-drop 24 19 body ∙ last) i) in
      subst (IsWhole seal body) (same_Some bundle b e) (record {
        fits = record {
          number = number_small body fits (omega arith);
          lead = signed_fits (slice_index body 16) (fits 16);
          cause = low;
          counts = counts.are;
          report = omega (arith, sized, short);
          few = all.0;
          parts = all.1;
        };
        to = refl;
        spelled = sym (take-append-drop 19 body) ∙ (λ i. head i ++ middle i) ∙ sym (parted seal bundle);
      })
    where
      -- behind the two bytes stand the report and the rest
      cut : drop 2 (drop 43 body) ≡ take size (drop 45 body) ++ drop size (drop 45 body)
      cut = drop-drop 2 43 body ∙ sym (take-append-drop size (drop 45 body))

      behind_it : drop size (drop 45 body) ≡ rest
      behind_it = drop-drop size 45 body

      whole_size : (parts : List Part) → told_parts rest ≡ Some parts → length (drop 45 body) ≡ length body - 45
          → length rest ≡ length body - (45 + size) → size ≤ length (drop 45 body)
      whole_size parts is one other = some_left rest is (λ some. omega (arith, one, other, some))
        where
          some_left : (xs : List ℕ) → told_parts xs ≡ Some parts → {A : Type 0} → (1 ≤ length xs → A) → A
          some_left [] none go = absurd (none-some parts none)
          some_left (x ∷ xs) told go = go (omega arith)

  bundle_is : (b : Bundle) → told_bundle body ≡ Some b → IsWhole seal body b
  bundle_is b e = elim (cases_lt 5 (slice_index body 18)) [
    | inl many ↦ let on = lt-ltb 5 (slice_index body 18) many in
        let none : ◌≡◌ {A = Option Bundle} None (Some b) = rw on at e in absurd (none-some b none)
    | inr few ↦ let off = le-ltb 5 (slice_index body 18) few in elim (cases_lt 397 size) [
      | inl long ↦ let on = lt-ltb 397 size long in
          let none : ◌≡◌ {A = Option Bundle} None (Some b) = rw (off, on) at e in absurd (none-some b none)
      | inr short ↦ let fit = le-ltb 397 size short in
          with_parts few short b (told_parts rest) refl (rw (off, fit) at e)
    ]
  ]

-- what a reading step by step tells
module _ (body : List ℕ) where
  abbrev its_size : ℕ
  its_size = report_size body

  pub no_cause : 5 < slice_index body 18 → None ≡ told_bundle body
  no_cause many = let on = lt-ltb 5 (slice_index body 18) many in rw on refl

  pub no_parts : slice_index body 18 ≤ 5 → its_size ≤ 397 → told_parts (drop (45 + its_size) body) ≡ None
      → None ≡ told_bundle body
  no_parts few short none =
      let off = le-ltb 5 (slice_index body 18) few in
      let fit = le-ltb 397 its_size short in
      rw (off, fit, none) refl

  pub all_told : (b : Bundle) → slice_index body 18 ≤ 5 → its_size ≤ 397
      → told_parts (drop (45 + its_size) body) ≡ Some b.parts.items
      → b.from ≡ slice_index body 10 → b.to ≡ slice_index body 11 → b.number ≡ number_at 12 body
      → b.lead ≡ cast_signed w8 (slice_index body 16) → b.holes ≡ slice_index body 17 → b.cause ≡ slice_index body 18
      → b.counts ≡ told_counts (drop 19 body) → b.report.items ≡ take its_size (drop 45 body)
      → Some b ≡ told_bundle body
  all_told b few short all from to number lead holes cause counts report =
      let off = le-ltb 5 (slice_index body 18) few in
      let fit = le-ltb 397 its_size short in
      rw (off, fit, all) (λ i. Some (record {
        from = from i;
        to = to i;
        number = number i;
        lead = lead i;
        holes = holes i;
        cause = cause i;
        counts = counts i;
        report = record { items = report i };
        parts = b.parts;
      }))

  -- a byte that was read as signed
  pub signed : (byte : ℕ) (z : ℤ) → byte < 256 → z ≡ cast_signed w8 byte
      → to_z w8 (of_z w8 z) ≡ cast_signed w8 byte
  signed byte z below e = ap (λ (x : ℤ). to_z w8 (of_z w8 x)) e ∙ to_z-of_z w8 (cast_signed w8 byte) (signed_fits byte below)

-- Bytes are read as one thing.
body_long : (seal : Seal) (b : Bundle) → 8 ≤ length seal.game → IsBundle b → 46 ≤ length (bundle_bytes seal b)
body_long seal b long is = grind (arith, parted, length-append, head_bytes, rest_bytes, length-head, length-counts)

module _ (s : Sealing) (bytes : List ℕ) (b : Bundle) (is : IsDatagramOf s bytes b) where
  abbrev tag : List ℕ
  tag = tag_of s.seal.key (bundle_bytes s.seal b)

  len : length bytes ≡ length (bundle_bytes s.seal b) + 16
  len = ap (length {A = ℕ}) is.is ∙ length-append (bundle_bytes s.seal b) (tag_of s.seal.key (bundle_bytes s.seal b))
      ∙ ap (λ (n : ℕ). length (bundle_bytes s.seal b) + n) (length-tag s.seal.key (bundle_bytes s.seal b))

  seam : length bytes - 16 ≡ length (bundle_bytes s.seal b)
  seam = omega (arith, len)

  its_body : told_body bytes ≡ bundle_bytes s.seal b
  its_body = grind (arith, seam, take-append_seam)

  its_tag : told_tag bytes ≡ tag_of s.seal.key (bundle_bytes s.seal b)
  its_tag = grind (arith, seam, drop-append_seam)

  -- what is told by the bytes in front
  in_front : {A : Type 0} (f : List ℕ → A) (a : A) → f (bundle_bytes s.seal b ++ tag) ≡ a → f bytes ≡ a
  in_front f a e = ap f is.is ∙ e

  tagged : IsTagged bundles s bytes
  tagged = grind (arith, body_long, len, in_front, by_head, its_tag, its_body, parted)

  pub its_bundle : told_bundle (told_body bytes) ≡ Some b
  its_bundle = ap told_bundle its_body ∙ bundle_back s.seal b is.game is.fits

-- the body of bytes
front_fits : (xs : List ℕ) → Fit xs → Fit (told_body xs)
front_fits xs fits i = grind (arith, get_or-take, length-take, get_or_past)

game_front : (ys : List ℕ) → 10 ≤ length ys → told_game (take 10 ys) ≡ told_game ys
game_front (v ∷ k ∷ a ∷ b ∷ c ∷ d ∷ e ∷ f ∷ g ∷ h ∷ rest) long = refl
game_front _ long = absurd (omega arith)

told_front : (xs : List ℕ) → 62 ≤ length xs → told_game (told_body xs) ≡ told_game xs
told_front xs long = grind (arith, length-take-le, game_front, take-take)

module _ (s : Sealing) (bytes : List ℕ) where
  pub only_short : length bytes < 62 → (read : Result Bundle BundleFault) → IsBundledAs s bytes read
      → Err Short ≡ read
  only_short few read h = grind (arith, tagged)

  pub only_long : 1200 < length bytes → (read : Result Bundle BundleFault) → IsBundledAs s bytes read
      → Err Long ≡ read
  only_long many read h = grind arith

  pub only_game : IsOfKind bundles s bytes → told_game bytes ≢ take 8 s.seal.game → (read : Result Bundle BundleFault)
      → IsBundledAs s bytes read → Err Game ≡ read
  only_game of wrong read h = grind (arith, tagged)

  pub only_receiver : IsOfGame bundles s bytes → slice_index bytes 11 ≢ s.me → (read : Result Bundle BundleFault)
      → IsBundledAs s bytes read → Err Receiver ≡ read
  only_receiver of wrong read h = grind (arith, tagged)

  pub only_tag : IsFor bundles s bytes → told_tag bytes ≢ tag_of s.seal.key (told_body bytes)
      → (read : Result Bundle BundleFault) → IsBundledAs s bytes read → Err Tag ≡ read
  only_tag for wrong read h = grind (arith, tagged)

  pub only_form : IsTagged bundles s bytes → told_bundle (told_body bytes) ≡ None
      → (read : Result Bundle BundleFault) → IsBundledAs s bytes read → Err Form ≡ read
  only_form tests none read h = grind (arith, none-some, its_bundle)

  pub only_bundle : (b : Bundle) → IsDatagramOf s bytes b → (read : Result Bundle BundleFault)
      → IsBundledAs s bytes read → Ok b ≡ read
  only_bundle b is (Ok other) h = ap Ok (same_Some b other (sym (its_bundle s bytes b is) ∙ its_bundle s bytes other h))
  only_bundle b is (Err fault) h = grind (arith, tagged)

  -- what no bundle tells is none's datagram
  pub formless : IsTagged bundles s bytes → told_bundle (told_body bytes) ≡ None → IsBundledAs s bytes (Err Form)
  formless tests none = (tests, λ b is. none-some b (sym none ∙ its_bundle s bytes b is))

  -- what passes all tests and tells a bundle is its datagram
  pub datagram_is : 8 ≤ length s.seal.game → Fit bytes → IsTagged bundles s bytes → (b : Bundle)
      → told_bundle (told_body bytes) ≡ Some b → IsDatagramOf s bytes b
  datagram_is game fits tests b e =
      let long = tests.0.0.0.0.0.0 in
      let cut = length-take-le (length bytes - 16) bytes (omega arith) in
      let at = λ (k : ℕ) (l : k < 44). get_or-take (length bytes - 16) bytes k 0 (omega (arith, l, long)) in
      let whole = bundle_is s.seal (told_body bytes) (front_fits bytes fits) (omega (arith, cut, long))
      (at 0 (omega arith) ∙ tests.0.0.0.0.1) (at 1 (omega arith) ∙ tests.0.0.0.1)
      (told_front bytes (omega (arith, long)) ∙ tests.0.0.1) b e in
      record {
        game = game;
        fits = whole.fits;
        short = tests.0.0.0.0.0.1;
        to = sym whole.to ∙ at 11 (omega arith) ∙ tests.0.1;
        is = sym (take-append-drop (length bytes - 16) bytes)
            ∙ (λ i. whole.spelled i ++ (tests.1 ∙ ap (tag_of s.seal.key) whole.spelled) i);
      }

-- the game's number has the eight bytes that are told of it
pub eight_long : (suite kind : ℕ) (game front : List ℕ) → front ≡ suite ∷ kind ∷ take 8 game → length front ≡ 10
    → 8 ≤ length game
eight_long suite kind game front is ten =
    let whole = ap (length {A = ℕ}) is in omega (arith, whole, ten, length-take 8 game)
