-- Bytes are read as one greeting of a sort, and what a reader returns is that one.
use Rattle.std.proofs.Common.{◌≡◌, ◌≢◌, ◌≤◌, ◌+◌, ◌-◌, ℕ, List, [], ◌∷◌, ◌++◌, length, take, drop, refl, ap, sym, subst, ◌∙◌, arith, Option, Some, None, Result, Ok, Err, inl, inr, Bool, true, false}
use Rattle.std.proofs.lemmas.Bool.{cases_lt, eq-eqb, eqb-true, le-ltb, lt-ltb, ltb-false}
use Rattle.std.proofs.{lemmas.List.take-append-drop, lemmas.List.take-take, lemmas.List.drop-take, lemmas.List.length-append, lemmas.Option.same_Some}
use Rattle.std.proofs.{lemmas.Option.none-some, lemmas.Slice.Eq.bytes_eq-Decides, Math.Seq.take-append_seam, Math.Seq.drop-append_seam}
use Rattle.std.specs.Prelude.{IfSome, slice_index, not, if◌then◌else◌}
use Rattle.std.specs.{Option.ok_or}
use Rattle.dn_seal.specs.{Hmac.suite_byte, Hmac.tag_of, Opening.told_body, Opening.told_tag, declared.seal.Seal.Seal}
use Rattle.dn_seal.proofs.Envelopes.{length-tag}
use Rattle.dn_session.specs.declared.greeting.GreetingFault.TheVariants.{Form, Short}
use Rattle.dn_session.specs.{Hosting.hint_for, Reading.IsCallIn, Reading.IsGreetingIn, Reading.IsReadAs, Reading.IsRefusedIn, Reading.IsSeatingIn, Reading.first_fault, Sorts.Sort, Sorts.calls, Sorts.refusals, Sorts.seatings, Text.body_bytes, Text.greeting_bytes, Text.head_bytes}
use Rattle.dn_session.specs.{Text.kind_bytes, declared.greeting.Call.Call, declared.greeting.GreetingFault.GreetingFault, declared.greeting.Hint.Hint, declared.greeting.Refused.Refused, declared.greeting.Seating.Seating}
use Rattle.dn_session.proofs.Rests.{call_back, length-call, length-refused, length-seating, refused_back, seating_back}
use Rattle.dn_session.proofs.Told.{told_call, told_refused, told_seating}

-- what bytes without a fault have
pub record Passes (seal : Seal) (what size : ℕ) (bytes : List ℕ) : Type 0 where
  pub long : 29 ≤ length bytes
  pub kind : take 9 (drop 1 bytes) ≡ kind_bytes
  pub one : slice_index bytes 11 ≡ what
  pub version : slice_index bytes 10 ≡ 2
  pub sized : length bytes ≡ size
  pub suite : slice_index bytes 0 ≡ suite_byte seal.suite
  pub tag : told_tag bytes ≡ tag_of seal.key (told_body bytes)

-- and no others
pub clean : (seal : Seal) (what size : ℕ) (bytes : List ℕ) → Passes seal what size bytes
    → first_fault seal what size bytes ≡ None
unfolding first_fault
clean seal what size bytes p = grind (arith, le-ltb, bytes_eq-Decides, eq-eqb)

-- one more test: without a fault it was passed, and no later one fails
unless : (test : Bool) (fault : GreetingFault) (later : Option GreetingFault)
    → (if not test then Some fault else later) ≡ None → (test ≡ true) × (later ≡ None)
unless test fault later e = grind arith

long_first : (test : Bool) (fault : GreetingFault) (later : Option GreetingFault)
    → (if test then Some fault else later) ≡ None → (test ≡ false) × (later ≡ None)
long_first test fault later e = grind arith

pub passed : (seal : Seal) (what size : ℕ) (bytes : List ℕ) → first_fault seal what size bytes ≡ None
    → Passes seal what size bytes
unfolding first_fault
passed seal what size bytes none = grind (arith, long_first, unless, ltb-false, bytes_eq-Decides, eqb-true)

-- the twelve bytes of the head
head_is : (seal : Seal) (what : ℕ) (bytes : List ℕ) → 12 ≤ length bytes → take 9 (drop 1 bytes) ≡ kind_bytes
    → slice_index bytes 11 ≡ what → slice_index bytes 10 ≡ 2 → slice_index bytes 0 ≡ suite_byte seal.suite
    → take 12 bytes ≡ head_bytes seal what
head_is seal what (s ∷ a ∷ b ∷ c ∷ d ∷ e ∷ f ∷ g ∷ h ∷ i ∷ v ∷ w ∷ rest) long kind one version suite =
    λ x. suite x ∷ (kind x ++ version x ∷ one x ∷ [])
head_is seal what _ long kind one version suite = absurd (omega arith)

-- bytes without a fault are a greeting of what stands behind the head
pub assembled : (seal : Seal) (what size : ℕ) (bytes : List ℕ) → Passes seal what size bytes
    → bytes ≡ greeting_bytes seal what (drop 12 (told_body bytes))
assembled seal what size bytes p =
    let long = p.long in
    let front : take 12 (told_body bytes) ≡ head_bytes seal what =
    take-take 12 (length bytes - 16) bytes (omega arith)
    ∙ head_is seal what bytes (omega arith) p.kind p.one p.version p.suite in
    let body : told_body bytes ≡ body_bytes seal what (drop 12 (told_body bytes)) =
    sym (take-append-drop 12 (told_body bytes))
    ∙ ap (λ (xs : List ℕ). xs ++ drop 12 (told_body bytes)) front in
    let tag = p.tag ∙ ap (tag_of seal.key) body in
    sym (take-append-drop (length bytes - 16) bytes) ∙ (λ i. body i ++ tag i)

module _ (seal : Seal) (what : ℕ) (rest : List ℕ) where
  abbrev text : List ℕ
  text = greeting_bytes seal what rest

  abbrev body : List ℕ
  body = body_bytes seal what rest

  pub length-text : length text ≡ length rest + 28
  length-text = omega (arith, length-append body (tag_of seal.key body), length-tag seal.key body)

  seam : length text - 16 ≡ length body
  seam = omega (arith, length-text)

  its_body : told_body text ≡ body
  its_body = ap (λ (n : ℕ). take n text) seam ∙ take-append_seam body (tag_of seal.key body)

  its_tag : told_tag text ≡ tag_of seal.key body
  its_tag = ap (λ (n : ℕ). drop n text) seam ∙ drop-append_seam body (tag_of seal.key body)

  pub its_rest : drop 12 (told_body text) ≡ rest
  its_rest = ap (drop 12) its_body

  pub its_tests : (size : ℕ) → length rest + 28 ≡ size → 29 ≤ size → Passes seal what size text
  its_tests size long enough = grind (arith, length-text, its_tag, its_body)

-- bytes of something that fits have no fault: then what they are read as, if that is a fault, is all that they are
-- read as; and so is anything, where they are read as one thing at most that fits
module _ {T : Type 0} (Is : T → Type 0) (text : T → List ℕ) (first : Option GreetingFault) (bytes : List ℕ)
    (clean : (t : T) → Is t → bytes ≡ text t → first ≡ None) where
  abbrev Reads : Result T GreetingFault → Type 0
  Reads = IsReadAs Is text first bytes

  pub only_fault : (f : GreetingFault) → Reads (Err f) → (b : Result T GreetingFault) → Reads b → Err f ≡ b
  only_fault f x b y = grind (arith, clean)

  pub only : ((s t : T) → Reads (Ok s) → Reads (Ok t) → s ≡ t)
      → (a b : Result T GreetingFault) → Reads a → Reads b → a ≡ b
  only one a b x y = grind (arith, only_fault)

-- a sort of which each greeting has a rest, which is as long as it should be
pub record IsSized {T : Type 0} (sort : Sort T) : Type 0 where
  pub enough : 29 ≤ sort.size
  pub long : (t : T) → sort.Is t → length (sort.rest t) + 28 ≡ sort.size

module _ {T : Type 0} (sort : Sort T) (sized : IsSized sort) (seal : Seal) (bytes : List ℕ) where
  abbrev first : Option GreetingFault
  first = first_fault seal sort.what sort.size bytes

  abbrev written : T → List ℕ
  written t = greeting_bytes seal sort.what (sort.rest t)

  pub clean_of : (t : T) → sort.Is t → bytes ≡ written t → first ≡ None
  clean_of t is e = ap (first_fault seal sort.what sort.size) e ∙ clean seal sort.what sort.size (written t)
      (its_tests seal sort.what (sort.rest t) sort.size (sized.long t is) sized.enough)

  rest_of : (t : T) → bytes ≡ written t → drop 12 (told_body bytes) ≡ sort.rest t
  rest_of t e = ap (λ (xs : List ℕ). drop 12 (told_body xs)) e ∙ its_rest seal sort.what (sort.rest t)

  -- what stands between the head and the tag
  abbrev there : List ℕ
  there = take (length bytes - 16 - 12) (drop 12 bytes)

  between : first ≡ None → drop 12 (told_body bytes) ≡ there
  between none =
      let p = passed seal sort.what sort.size bytes none in
      let long = p.long in
      let cut : length bytes - 16 ≡ 12 + (length bytes - 16 - 12) = omega (arith, long) in
      ap (λ (n : ℕ). drop 12 (take n bytes)) cut ∙ drop-take 12 (length bytes - 16 - 12) bytes

  -- the one greeting that is found there is read, or nothing is
  module _ (none : first ≡ None) (found : Option T)
      (just : (t : T) → sort.Is t → there ≡ sort.rest t → found ≡ Some t) where
    found_is : (t : T) → sort.Is t → bytes ≡ written t → found ≡ Some t
    found_is t is e = just t is (sym (between none) ∙ rest_of t e)

    read_found : (read : Option T) → found ≡ read → IfSome read (λ t. sort.Is t × (there ≡ sort.rest t))
        → IsGreetingIn sort seal bytes (ok_or read Form)
    read_found (Some t) e (fits, same) = (
      fits,
      assembled seal sort.what sort.size bytes (passed seal sort.what sort.size bytes none)
          ∙ ap (greeting_bytes seal sort.what) (between none ∙ same),
    )
    read_found None e is = inr (refl, none, λ t is same. none-some t (sym e ∙ found_is t is same))

    pub opened : IfSome found (λ t. sort.Is t × (there ≡ sort.rest t))
        → (result : Result T GreetingFault) → result ≡ ok_or found Form → IsGreetingIn sort seal bytes result
    opened is result e = subst (IsGreetingIn sort seal bytes) (sym e) (read_found found refl is)

    pub opened_only : (a b : Result T GreetingFault) → IsGreetingIn sort seal bytes a → IsGreetingIn sort seal bytes b
        → a ≡ b
    opened_only = only sort.Is written first bytes clean_of
        (λ s t x y. same_Some s t (sym (found_is s x.0 x.1) ∙ found_is t y.0 y.1))

  -- and where the rest tells the greeting, bytes are read as one
  pub one_told : (told : List ℕ → T) → ((t : T) → sort.Is t → told (sort.rest t) ≡ t)
      → (a b : Result T GreetingFault) → IsGreetingIn sort seal bytes a → IsGreetingIn sort seal bytes b → a ≡ b
  one_told told back = only sort.Is written first bytes clean_of
      (λ s t x y. sym (back s x.0) ∙ ap told (sym (rest_of s x.1) ∙ rest_of t y.1) ∙ back t y.0)

pub one_call : (seal : Seal) (bytes : List ℕ) (a b : Result Call GreetingFault)
    → IsCallIn seal bytes a → IsCallIn seal bytes b → a ≡ b
one_call seal bytes =
    one_told calls (record { enough = omega arith; long = length-call }) seal bytes told_call call_back

pub one_seating : (seal : Seal) (bytes : List ℕ) (a b : Result Seating GreetingFault)
    → IsSeatingIn seal bytes a → IsSeatingIn seal bytes b → a ≡ b
one_seating seal bytes =
    one_told seatings (record { enough = omega arith; long = length-seating }) seal bytes told_seating seating_back

pub one_refusal : (seal : Seal) (bytes : List ℕ) (a b : Result Refused GreetingFault)
    → IsRefusedIn seal bytes a → IsRefusedIn seal bytes b → a ≡ b
one_refusal seal bytes =
    one_told refusals (record { enough = omega arith; long = length-refused }) seal bytes told_refused refused_back

-- bytes with any other fault are not too short
pub long_fault : (seal : Seal) (what size : ℕ) (bytes : List ℕ) (f : GreetingFault)
    → first_fault seal what size bytes ≡ Some f → f ≢ Short → 29 ≤ length bytes
unfolding first_fault
long_fault seal what size bytes f first other = grind (arith, cases_lt, lt-ltb, same_Some)

-- and those that get a hint are long enough for it
pub hint_is_long : (seal : Seal) (bytes : List ℕ) (f : GreetingFault) (h : Hint) → IsCallIn seal bytes (Err f)
    → hint_for f ≡ Some h → 29 ≤ length bytes
hint_is_long seal bytes f h (inl first) some =
    long_fault seal 1 581 bytes f first (λ e. none-some h (sym (ap hint_for e) ∙ some))
hint_is_long seal bytes f h (inr (is, none, never)) some = absurd (none-some h (sym (ap hint_for is) ∙ some))
