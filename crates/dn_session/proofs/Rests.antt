-- The rest of a greeting, which stands behind its head, is found again in its bytes.
use Rattle.std.proofs.Common.{◌≡◌, ◌≤◌, ◌+◌, ℕ, List, [], ◌∷◌, ◌++◌, length, take, drop, All, refl, ap, sym, ◌∙◌, arith, Option, Some, None, length-append, true, false, Bool}
use Rattle.std.proofs.{Math.ListN.get_or, Math.Seq.drop-append_seam, Math.Seq.take-append_seam, Math.Seq.take-length, lemmas.List.drop-drop, lemmas.List.get_or-drop}
use Rattle.std.proofs.{lemmas.List.get_or-take, lemmas.List.Elements.All-head, lemmas.List.Elements.All-tail, lemmas.Nat.from_le_bytes-to_le_bytes_4}
use Rattle.std.specs.Prelude.{⊤, IfSome, ◌==◌, slice_index, unwrap_or, ◌<◌, ◌^◌}
use Rattle.std.specs.{List.flat_map, Int.w32, Int.to_le_bytes, Int.from_le_bytes}
use Rattle.dn_session.specs.{Terms.IsTerms, Terms.bit, Terms.policy_bytes, Terms.terms_bytes, Text.IsCall, Text.IsHolder, Text.IsRefused, Text.IsSeating, Text.call_rest}
use Rattle.dn_session.specs.{Text.is_count_or_none, Text.is_wish, Text.padding, Text.reason_bytes, Text.refused_rest, Text.seating_rest, Text.shown_bytes}
use Rattle.dn_session.proofs.Told.{told_at, told_call, told_name, told_policy, told_reason, told_refused, told_seating, told_shown, told_terms}
use Rattle.dn_session.specs.declared.{greeting.Call.Call, greeting.Refusal.Refusal, greeting.Refused.Refused, greeting.Seating.Seating, greeting.Shown.Shown, terms.Policy.Policy}
use Rattle.dn_session.specs.declared.{terms.Terms.Terms}

-- pieces of bytes, each with its length; behind one another, and then what is last; and how long they are in all
abbrev Sized : List (List ℕ × ℕ) → Type 0
Sized [] = ⊤
Sized ((piece, size) ∷ more) = (length piece ≡ size) × Sized more

abbrev joined : List (List ℕ × ℕ) → List ℕ → List ℕ
joined [] last = last
joined ((piece, size) ∷ more) last = piece ++ joined more last

abbrev size_of : List (List ℕ × ℕ) → ℕ
size_of [] = 0
size_of ((piece, size) ∷ more) = size + size_of more

length-joined : (pieces : List (List ℕ × ℕ)) (last : List ℕ) → Sized pieces
    → length (joined pieces last) ≡ size_of pieces + length last
length-joined [] last sized = omega arith
length-joined ((piece, size) ∷ more) last (long, sized) =
    omega (arith, long, length-append piece (joined more last), length-joined more last sized)

-- each stands in bytes in its place, from this one on
abbrev pub Stand : ℕ → List (List ℕ × ℕ) → List ℕ → List ℕ → Type 0
Stand place [] last bytes = drop place bytes ≡ last
Stand place ((piece, size) ∷ more) last bytes = (told_at size place bytes ≡ piece) × Stand (place + size) more last bytes

pub stand : (place : ℕ) (pieces : List (List ℕ × ℕ)) (last bytes : List ℕ) → Sized pieces
    → drop place bytes ≡ joined pieces last → Stand place pieces last bytes
stand place [] last bytes sized is = is
stand place ((piece, size) ∷ more) last bytes (long, sized) is =
    let rest = joined more last in
    let front : take size (piece ++ rest) ≡ piece = rw (sym long) (take-append_seam piece rest) in
    let behind : drop size (piece ++ rest) ≡ rest = rw (sym long) (drop-append_seam piece rest) in (
      ap (take size) is ∙ front,
      stand (place + size) more last bytes sized (sym (drop-drop size place bytes) ∙ ap (drop size) is ∙ behind),
    )

-- all bytes of a list; a number of four bytes; and a single byte
whole : (xs : List ℕ) (size : ℕ) → length xs ≡ size → take size xs ≡ xs
whole xs size long = rw (sym long) (take-length xs)

number_at : (n : ℕ) (bytes : List ℕ) → n < 2 ^ 32 → bytes ≡ to_le_bytes w32 n → from_le_bytes w32 bytes ≡ n
number_at n bytes small is = ap (from_le_bytes w32) is ∙ from_le_bytes-to_le_bytes_4 n small

byte_at : (place : ℕ) (bytes : List ℕ) (a : ℕ) → told_at 1 place bytes ≡ a ∷ [] → slice_index bytes place ≡ a
byte_at place bytes a is =
    let here : place ≡ place + 0 = omega arith in
    ap (λ k. get_or bytes k 0) here ∙ sym (get_or-drop place bytes 0 0)
    ∙ sym (get_or-take 1 (drop place bytes) 0 0 (omega arith)) ∙ ap (λ l. get_or l 0 0) is

-- a number that is named is found again
name_back : (n : Option ℕ) → IfSome n (λ m. 1 ≤ m) → told_name (unwrap_or n 0) ≡ n
name_back n is = grind arith

wish_named : (n : Option ℕ) → is_wish n ≡ true → IfSome n (λ m. 1 ≤ m)
wish_named n is = grind arith

count_named : (n : Option ℕ) → is_count_or_none n ≡ true → IfSome n (λ m. 1 ≤ m)
count_named n is = grind arith

length-padding : length padding ≡ 483
unfolding padding
length-padding = refl

-- a call
module _ (call : Call) (is : IsCall call) where
  abbrev call_pieces : List (List ℕ × ℕ)
  call_pieces = (call.number, 16) ∷ (to_le_bytes w32 call.count, 4) ∷ (call.cookie, 16) ∷ (unwrap_or call.seat 0 ∷ [], 1)
      ∷ (unwrap_or call.players 0 ∷ [], 1) ∷ (call.identity, 16) ∷ (call.name, 16) ∷ []

  call_sized : Sized call_pieces
  call_sized = (is.number, (refl, (is.cookie, (refl, (refl, (is.identity, (is.name, tt)))))))

  pub length-call : length (call_rest call) + 28 ≡ 581
  length-call =
      let all : length (call_rest call) ≡ 70 + length padding = length-joined call_pieces padding call_sized in
      omega (arith, all, length-padding)

  pub call_back : told_call (call_rest call) ≡ call
  call_back =
      let (number, (count, (cookie, (seat, (players, (identity, (name, last))))))) =
      stand 0 call_pieces padding (call_rest call) call_sized refl in
      let counted = number_at call.count _ is.count count in
      let wish = ap told_name (byte_at 36 (call_rest call) _ seat) ∙ name_back call.seat (wish_named call.seat is.seat) in
      let asked = ap told_name (byte_at 37 (call_rest call) _ players)
      ∙ name_back call.players (count_named call.players is.players) in
      rw (number, counted, cookie, wish, asked, identity, name) refl

-- a flag is found again in its byte
bit_back : (flag : Bool) → (bit flag == 1) ≡ flag
bit_back flag = grind arith

-- a policy has two bytes, and is found again in them
policy_back : (policy : Policy) (ys : List ℕ) → (length (policy_bytes policy) ≡ 2)
    × (told_policy (slice_index (policy_bytes policy ++ ys) 0) (slice_index (policy_bytes policy ++ ys) 1) ≡ policy)
policy_back policy ys = grind arith

pub policy_there : (policy : Policy) (ys : List ℕ)
    → policy_bytes policy ≡ slice_index (policy_bytes policy ++ ys) 0 ∷ slice_index (policy_bytes policy ++ ys) 1 ∷ []
policy_there policy ys = grind arith

-- terms take 288 bytes, and are found again in them
module _ (terms : Terms) (is : IsTerms terms) where
  abbrev terms_pieces : List (List ℕ × ℕ)
  terms_pieces = (policy_bytes terms.policy, 2) ∷ (terms.identity, 16) ∷ []

  pub length-terms : length (terms_bytes terms) ≡ 288
  length-terms =
      let rest : length (joined terms_pieces terms.own) ≡ 18 + length terms.own =
      length-joined terms_pieces terms.own ((policy_back terms.policy []).0, (is.identity, tt)) in
      omega (arith, rest, is.own)

  pub terms_back : told_terms (terms_bytes terms) ≡ terms
  terms_back =
      let (there, (identity, last)) =
      stand 14 terms_pieces terms.own (terms_bytes terms) ((policy_back terms.policy []).0, (is.identity, tt)) refl in
      let extra = bit_back terms.extra in
      let limit = from_le_bytes-to_le_bytes_4 terms.limit is.limit in
      let no_monsters = bit_back terms.settings.no_monsters in
      let respawn = bit_back terms.settings.respawn in
      let policy = (policy_back terms.policy (terms.identity ++ terms.own)).1 in
      let own = ap (take 256) last ∙ whole terms.own 256 is.own in
      rw (extra, limit, no_monsters, respawn, policy, identity, own) refl

-- a seat takes 65 bytes, and is found again in them
abbrev pub IsShown : Option Shown → Type 0
IsShown seat = IfSome seat (λ shown. IsHolder shown.holder)

abbrev holder_pieces : Shown → List (List ℕ × ℕ)
holder_pieces shown =
    ((1 + bit shown.heard) ∷ [], 1) ∷ (shown.holder.number, 16) ∷ (shown.holder.address.bytes, 32) ∷ []

length-shown : (seat : Option Shown) → IsShown seat → length (shown_bytes seat) ≡ 65
length-shown None is = refl
length-shown (Some shown) is =
    let all : length (shown_bytes (Some shown)) ≡ 49 + length shown.holder.name =
    length-joined (holder_pieces shown) shown.holder.name (refl, (is.number, (is.address, tt))) in
    omega (arith, all, is.name)

heard_back : (heard : Bool) → ((1 + bit heard == 0) ≡ false) × ((1 + bit heard == 2) ≡ heard)
heard_back heard = grind arith

pub shown_back : (seat : Option Shown) → IsShown seat → told_shown (shown_bytes seat) ≡ seat
shown_back None is = refl
shown_back (Some shown) is =
    let (there, (number, (address, last))) = stand 0 (holder_pieces shown) shown.holder.name (shown_bytes (Some shown))
    (refl, (is.number, (is.address, tt))) refl in
    let name = ap (take 16) last ∙ whole shown.holder.name 16 is.name in
    let heard = (heard_back shown.heard).1 in
    rw ((heard_back shown.heard).0, number, address, name, heard) refl

-- three seats
abbrev seat_pieces : (one two three : Option Shown) → List (List ℕ × ℕ)
seat_pieces one two three = (shown_bytes one, 65) ∷ (shown_bytes two, 65) ∷ (shown_bytes three, 65) ∷ []

-- a seat is what the bytes from this place on are read as
abbrev pub Reads : ℕ → List ℕ → Option Shown → Type 0
Reads place bytes read = (seat : Option Shown) → IsShown seat → told_at 65 place bytes ≡ shown_bytes seat → read ≡ seat

told_reads : (place : ℕ) (bytes : List ℕ) → Reads place bytes (told_shown (told_at 65 place bytes))
told_reads place bytes seat is e = ap told_shown e ∙ shown_back seat is

pub seats_back : (seats : List (Option Shown)) (place : ℕ) (bytes : List ℕ) → length seats ≡ 3 → All IsShown seats
    → drop place bytes ≡ flat_map shown_bytes seats
    → (length (flat_map shown_bytes seats) ≡ 195)
    × ((a b c : Option Shown) → Reads place bytes a → Reads (place + 65) bytes b → Reads (place + 65 + 65) bytes c
    → a ∷ b ∷ c ∷ [] ≡ seats)
seats_back (one ∷ two ∷ three ∷ []) place bytes long each is =
    let i1 = All-head IsShown one (two ∷ three ∷ []) each in
    let r1 = All-tail IsShown one (two ∷ three ∷ []) each in
    let i2 = All-head IsShown two (three ∷ []) r1 in
    let i3 = All-head IsShown three [] (All-tail IsShown two (three ∷ []) r1) in
    let sized : Sized (seat_pieces one two three) =
    (length-shown one i1, (length-shown two i2, (length-shown three i3, tt))) in
    let (first, (second, (third, last))) = stand place (seat_pieces one two three) [] bytes sized is in (
      length-joined (seat_pieces one two three) [] sized,
      λ a b c ra rb rc x. ra one i1 first x ∷ rb two i2 second x ∷ rc three i3 third x ∷ [],
    )
seats_back _ place bytes long each is = absurd (omega (arith, long))

-- a seating
module _ (s : Seating) (is : IsSeating s) where
  abbrev seating_pieces : List (List ℕ × ℕ)
  seating_pieces = (s.number, 16) ∷ (to_le_bytes w32 s.count, 4) ∷ (s.cookie, 16) ∷ (s.host, 16) ∷ (s.name, 16)
      ∷ (s.seat ∷ [], 1) ∷ (bit s.begun ∷ [], 1) ∷ (terms_bytes s.terms, 288) ∷ []

  seating_sized : Sized seating_pieces
  seating_sized = (
    is.number,
    (refl, (is.cookie, (is.host, (is.name, (refl, (refl, (length-terms s.terms is.terms, tt))))))),
  )

  abbrev seats : List ℕ
  seats = flat_map shown_bytes s.seats

  pub length-seating : length (seating_rest s) + 28 ≡ 581
  length-seating =
      let all : length (seating_rest s) ≡ 358 + length seats = length-joined seating_pieces seats seating_sized in
      omega (arith, all, (seats_back s.seats 0 seats is.three is.seats refl).0)

  stands : Stand 0 seating_pieces seats (seating_rest s)
  stands = stand 0 seating_pieces seats (seating_rest s) seating_sized refl

  pub seating_terms : told_at 288 70 (seating_rest s) ≡ terms_bytes s.terms
  seating_terms = let (number, (count, (cookie, (host, (name, (seat, (begun, (terms, last)))))))) = stands in terms

  pub seating_seats : (a b c : Option Shown) → Reads 358 (seating_rest s) a → Reads 423 (seating_rest s) b
      → Reads 488 (seating_rest s) c → a ∷ b ∷ c ∷ [] ≡ s.seats
  seating_seats =
      let (number, (count, (cookie, (host, (name, (seat, (begun, (terms, last)))))))) = stands in
      (seats_back s.seats 358 (seating_rest s) is.three is.seats last).1

  pub seating_back : told_seating (seating_rest s) ≡ s
  seating_back =
      let (number, (count, (cookie, (host, (name, (seat, (begun, (terms, last)))))))) = stands in
      let counted = number_at s.count _ is.count count in
      let own = byte_at 68 (seating_rest s) _ seat in
      let flag = ap (λ n. n == 1) (byte_at 69 (seating_rest s) _ begun) ∙ bit_back s.begun in
      let same_terms = ap told_terms terms ∙ terms_back s.terms is.terms in
      let three = seating_seats _ _ _ (told_reads 358 (seating_rest s)) (told_reads 423 (seating_rest s))
      (told_reads 488 (seating_rest s)) in
      rw (number, counted, cookie, host, name, own, flag, same_terms, three) refl

-- a refusal
reason_back : (why : Refusal) → (length (reason_bytes why) ≡ 2)
    × (told_reason (slice_index (reason_bytes why) 0) (slice_index (reason_bytes why) 1) ≡ why)
reason_back why = grind arith

-- it has two
two_bytes : (xs : List ℕ) → length xs ≡ 2 → xs ≡ slice_index xs 0 ∷ slice_index xs 1 ∷ []
two_bytes (a ∷ b ∷ []) long = refl
two_bytes _ long = absurd (omega (arith, long))

module _ (r : Refused) (is : IsRefused r) where
  abbrev refused_pieces : List (List ℕ × ℕ)
  refused_pieces = (r.number, 16) ∷ (to_le_bytes w32 r.count, 4) ∷ (r.cookie, 16) ∷ []

  pub length-refused : length (refused_rest r) + 28 ≡ 66
  length-refused =
      let all : length (refused_rest r) ≡ 36 + length (reason_bytes r.refusal) =
      length-joined refused_pieces (reason_bytes r.refusal) (is.number, (refl, (is.cookie, tt))) in
      omega (arith, all, (reason_back r.refusal).0)

  refused_stands : Stand 0 refused_pieces (reason_bytes r.refusal) (refused_rest r)
  refused_stands = stand 0 refused_pieces (reason_bytes r.refusal) (refused_rest r) (is.number, (refl, (is.cookie, tt))) refl

  -- a byte of the reason
  reason_at : (n : ℕ) → slice_index (reason_bytes r.refusal) n ≡ slice_index (refused_rest r) (36 + n)
  reason_at n =
      let (number, (count, (cookie, last))) = refused_stands in
      ap (λ l. get_or l n 0) (sym last) ∙ get_or-drop 36 (refused_rest r) n 0

  pub refused_reason : reason_bytes r.refusal
      ≡ slice_index (refused_rest r) 36 ∷ slice_index (refused_rest r) 37 ∷ []
  refused_reason = two_bytes (reason_bytes r.refusal) (reason_back r.refusal).0
      ∙ (λ x. reason_at 0 x ∷ reason_at 1 x ∷ [])

  pub refused_back : told_refused (refused_rest r) ≡ r
  refused_back =
      let (number, (count, (cookie, last))) = refused_stands in
      let counted = number_at r.count _ is.count count in
      let why = (λ x. told_reason (sym (reason_at 0) x) (sym (reason_at 1) x)) ∙ (reason_back r.refusal).1 in
      rw (number, counted, cookie, why) refl
