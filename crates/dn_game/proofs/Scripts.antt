-- The numbers, the keys and the lines of a script, and how these are read one after another.
use Rattle.std.proofs.Common.{◌≡◌, ◌<◌, ◌≤◌, ℕ, ◌^◌, ◌*◌, ◌+◌, ◌-◌, List, length, get_or, take, ap, ◌∙◌, arith, ◌≢◌, Bool, true, false, not, eqb, sym, subst, inl, inr, ◌%◌, [], ◌∷◌, ◌++◌, Option, Some, None, refl, lit<, append_assoc, drop, Ok, Err, add-one}
use Rattle.std.specs.{Str.Parse.{AllDigits, digits_value}, Int.{IsInRange, IsOutOfRange, bit_at, w32}}
use Rattle.std.specs.{Prelude.{codes, bit_or, unwrap_or, ◌↔◌}, List.{All, list_all, Contains}}
use Rattle.std.proofs.Math.{Nat.pow-le-pow_right, Seq.{take-length, drop-cons}}
use Rattle.std.proofs.lemmas.{List.{length-take-le, get_or_default, take_more, append_cancel_left, take-append-drop}, Str.digit_value_digit, Int.Digits.{digits_value-lt, digits_value_more, digits_more}, Str.Parse.digit_at}
use Rattle.std.proofs.lemmas.{Bool.{ne_eqb, not-true, eqb-true, eq-eqb, cases_eq, agree_below_at, eqb-false}, List.Sums.AllPass-from_list_all}
use Rattle.std.proofs.lemmas.{List.Elements.{All-nil, All-more, Contains-push, Contains-push_cases, Contains-append_left, All-head, All-tail}, Option.{same_Some, none-some}, List.Quantifiers.position-Some, Nat.{pow_below, or_lt}}
use Rattle.std.proofs.lemmas.{Nat.Bits.{bit_at-zero, bit_at-lt, bit_at_set_same, bit_at_set_other, same_from_bits_below}}
use Rattle.dn_tic.specs.{declared.keys.Key.Key, declared.keys.Key.TheVariants.{Forward, Back, Left, Right, StrafeLeft, StrafeRight, Strafe, Speed, Attack, Use, Weapon1, Weapon2, Weapon3, Weapon4, Weapon5, Weapon6, Weapon7, Weapon8}, Pressed.place_of}
use Rattle.dn_machine.specs.{declared.events.Event.Event, declared.events.Event.TheVariants.{Build, Give, Send, Deliver, Run, Quit, Stop}}
use Rattle.dn_game.specs.Scripts.{IsNumber, AreKeys, place_in_letters, AreLetters, letters, HasNoSpace, IsLineOf, lines, IsSkipped, IsBad, size_limit, AreEventsOf, none, skipped, told, StandsBehind, IsReadAs}
use Rattle.dn_game.specs.declared.script.reading.ScriptFault.TheVariants.{Line, Memory}

-- Numbers.

-- the first i bytes of a word are digits, and this is their number
pub record AreDigits (word : List ℕ) (i number : ℕ) : Type 0 where
  pub few : length word ≤ 9
  pub digits : AllDigits 10 (take i word)
  pub value : number ≡ digits_value 10 (take i word)

-- before the last of nine digits the number is small
pub few_digits : (word : List ℕ) (i number : ℕ) → AreDigits word i number → i < length word → number < 10 ^ 8
few_digits word i number h within =
    grind (arith, length, take, length-take-le, digits_value-lt, pow-le-pow_right)

-- one digit more
pub more_digits : (word : List ℕ) (i number : ℕ) → AreDigits word i number → i < length word
    → IsInRange 48 57 (get_or word i 0) → AreDigits word (i + 1) (10 * number + (get_or word i 0 - 48))
more_digits word i number h within digit =
    grind (arith, digit_value_digit, get_or, digits_value_more, digits_more)

-- a word with another byte is no number
pub not_number : (word : List ℕ) (i : ℕ) → i < length word → IsOutOfRange 48 57 (get_or word i 0) → (n : ℕ)
    → ¬ IsNumber word n
not_number word i within other n number = grind (arith, digit_at)

-- a word of digits is a number
pub whole_number : (word : List ℕ) (i number : ℕ) → AreDigits word i number → i ≡ length word
    → 1 ≤ length word → IsNumber word number
whole_number word i number h all some = grind (arith, take, take-length)

-- Keys: each letter is that of one key, and letters are one set of keys.

-- the keys in the order of their bits
key_at : ℕ → Key
key_at i = get_or (Forward ∷ Back ∷ Left ∷ Right ∷ StrafeLeft ∷ StrafeRight ∷ Strafe ∷ Speed ∷ Attack ∷ Use
    ∷ Weapon1 ∷ Weapon2 ∷ Weapon3 ∷ Weapon4 ∷ Weapon5 ∷ Weapon6 ∷ Weapon7 ∷ Weapon8 ∷ []) i Forward

place_at : (i : ℕ) → i < 18 → place_of (key_at i) ≡ i
unfolding key_at
place_at i h = eqb-true _ _ (agree_below_at (λ k. eqb (place_of (key_at k)) k) (λ k. true) 18 i refl h)

pub place_small : (key : Key) → place_of key < 18
place_small key = grind arith

some_from : (o : Option ℕ) (i : ℕ) → unwrap_or o 18 ≡ i → i < 18 → o ≡ Some i
some_from o i e h = grind arith

-- each letter stands at one place
pub letter_found : (i : ℕ) → i < 18 → place_in_letters (get_or letters i 0) ≡ Some i
letter_found i h = grind (arith, some_from, eqb-true, agree_below_at)

-- a byte that is found is the letter at its place
found_letter : (byte i : ℕ) → place_in_letters byte ≡ Some i → (i < 18) × (get_or letters i 0 ≡ byte)
found_letter byte i e =
    let at = position-Some (λ letter. eqb letter byte) letters i 0 e in
    (at.0, eqb-true _ _ at.1)

-- a byte that is found at one place is the letter of no other
one_place : (byte place i : ℕ) → place_in_letters byte ≡ Some place → i < 18 → byte ≡ get_or letters i 0
    → i ≡ place
one_place byte place i found small same =
    same_Some i place (sym (letter_found i small) ∙ ap place_in_letters (sym same) ∙ found)

-- a byte that is a letter is found
known_found : (byte : ℕ) → Contains letters byte → (i : ℕ) × (place_in_letters byte ≡ Some i)
known_found byte (k, within, same) =
    let here : get_or letters k 0 ≡ byte = get_or_default letters k 0 byte within ∙ same in
    (k, ap place_in_letters (sym here) ∙ letter_found k within)

-- a letter is no byte that is not found
pub letter_is_not : (byte other : ℕ) → Contains letters byte → place_in_letters other ≡ None → byte ≢ other
letter_is_not byte other known missing e = grind (arith, known_found, known, none-some)

-- keys whose bits are those of the letters in a word
pub record AreBits (word : List ℕ) (keys : ℕ) : Type 0 where
  pub below : keys < 2 ^ 18
  pub set : (i : ℕ) → i < 18 → (bit_at keys i ≡ 1) ↔ Contains word (get_or letters i 0)

no_bits : AreBits [] 0
no_bits = grind (arith, lit<, bit_at-zero)

push_bits : (word : List ℕ) (keys byte place : ℕ) → AreBits word keys → place_in_letters byte ≡ Some place
    → AreBits (word ++ byte ∷ []) (bit_or keys (1 * 2 ^ place % 2 ^ 32))
push_bits word keys byte place h found =
    let at = found_letter byte place found in
    let bit : 2 ^ place < 2 ^ 18 = pow_below place 18 at.0 in
    let whole : 1 * 2 ^ place % 2 ^ 32 ≡ 2 ^ place = omega arith in
    let within : place < 32 = omega (arith, at.0) in
    record {
      below = rw whole (or_lt 18 keys (2 ^ place) h.below bit);
      set = λ i small. elim (cases_eq i place) [
        | inl same ↦
            let letter : byte ≡ get_or letters i 0 = sym at.1 ∙ ap (λ k. get_or letters k 0) (sym same) in (
              λ _. subst (Contains (word ++ byte ∷ [])) letter (Contains-push word byte),
              λ _. ap (bit_at (bit_or keys (1 * 2 ^ place % 2 ^ 32))) same
                  ∙ bit_at_set_same w32 keys place within,
            )
        | inr other ↦
            let kept = bit_at_set_other w32 keys place within i other in (
              λ e. Contains-append_left word (byte ∷ []) _ ((h.set i small).0 (sym kept ∙ e)),
              λ has. elim (Contains-push_cases word byte _ has) [
                | inl front ↦ kept ∙ (h.set i small).1 front
                | inr same ↦ absurd (other (one_place byte place i found small same))
              ],
            )
      ];
    }

-- the first i bytes of a word are letters, and these are their keys
pub record AreLettersUpTo (word : List ℕ) (i keys : ℕ) : Type 0 where
  pub other : word ≢ codes "-"
  pub some : 1 ≤ length word
  pub known : All (Contains letters) (take i word)
  pub bits : AreBits (take i word) keys

pub no_letters : (word : List ℕ) → word ≢ codes "-" → 1 ≤ length word → AreLettersUpTo word 0 0
no_letters word other some = grind (arith, All-nil, no_bits)

pub more_letters : (word : List ℕ) (i keys place : ℕ) → AreLettersUpTo word i keys → i < length word
    → Some place ≡ place_in_letters (get_or word i 0)
    → AreLettersUpTo word (i + 1) (bit_or keys (1 * 2 ^ place % 2 ^ 32))
more_letters word i keys place h within found =
    let at = found_letter (get_or word i 0) place (sym found) in
    let next = take_more word i 0 within in
    let letter : get_or letters place (get_or word i 0) ≡ get_or word i 0 =
    get_or_default letters place _ 0 at.0 ∙ at.1 in
    record {
      other = h.other;
      some = h.some;
      known = All-more (Contains letters) word i 0 within h.known (place, at.0, letter);
      bits = rw next (push_bits _ _ _ _ h.bits (sym found));
    }

pub not_keys : (word : List ℕ) (i keys : ℕ) → AreLettersUpTo word i keys → i < length word
    → None ≡ place_in_letters (get_or word i 0) → (k : ℕ) → ¬ AreKeys word k
not_keys word i keys h within no_letter k (inl minus) = h.other minus.0
not_keys word i keys h within no_letter k (inr some) = letter_is_not _ _ (some.known i 0 within) (sym no_letter) refl

pub whole_keys : (word : List ℕ) (i keys : ℕ) → AreLettersUpTo word i keys → i ≡ length word
    → AreKeys word (keys % 2 ^ 18)
whole_keys word i keys h all =
    let whole : take i word ≡ word = ap (λ n. take n word) all ∙ take-length word in
    let bits : AreBits word keys = subst (λ w. AreBits w keys) whole h.bits in
    let same : keys % 2 ^ 18 ≡ keys = omega (arith, h.bits.below) in
    rw same (inr (record {
      some = h.some;
      known = rw whole at h.known;
      small = h.bits.below;
      down = λ key.
          let one = bits.set (place_of key) (place_small key) in
          (λ down. one.0 (eqb-true _ _ down), λ has. eq-eqb _ _ (one.1 has));
    }))

-- bits are the same where each is set with the other
same_bit : (a b i : ℕ) → (bit_at a i ≡ 1 → bit_at b i ≡ 1) → (bit_at b i ≡ 1 → bit_at a i ≡ 1)
    → bit_at a i ≡ bit_at b i
same_bit a b i p q = grind (arith, bit_at-lt)

same_keys : (word : List ℕ) (a b : ℕ) → AreLetters word a → AreLetters word b → (key : Key)
    → bit_at a (place_of key) ≡ 1 → bit_at b (place_of key) ≡ 1
same_keys word a b p q key set = eqb-true _ _ ((q.down key).1 ((p.down key).0 (eq-eqb _ _ set)))

-- a word is one set of keys
pub one_keys : (word : List ℕ) (a b : ℕ) → AreKeys word a → AreKeys word b → a ≡ b
one_keys word a b (inl p) (inl q) = p.1 ∙ sym q.1
one_keys word a b (inl p) (inr q) =
    absurd (letter_is_not _ 45 (q.known 0 0 q.some) refl (ap (λ w. get_or w 0 0) p.0))
one_keys word a b (inr p) (inl q) =
    absurd (letter_is_not _ 45 (p.known 0 0 p.some) refl (ap (λ w. get_or w 0 0) q.0))
one_keys word a b (inr p) (inr q) = same_from_bits_below 18 a b p.small q.small (λ i h.
    let key = key_at i in
    let same = same_bit a b (place_of key) (same_keys word a b p q key) (same_keys word b a q p key) in
    subst (λ k. bit_at a k ≡ bit_at b k) (place_at i h) same)

-- Words of a script that lack a byte, as a space or a line feed.

abbrev pub Lacks : ℕ → List ℕ → Type 0
Lacks byte text = All (λ b. eqb b byte ≡ false) text

-- as a test of each of its bytes tells
abbrev pub is_lacking : ℕ → List ℕ → Bool
is_lacking byte text = list_all (λ b. not (eqb b byte)) text

pub lacks : (byte : ℕ) (text : List ℕ) → is_lacking byte text ≡ true → Lacks byte text
lacks byte text h = λ i d within. not-true _ (AllPass-from_list_all (λ b. not (eqb b byte)) text h i d within)

pub number_lacks : (byte : ℕ) (word : List ℕ) (n : ℕ) → byte < 48 → IsNumber word n → Lacks byte word
number_lacks byte word n small h i d within =
    let digit = digit_at word i h.digits within in
    let other : get_or word i 0 ≢ byte = omega (arith, digit) in
    ap (λ b. eqb b byte) (get_or_default word i d 0 within) ∙ ne_eqb _ _ other

pub keys_lack : (byte : ℕ) (word : List ℕ) (keys : ℕ) → is_lacking byte (codes "-") ≡ true
    → place_in_letters byte ≡ None → AreKeys word keys → Lacks byte word
keys_lack byte word keys other missing (inl no_key) =
    subst (Lacks byte) (sym no_key.0) (lacks byte (codes "-") other)
keys_lack byte word keys other missing (inr some) =
    λ i d within. ne_eqb _ _ (letter_is_not _ byte (some.known i d within) missing)

-- Lines: where their words end, and that a line is that of one event.

-- texts that begin with two bytes are two
pub heads_differ : {x y : ℕ} {s t : List ℕ} → eqb x y ≡ false → x ∷ s ≡ y ∷ t → ⊥
heads_differ {x} {y} test e = eqb-false x y test (ap (λ s. get_or s 0 0) e)

pub seconds_differ : {v w x y : ℕ} {s t : List ℕ} → eqb x y ≡ false → v ∷ x ∷ s ≡ w ∷ y ∷ t → ⊥
seconds_differ {v} {w} {x} {y} test e = eqb-false x y test (ap (λ s. get_or s 1 0) e)

-- a text has one first space
pub one_cut : (a b c d : List ℕ) → HasNoSpace a → HasNoSpace b → a ++ 32 ∷ c ≡ b ++ 32 ∷ d → a ≡ b
one_cut [] [] c d p q e = refl
one_cut [] (y ∷ b) c d p q e = grind (arith, eqb-false, All-head, eqb, false)
one_cut (x ∷ a) [] c d p q e = grind (arith, eqb-false, All-head, eqb, false)
one_cut (x ∷ a) (y ∷ b) c d p q e =
    let same : x ≡ y = cc in
    let rest : a ++ 32 ∷ c ≡ b ++ 32 ∷ d = cc in
    let more : a ≡ b = one_cut a b c d (All-tail (λ z. eqb z 32 ≡ false) x a p)
    (All-tail (λ z. eqb z 32 ≡ false) y b q) rest in
    cc

-- and one text behind it
pub one_rest : (a b c d : List ℕ) → HasNoSpace a → HasNoSpace b → a ++ 32 ∷ c ≡ b ++ 32 ∷ d → c ≡ d
one_rest a b c d p q e = grind (arith, one_cut, append_cancel_left)

-- a text is cut at its first space in one way
pub one_way : (text a b n m : List ℕ) → HasNoSpace a → HasNoSpace n → text ≡ (a ++ codes " ") ++ b
    → text ≡ (n ++ codes " ") ++ m → (n ≡ a) × (m ≡ b)
one_way text a b n m p q e f = grind (arith, append_assoc, one_cut, one_rest)

-- a text whose first word ends at a space, behind send and behind build
module _ (text a b : List ℕ) (cut : HasNoSpace a) (whole : text ≡ (a ++ codes " ") ++ b) where
  pub sent : (e : Event) → IsLineOf e (codes "send " ++ text)
      → (node : ℕ) × (to : ℕ) × IsNumber a node × IsNumber b to
  sent (Send node to) (n, m, sender, receiver, line) =
      let words = one_way text a b n m cut (number_lacks 32 n node (omega arith) sender) whole (cc) in
      (node, to, subst (λ w. IsNumber w node) words.0 sender, subst (λ w. IsNumber w to) words.1 receiver)
  sent (Build node keys) (_, _, _, _, line) = absurd (heads_differ refl line)
  sent (Give node command) never = absurd never
  sent (Deliver flight) (_, _, line) = absurd (heads_differ refl line)
  sent (Run node) (_, _, line) = absurd (heads_differ refl line)
  sent (Quit node) (_, _, line) = absurd (heads_differ refl line)
  sent (Stop node) (_, _, line) = absurd (seconds_differ refl line)

  pub built : (e : Event) → IsLineOf e (codes "build " ++ text)
      → (node : ℕ) × (keys : ℕ) × IsNumber a node × AreKeys b keys
  built (Build node keys) (n, k, number, held, line) =
      let words = one_way text a b n k cut (number_lacks 32 n node (omega arith) number) whole (cc) in
      (node, keys, subst (λ w. IsNumber w node) words.0 number, subst (λ w. AreKeys w keys) words.1 held)
  built (Give node command) never = absurd never
  built (Send node to) (_, _, _, _, line) = absurd (heads_differ refl line)
  built (Deliver flight) (_, _, line) = absurd (heads_differ refl line)
  built (Run node) (_, _, line) = absurd (heads_differ refl line)
  built (Quit node) (_, _, line) = absurd (heads_differ refl line)
  built (Stop node) (_, _, line) = absurd (heads_differ refl line)

-- one word behind another that is neither build nor send: where it is no number, the line is that of no event
pub no_number : (verb word line : List ℕ) → is_lacking 32 verb ≡ true → verb ≢ codes "build"
    → verb ≢ codes "send" → line ≡ verb ++ 32 ∷ word
    → ((n : ℕ) → ¬ IsNumber word n) → (e : Event) → ¬ IsLineOf e line
no_number verb word line p build send whole bad = go
  where
    cut : (other rest : List ℕ) → is_lacking 32 other ≡ true → line ≡ other ++ 32 ∷ rest → verb ≡ other
    cut other rest q same = one_cut verb other word rest (lacks 32 verb p) (lacks 32 other q) (sym whole ∙ same)

    numbered : (other n : List ℕ) (k : ℕ) → is_lacking 32 other ≡ true → line ≡ other ++ 32 ∷ n → ¬ IsNumber n k
    numbered other n k q same number = grind (arith, one_rest, lacks)

    go : (e : Event) → ¬ IsLineOf e line
    go (Build node keys) (n, k, _, _, same) = build (cut (codes "build") _ refl same)
    go (Give node command) never = never
    go (Send node to) (n, m, _, _, same) = send (cut (codes "send") _ refl same)
    go (Deliver flight) (n, number, same) = numbered (codes "deliver") n flight refl same number
    go (Run node) (n, number, same) = numbered (codes "run") n node refl same number
    go (Quit node) (n, number, same) = numbered (codes "quit") n node refl same number
    go (Stop node) (n, number, same) = numbered (codes "stop") n node refl same number

-- The lines are read one after another.

-- a line more that is skipped, and one that is an event's
AreEventsOf-skipped : {all : List (List ℕ)} {events : List Event} (line : List ℕ) → AreEventsOf all events
    → IsSkipped line → AreEventsOf (all ++ line ∷ []) events
AreEventsOf-skipped line none s = skipped s none
AreEventsOf-skipped line (skipped t more) s = skipped t (AreEventsOf-skipped line more s)
AreEventsOf-skipped line (told t more) s = told t (AreEventsOf-skipped line more s)

AreEventsOf-told : {all : List (List ℕ)} {events : List Event} (line : List ℕ) (event : Event)
    → AreEventsOf all events → IsLineOf event line → AreEventsOf (all ++ line ∷ []) (events ++ event ∷ [])
AreEventsOf-told line event none s = told s none
AreEventsOf-told line event (skipped t more) s = skipped t (AreEventsOf-told line event more s)
AreEventsOf-told line event (told t more) s = told t (AreEventsOf-told line event more s)

-- a text whose first `count` lines were read
pub record HaveRead (text : List ℕ) (count number : ℕ) (events : List Event) : Type 0 where
  pub short : length text ≤ size_limit
  pub counted : number ≡ count
  pub good : AreEventsOf (take count (lines text)) events

-- the line behind `count` others
pub record IsNext (text : List ℕ) (count : ℕ) (line : List ℕ) : Type 0 where
  pub within : count < length (lines text)
  pub here : line ≡ get_or (lines text) count line

module _ {text : List ℕ} {count number : ℕ} {events : List Event} {line : List ℕ}
    (h : HaveRead text count number events) (n : IsNext text count line) where
  taken : take (count + 1) (lines text) ≡ take count (lines text) ++ line ∷ []
  taken = take_more (lines text) count line n.within
      ∙ ap (λ l. take count (lines text) ++ l ∷ []) (sym n.here)

  pub more_skipped : IsSkipped line → HaveRead text (count + 1) (number + 1) events
  more_skipped s = grind (arith, taken, AreEventsOf-skipped)

  pub more_told : (event : Event) → IsLineOf event line
      → HaveRead text (count + 1) (number + 1) (events ++ event ∷ [])
  more_told event s = grind (arith, taken, AreEventsOf-told)

  stands : StandsBehind (lines text) line count
  stands =
      let next : drop count (lines text) ≡ line ∷ drop (count + 1) (lines text) =
      rw add-one (drop-cons (lines text) count line n.within)
      ∙ ap (λ l. l ∷ drop (count + 1) (lines text)) (sym n.here) in
      record {
        before = take count (lines text);
        after = drop (count + 1) (lines text);
        whole = sym (take-append-drop count (lines text)) ∙ ap (λ l. take count (lines text) ++ l) next;
        counted = length-take-le count (lines text) (omega (arith, n.within));
        events = events;
        good = h.good;
      }

  pub bad_line : IsBad line → IsReadAs text (Err (Line (number + 1)))
  bad_line bad = (h.short, (line, count, stands, bad, ap (λ k. k + 1) h.counted))

  pub no_room : (event : Event) → IsLineOf event line → IsReadAs text (Err Memory)
  no_room event s = (h.short, (line, count, event, stands, s))

pub all_read : {text : List ℕ} {count number : ℕ} {events : List Event} → HaveRead text count number events
    → count ≡ length (lines text) → IsReadAs text (Ok events)
all_read {text} {count} {number} {events} h all = grind (arith, take-length)

pub nothing_read : {text : List ℕ} → length text ≤ size_limit → HaveRead text 0 0 []
nothing_read short = record { short = short; counted = refl; good = none }
