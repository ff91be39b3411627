-- What is written for events is read as these events.
use Rattle.std.proofs.Common.{◌≡◌, ◌≢◌, ◌<◌, ◌≤◌, ℕ, zero, suc, ◌^◌, Bool, true, false, cond, eqb, List, [], ◌∷◌, ◌++◌, length, get_or, filter, append_assoc, refl, sym, ap, ◌∙◌, subst, inl, inr, lit<, arith}
use Rattle.std.specs.{Prelude.{codes, Ok}, Fmt.decimal, Int.bit_at, List.{All, Contains}}
use Rattle.std.proofs.lemmas.{Bool.{eqb-true, eq-eqb, cases_eq, ne_eqb, cond-true, cond-false}, Fmt.{decimal_is_IsNumeral, length-decimal-le}, List.get_or_default, List.Elements.{Contains-append_right, All-append, All-filter, All-head, All-tail, filter_passes}}
use Rattle.std.proofs.lemmas.{List.Splits.{slice_split_at, slice_split_none}, Nat.Bits.{bit_at-zero, bit_at-lt, same_from_bits_below}}
use Rattle.dn_tic.specs.Pressed.{place_of}
use Rattle.dn_machine.specs.{declared.events.Event.Event, declared.events.Event.TheVariants.{Build, Give, Send, Deliver, Run, Quit, Stop}}
use Rattle.dn_game.specs.Scripts.{IsNumber, AreKeys, AreLetters, letters, place_in_letters, lines, IsLineOf, size_limit, AreEventsOf, skipped, told, none, IsReadAs, is_down_at, letters_down, keys_word, event_words, script_text, IsScriptNumber, HasScriptLine}
use Rattle.dn_game.proofs.Scripts.{Lacks, is_lacking, lacks, number_lacks, keys_lack, letter_found, place_small}
use Rattle.dn_game.proofs.script.written.written_scripts_are_read.Goals as goal

-- a number of at most nine digits is read back
number_written : (n : ℕ) → IsScriptNumber n → IsNumber (decimal n) n
number_written n short =
    let small : n < 2 ^ 64 = omega (arith, short) in
    let is = decimal_is_IsNumeral n small in
    record {
      some = is.0.0;
      few = length-decimal-le 9 n (lit< tt) short small;
      digits = is.0.1;
      value = sym is.1;
    }

-- what is in a list is in it behind one element more
behind : (b : Bool) (y : ℕ) (ys : List ℕ) (x : ℕ) → Contains ys x → Contains (cond b (y ∷ ys) ys) x
behind true y ys x there = Contains-append_right (y ∷ []) ys x there
behind false y ys x there = there

-- an element that passes is kept
kept : (p : ℕ → Bool) (xs : List ℕ) (i x : ℕ) → i < length xs → get_or xs i x ≡ x → p x ≡ true
    → Contains (filter p xs) x
kept p [] i x within here pass = absurd (omega (arith, within))
kept p (y ∷ xs) zero x within here pass =
    subst (λ l. Contains l x) (sym (cond-true _ _ _ (ap p here ∙ pass))) (0, omega arith, here)
kept p (y ∷ xs) (suc i) x within here pass =
    behind (p y) y (filter p xs) x (kept p xs i x (omega (arith, within)) here pass)

module _ (keys : ℕ) where
  passes : ℕ → Bool
  passes letter = is_down_at keys (place_in_letters letter)

  -- a letter of keys is there exactly where its bit is set
  bit_written : (i : ℕ) → i < 18 → bit_at keys i ≡ 1 → Contains (letters_down keys letters) (get_or letters i 0)
  unfolding passes
  bit_written i small set =
      kept passes letters i (get_or letters i 0) small (get_or_default letters i (get_or letters i 0) 0 small)
      (ap (is_down_at keys) (letter_found i small) ∙ eq-eqb _ _ set)

  written_bit : (i : ℕ) → i < 18 → Contains (letters_down keys letters) (get_or letters i 0) → bit_at keys i ≡ 1
  unfolding passes
  written_bit i small (k, within, same) =
      let pass : passes (get_or (letters_down keys letters) k (get_or letters i 0)) ≡ true =
      filter_passes passes letters k (get_or letters i 0) within in
      eqb-true _ _ (sym (ap (is_down_at keys) (letter_found i small)) ∙ sym (ap passes same) ∙ pass)

  no_letter : length (letters_down keys letters) ≡ 0 → keys < 2 ^ 18 → keys ≡ 0
  no_letter nil small = same_from_bits_below 18 keys 0 small (lit< tt)
      (λ i h. elim (cases_eq (bit_at keys i) 1) [
        | inl set ↦ let there = (bit_written i h set).1 in absurd (omega (arith, there, nil))
        | inr clear ↦ omega (arith, clear, bit_at-lt keys i, bit_at-zero i)
      ])

  letters_written : keys ≢ 0 → keys < 2 ^ 18 → AreLetters (letters_down keys letters) keys
  unfolding passes
  letters_written some small = record {
    some = elim (cases_eq (length (letters_down keys letters)) 0)
        [ inl nil ↦ absurd (some (no_letter nil small)) | inr many ↦ omega (arith, many) ];
    known = All-filter passes (Contains letters) letters
        (λ i d within. (i, within, get_or_default letters i (get_or letters i d) d within));
    small = small;
    down = λ key. (
      λ set. bit_written (place_of key) (place_small key) (eqb-true _ _ set),
      λ there. eq-eqb _ _ (written_bit (place_of key) (place_small key) there),
    );
  }

  keys_written : keys < 2 ^ 18 → AreKeys (keys_word keys) keys
  keys_written small = grind (arith, cond-true, eq-eqb, cond-false, ne_eqb, letters_written)

-- the words of an event are its line, and have no line feed
words_read : (event : Event) → HasScriptLine event → IsLineOf event (event_words event)
words_read (Build node keys) can =
    (decimal node, keys_word keys, number_written node can.0, keys_written keys can.1, refl)
words_read (Give node command) can = can
words_read (Send node to) can = (
  decimal node,
  decimal to,
  number_written node can.0,
  number_written to can.1,
  refl,
)
words_read (Deliver flight) can = (decimal flight, number_written flight can, refl)
words_read (Run node) can = (decimal node, number_written node can, refl)
words_read (Quit node) can = (decimal node, number_written node can, refl)
words_read (Stop node) can = (decimal node, number_written node can, refl)

-- one word behind another, and two, without a line feed
one_behind : (verb word : List ℕ) → is_lacking 10 verb ≡ true → Lacks 10 word → Lacks 10 (verb ++ word)
one_behind verb word v p = All-append (λ byte. eqb byte 10 ≡ false) verb word (lacks 10 verb v) p

two_behind : (verb a b : List ℕ) → is_lacking 10 verb ≡ true → Lacks 10 a → Lacks 10 b
    → Lacks 10 (((verb ++ a) ++ codes " ") ++ b)
two_behind verb a b v p q =
    let P = λ (byte : ℕ). eqb byte 10 ≡ false in
    All-append P ((verb ++ a) ++ codes " ") b
    (All-append P (verb ++ a) (codes " ") (one_behind verb a v p) (lacks 10 (codes " ") refl)) q

number_no_feed : (n : ℕ) → IsScriptNumber n → Lacks 10 (decimal n)
number_no_feed n short = number_lacks 10 (decimal n) n (omega arith) (number_written n short)

words_no_feed : (event : Event) → HasScriptLine event → Lacks 10 (event_words event)
words_no_feed (Build node keys) can =
    two_behind (codes "build ") (decimal node) (keys_word keys) refl (number_no_feed node can.0)
    (keys_lack 10 (keys_word keys) keys refl refl (keys_written keys can.1))
words_no_feed (Give node command) can = absurd can
words_no_feed (Send node to) can =
    two_behind (codes "send ") (decimal node) (decimal to) refl (number_no_feed node can.0)
    (number_no_feed to can.1)
words_no_feed (Deliver flight) can =
    one_behind (codes "deliver ") (decimal flight) refl (number_no_feed flight can)
words_no_feed (Run node) can = one_behind (codes "run ") (decimal node) refl (number_no_feed node can)
words_no_feed (Quit node) can = one_behind (codes "quit ") (decimal node) refl (number_no_feed node can)
words_no_feed (Stop node) can = one_behind (codes "stop ") (decimal node) refl (number_no_feed node can)

-- the lines of a script are those of its events
lines_read : (events : List Event) → All HasScriptLine events → AreEventsOf (lines (script_text events)) events
lines_read [] can =
    subst (λ ls. AreEventsOf ls []) (sym (slice_split_none (λ byte. eqb byte 10) [] (lacks 10 [] refl)))
    (skipped (inl refl) none)
lines_read (event ∷ events) can =
    let here = All-head HasScriptLine event events can in
    let cut = ap lines (append_assoc (event_words event) (codes "\n") (script_text events))
    ∙ slice_split_at (λ byte. eqb byte 10) (event_words event) 10 (script_text events)
    (words_no_feed event here) refl in
    subst (λ ls. AreEventsOf ls (event ∷ events)) (sym cut)
    (told (words_read event here) (lines_read events (All-tail HasScriptLine event events can)))

script_read : (events : List Event) → All HasScriptLine events → length (script_text events) ≤ size_limit
    → IsReadAs (script_text events) (Ok events)
script_read events can short = (short, lines_read events can)

pub returns : goal.returns
returns c = script_read
