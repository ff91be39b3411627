-- What a ring keeps of a whole list of commands, and its table.
use Rattle.std.proofs.{Common.{◌≡◌, ◌≤◌, ◌+◌, ◌-◌, ℕ, zero, suc, List, [], ◌∷◌, ◌++◌, length, drop, None, ◌<◌, refl, ap, sym, ◌∙◌, arith, ◌%◌, map, take, get_or, set, Some, true, drop-cons, ◌≢◌, inl, inr}, lemmas.List.{drop-append-le, drop-drop, drop_all, length-append, length-drop, take_all, get_or-set_same, get_or-set_other}}
use Rattle.std.proofs.lemmas.Bool.{cases_lt, lt-ltb, le-ltb, le-leb, lt-leb}
use Rattle.std.proofs.lemmas.List.Elements.{All-nil, All-append, All-take, All-drop}
use Rattle.std.proofs.{lemmas.List.FromFn.{length-map-range_with_len, get_or-map-range_with_len, map-range_with_len_more, take-map-range_with_len}, lemmas.Option.{slice_get-get_or, slice_get_within}}
use Rattle.std.specs.Prelude.{slice_get, min, All, nat_le}
use Rattle.std.specs.List.{range_with_len}
use native.Mathlib.Nat.{mod-lt, mod-eq_of_lt, mod-add-mod, mod-eq-sub-mod}
use Rattle.dn_tic.specs.declared.command.TicCmd.{TicCmd}
use Rattle.dn_tic.specs.Command.{IsCommand}
use Rattle.dn_ring.specs.Ring.{put, get, since, ring_of, Ring, last_of, no_command, in_slot, last_in, IsTable, AreSlotsOf}

-- A whole list of commands.

-- one more command
pub put-ring_of : (n : ℕ) (cs : List TicCmd) (c : TicCmd) → put n (ring_of n cs) c ≡ ring_of n (cs ++ c ∷ [])
put-ring_of n cs c =
    let k : ℕ = length cs - n in
    let one = length-append cs (c ∷ []) in
    let kept = length-append (drop k cs) (c ∷ []) in
    let rest = length-drop k cs in
    let count : length cs + 1 ≡ length (cs ++ c ∷ []) = omega arith in
    let joined : drop k cs ++ c ∷ [] ≡ drop k (cs ++ c ∷ []) =
    sym (drop-append-le k cs (c ∷ []) (omega arith)) in
    let place : k + (length (drop k cs ++ c ∷ []) - n) ≡ length (cs ++ c ∷ []) - n = omega arith in
    let last : drop (length (drop k cs ++ c ∷ []) - n) (drop k cs ++ c ∷ [])
    ≡ drop (length (cs ++ c ∷ []) - n) (cs ++ c ∷ []) =
    ap (drop (length (drop k cs ++ c ∷ []) - n)) joined ∙ drop-drop _ k (cs ++ c ∷ [])
    ∙ ap (λ (j : ℕ). drop j (cs ++ c ∷ [])) place in
    λ i. record { count = count i; last = last i }

-- places of a list from one on, and past its end
pub slice_get-drop : {X : Type 0} (k j : ℕ) (xs : List X) → slice_get (drop k xs) j ≡ slice_get xs (k + j)
slice_get-drop zero j xs = let e : 0 + j ≡ j = omega arith in rw e refl
slice_get-drop (suc k) j [] = refl
slice_get-drop (suc k) j (x ∷ xs) = let e : suc k + j ≡ suc (k + j) = omega arith in
    rw e (slice_get-drop k j xs)

pub slice_get-past : {X : Type 0} (xs : List X) (j : ℕ) → length xs ≤ j → slice_get xs j ≡ None
slice_get-past [] j h = refl
slice_get-past (x ∷ xs) zero h = absurd (omega arith)
slice_get-past (x ∷ xs) (suc j) h = slice_get-past xs j (omega arith)

-- the commands from a tic on, and none from a tic that is not there yet
pub since-ring_of : (n : ℕ) (cs : List TicCmd) (g : ℕ) → length cs ≤ g + n → since (ring_of n cs) g ≡ drop g cs
since-ring_of n cs g h = grind (arith, length-drop, drop-drop, cases_lt, drop_all)

-- and nothing of what came before them
pub get-gone : (n : ℕ) (cs : List TicCmd) (g : ℕ) → g + n < length cs → get n (ring_of n cs) g ≡ None
get-gone n cs g h = grind (arith, lt-ltb, lt-leb)

-- what a ring gives of the last commands is what is held
pub get-ring_of : (n : ℕ) (cs : List TicCmd) (g : ℕ) → length cs ≤ g + n → get n (ring_of n cs) g ≡ slice_get cs g
get-ring_of n cs g h =
    grind (arith, cases_lt, lt-ltb, le-leb, length-drop, slice_get-drop, le-ltb, slice_get-past)

-- what a ring keeps of a list, in all
pub ruleset kept_of_lists = (put-ring_of, get-ring_of, since-ring_of, get-gone)

-- The table of a ring.

-- Places of a ring.
-- so many places on, before the end and past it
pub next_place : (n a j : ℕ) → a % n + j < n → (a + j) % n ≡ a % n + j
next_place n a j l = sym (mod-add-mod a n j) ∙ mod-eq_of_lt l

pub around : (n a j : ℕ) → n ≤ a % n + j → a % n + j < n + n → (a + j) % n ≡ a % n + j - n
around n a j low high = sym (mod-add-mod a n j) ∙ (mod-eq-sub-mod low ∙ mod-eq_of_lt (omega arith))

-- two tics less than a round apart have two places
pub apart : (n a b : ℕ) → 0 < n → a < b → b < a + n → a % n ≢ b % n
apart n a b some less near e =
    let place : a % n < n = mod-lt a some in
    let whole : (a + (b - a)) % n ≡ b % n = ap (λ (k : ℕ). k % n) (omega arith) in
    elim (cases_lt (a % n + (b - a)) n) [
      | inl l ↦ let x = next_place n a (b - a) l in omega arith
      | inr m ↦ let x = around n a (b - a) m (omega arith) in omega arith
    ]

pub below : (n a : ℕ) → 0 < n → a % n < n
below n a some = mod-lt a some

module _ {X : Type 0} where
  -- two functions that agree on each number of a range
  map_same : (f g : ℕ → X) (a n : ℕ) → ((t : ℕ) → a ≤ t → t < a + n → f t ≡ g t)
      → map f (range_with_len a n) ≡ map g (range_with_len a n)
  map_same f g a zero same = refl
  map_same f g a (suc n) same =
      let first : f a ≡ g a = same a (omega arith) (omega arith) in
      let rest = map_same f g (a + 1) n (λ t low high. same t (omega arith) (omega arith)) in
      λ i. first i ∷ rest i

  drop_range : (f : ℕ → X) (j a n : ℕ) → drop j (map f (range_with_len a n))
      ≡ map f (range_with_len (a + j) (n - j))
  drop_range f zero a n = let e : a + 0 ≡ a = omega arith in let k : n - 0 ≡ n = omega arith in rw (e, k) refl
  drop_range f (suc j) a zero = let k : 0 - suc j ≡ 0 = omega arith in rw k refl
  drop_range f (suc j) a (suc n) =
      let e : a + suc j ≡ a + 1 + j = omega arith in
      let k : suc n - suc j ≡ n - j = omega arith in
      rw (e, k) (drop_range f j (a + 1) n)

  -- places of a list from one on
  part : (xs : List X) (d : X) (a n : ℕ) → a + n ≤ length xs
      → take n (drop a xs) ≡ map (λ (k : ℕ). get_or xs k d) (range_with_len a n)
  part xs d a zero h = refl
  part xs d a (suc n) h =
      let front = drop-cons xs a d (omega arith) in
      let next : suc a ≡ a + 1 = omega arith in
      let rest = part xs d (a + 1) n (omega arith) in
      ap (take (suc n)) (front ∙ ap (λ (k : ℕ). get_or xs a d ∷ drop k xs) next)
      ∙ ap (λ (ys : List X). get_or xs a d ∷ ys) rest

  -- two functions that agree by places, and two ranges one after the other
  moved : (f g : ℕ → X) (a b n : ℕ) → ((j : ℕ) → j < n → f (a + j) ≡ g (b + j))
      → map f (range_with_len a n) ≡ map g (range_with_len b n)
  moved f g a b zero same = refl
  moved f g a b (suc n) same =
      let first : f a ≡ g b = ap f (omega arith) ∙ same 0 (omega arith) ∙ ap g (omega arith) in
      let rest = moved f g (a + 1) (b + 1) n (λ j low. ap f (omega arith) ∙ same (suc j) (omega arith)
      ∙ ap g (omega arith)) in
      λ i. first i ∷ rest i

  joined : (f : ℕ → X) (a m n : ℕ) → map f (range_with_len a m) ++ map f (range_with_len (a + m) n)
      ≡ map f (range_with_len a (m + n))
  joined f a zero n = let e : a + 0 ≡ a = omega arith in let k : 0 + n ≡ n = omega arith in rw (e, k) refl
  joined f a (suc m) n =
      let e : a + suc m ≡ a + 1 + m = omega arith in
      let k : suc m + n ≡ suc (m + n) = omega arith in
      rw (e, k) (ap (λ (ys : List X). f a ∷ ys) (joined f (a + 1) m n))

-- one more command, in the slot of its tic
module _ (n count : ℕ) (slots : List TicCmd) (table : IsTable n count slots) (c : TicCmd) where
  abbrev pub newer : List TicCmd
  newer = set slots (count % n) c

  stays : (tic : ℕ) → count + 1 - n ≤ tic → tic < count → in_slot n newer tic ≡ in_slot n slots tic
  stays tic low high = get_or-set_other slots (count % n) (tic % n) c no_command (apart n tic count table.some high (omega arith))

  pub put_slot : last_in n (count + 1) newer ≡ last_of n (last_in n count slots ++ c ∷ [])
  put_slot =
      let some = table.some in
      let first : ℕ = count + 1 - n in
      let many : ℕ = min count (n - 1) in
      let total : min (count + 1) n ≡ many + 1 = omega arith in
      let inside : count % n < length slots = let t = table.full in let place = below n count table.some in omega arith in
      let latest : in_slot n newer count ≡ c = get_or-set_same slots (count % n) c no_command inside in
      let kept = map_same (in_slot n newer) (in_slot n slots) first many
      (λ tic low high. stays tic low (omega arith)) in
      let long = length-map-range_with_len (in_slot n slots) (count - n) (min count n) in
      let joined = length-append (last_in n count slots) (c ∷ []) in
      let gone : length (last_in n count slots ++ c ∷ []) - n ≡ first - (count - n) = omega arith in
      let begin : count - n + (first - (count - n)) ≡ first = omega arith in
      let rest : min count n - (first - (count - n)) ≡ many = omega arith in
      let older : drop (first - (count - n)) (last_in n count slots)
      ≡ map (in_slot n slots) (range_with_len first many) =
      drop_range (in_slot n slots) (first - (count - n)) (count - n) (min count n)
      ∙ (λ i. map (in_slot n slots) (range_with_len (begin i) (rest i))) in
      ap (λ (k : ℕ). map (in_slot n newer) (range_with_len first k)) total
      ∙ map-range_with_len_more (in_slot n newer) first many count (omega arith)
      ∙ (λ i. kept i ++ latest i ∷ [])
      ∙ sym (ap (λ (k : ℕ). drop k (last_in n count slots ++ c ∷ [])) gone
      ∙ drop-append-le (first - (count - n)) (last_in n count slots) (c ∷ []) (omega arith)
      ∙ ap (λ (xs : List TicCmd). xs ++ c ∷ []) older)

  pub put_table : record { count = count + 1; last = last_in n (count + 1) newer }
      ≡ put n (record { count = count; last = last_in n count slots }) c
  put_table = λ i. record { count = count + 1; last = put_slot i }

-- the command of a tic stands in its slot
pub get_slot : (n count tic : ℕ) (slots : List TicCmd) → tic < count → count ≤ tic + n
    → get n (record { count = count; last = last_in n count slots }) tic ≡ Some (in_slot n slots tic)
get_slot n count tic slots low high =
    let first = lt-ltb tic count low in
    let second : nat_le (count - tic) n ≡ true = le-leb (count - tic) n (omega arith) in
    let place : ℕ = tic - (count - n) in
    let long = length-map-range_with_len (in_slot n slots) (count - n) (min count n) in
    let there : length (last_in n count slots) - (count - tic) ≡ place = omega arith in
    rw (first, second) (ap (slice_get (last_in n count slots)) there
    ∙ slice_get-get_or (last_in n count slots) place no_command (omega arith)
    ∙ ap Some (get_or-map-range_with_len (in_slot n slots) (count - n) (min count n) place tic no_command
    (omega arith) (omega arith)))

-- the table is that of every list that it may come from
pub slots_are : (n count : ℕ) (slots commands : List TicCmd) → IsTable n count slots
    → record { count = count; last = last_in n count slots } ≡ ring_of n commands → AreSlotsOf n commands slots
slots_are n count slots commands table is =
    let counted : count ≡ length commands = ap (λ (r : Ring). r.count) is in
    let t = table.full in
    record {
      full = table.full;
      taken = λ tic command high at.
          let low = slice_get_within commands tic command at in
          let same : Some (in_slot n slots tic) ≡ Some command =
          sym (get_slot n count tic slots (omega arith) (omega arith)) ∙ ap (λ (r : Ring). get n r tic) is
          ∙ get-ring_of n commands tic high ∙ at in
          let place = below n tic table.some in
          slice_get-get_or slots (tic % n) no_command (omega arith) ∙ same;
      free = λ slot low high.
          slice_get-get_or slots slot no_command (omega arith) ∙ ap Some (table.free slot (omega arith) high);
    }

-- so many commands from a tic on, in the slots of their tics
module _ (n count tic many : ℕ) (some : 0 < n) (slots : List TicCmd) (low : tic + many ≤ count)
    (high : count ≤ tic + n) (full : length slots ≡ n) where
  abbrev first : ℕ
  first = tic % n

  in_table : map (in_slot n slots) (range_with_len tic many)
      ≡ take many (since (record { count = count; last = last_in n count slots }) tic)
  in_table = grind (arith, length-map-range_with_len, drop_range, take-map-range_with_len)

  -- one piece
  piece : (from a few : ℕ) → a + few ≤ n → a ≡ from % n
      → take few (drop a slots) ≡ map (in_slot n slots) (range_with_len from few)
  piece from a few fits place =
      part slots no_command a few (omega arith)
      ∙ moved (λ (k : ℕ). get_or slots k no_command) (in_slot n slots) a from few
      (λ j less. ap (λ (k : ℕ). get_or slots k no_command)
      (let step = next_place n from j (omega arith) in omega arith))

  pub in_one : first + many ≤ n → take many (drop first slots)
      ≡ take many (since (record { count = count; last = last_in n count slots }) tic)
  in_one fits = piece tic first many fits refl ∙ in_table

  pub in_two : n ≤ first + many → take (n - first) (drop first slots) ++ take (first + many - n) slots
      ≡ take many (since (record { count = count; last = last_in n count slots }) tic)
  in_two past =
      let inside = below n tic some in
      let turn = around n tic (n - first) (omega arith) (omega arith) in
      let all : n - first + (first + many - n) ≡ many = omega arith in
      let one = piece tic first (n - first) (omega arith) refl in
      let two = piece (tic + (n - first)) 0 (first + many - n) (omega arith) (omega arith) in
      (λ i. one i ++ two i) ∙ joined (in_slot n slots) tic (n - first) (first + many - n)
      ∙ ap (λ (k : ℕ). map (in_slot n slots) (range_with_len tic k)) all ∙ in_table

-- as many as there are
pub all_since : (ring : Ring) (tic : ℕ) → take (ring.count - tic) (since ring tic) ≡ since ring tic
all_since ring tic = grind (arith, length-drop, take_all)

-- and in the ranges of their fields
module _ (slots : List TicCmd) (valid : All IsCommand slots) where
  valid_part : (a n : ℕ) → All IsCommand (take n (drop a slots))
  valid_part a n = All-take IsCommand n (drop a slots) (All-drop IsCommand a slots valid)

  pub valid_one : (a n : ℕ) → All IsCommand (take n (drop a slots) ++ [])
  valid_one a n = All-append IsCommand (take n (drop a slots)) [] (valid_part a n) (All-nil IsCommand)

  pub valid_two : (a n m : ℕ) → All IsCommand (take n (drop a slots) ++ take m slots)
  valid_two a n m = All-append IsCommand (take n (drop a slots)) (take m slots) (valid_part a n)
      (valid_part 0 m)
