-- The last of a list, what is told of several players, and rows of the moves that inputs make.
use Rattle.std.proofs.Common.{◌≡◌, ◌≢◌, ◌<◌, ◌≤◌, ◌+◌, ◌-◌, ℕ, zero, suc, List, [], ◌∷◌, ◌++◌, length, drop, get_or, refl, add-one, sym, ap, subst, ◌∙◌, arith, inl, inr, Option, Some, None, ℤ, Bool, false, cond, ltb, All, ◌&&◌, nat_lt, nat_le, min, max, if◌then◌else◌, option_to_list, option_map, drop-cons, get_or-take}
use Rattle.std.proofs.{Math.Nat.{max-eq_left, max-eq_right}, lemmas.{Bool.cond-true, List.Folds.length-prefix_len}}
use Rattle.std.proofs.lemmas.{Bool.cases_eq, Bool.cases_lt, Bool.le-leb, Bool.lt-ltb, Bool.lt-leb, List.drop_all, List.Elements.All-append, Option.none-some}
use Rattle.std.specs.List.{cons_option, filter_map, range_with_len, take_while}
use Rattle.dn_tic.specs.declared.{command.{TicCmd.TicCmd, Move.Move}, input.Input.{Input, TheVariants.{Given, Pressed}}}
use Rattle.dn_tic.specs.{Pressed.pressed, Inputs.{last_input, made_of, made_by}, Command.used}
use Rattle.dn_machine.specs.{Node.{blank, lacks}, Limits.row_of}
use Rattle.dn_lockstep.proofs.DemosAgreeing.{seat_at}

-- no move has a mark
used_of : (input : Input) (inputs : List Input) (a b : ℤ)
    → used (made_of input inputs a) ≡ used (made_of input inputs b)
unfolding pressed used
used_of (Pressed keys) inputs a b = refl
used_of (Given command) inputs a b = refl

pub used_same : (inputs : List Input) (a b : ℤ) → used (made_by inputs a) ≡ used (made_by inputs b)
unfolding made_by
used_same inputs a b = used_of (last_input inputs) inputs a b

-- rows of commands whose moves are the same
module _ (players : ℕ) (one other : ℕ → Option TicCmd)
    (same : (p : ℕ) → p < players → option_map used (one p) ≡ option_map used (other p)) where
  seat : (p : ℕ) → cond (ltb p players) (option_map used (one p)) None
      ≡ cond (ltb p players) (option_map used (other p)) None
  seat p = grind arith

  pub row_alike : row_of players one ≡ row_of players other
  unfolding row_of
  row_alike = λ i. seat 0 i ∷ seat 1 i ∷ seat 2 i ∷ seat 3 i ∷ []

-- of a player whom the row does not lack
pub seat_there : (players : ℕ) (over : Bool) (c : TicCmd) (f : ℕ → Option TicCmd) (p : ℕ) → p < 4 → p < players
    → f p ≡ (if over then None else Some c) → lacks (row_of players f) p ≡ false
    → get_or (row_of players f) p None ≡ Some (used c)
seat_there players over c f p four low is there = grind (arith, seat_at, cond-true, lt-ltb)

-- a row of the front is the row of its place
pub front_at : (test : List (Option Move) → Bool) (rows : List (List (Option Move))) (tic : ℕ)
    → tic < length (take_while test rows) → get_or (take_while test rows) tic [] ≡ get_or rows tic []
front_at test rows tic l = grind (arith, length-prefix_len, get_or-take)

-- the element of a place, if it is one of the last
abbrev pub if_last : ℕ → List TicCmd → ℕ → Option TicCmd
if_last places xs at =
    if nat_lt at (length xs) && nat_le (length xs - at) places then Some (get_or xs at blank) else None

-- those from a place on are the last from there
lasts_from : (places : ℕ) (xs : List TicCmd) (count from : ℕ) → from + count ≡ length xs
    → filter_map (if_last places xs) (range_with_len from count) ≡ drop (max from (length xs - places)) xs
lasts_from places xs zero from e = grind (arith, drop_all)
lasts_from places xs (suc count) from e =
    let rest = lasts_from places xs count (from + 1) (omega (arith, e)) in
    let low = lt-ltb from (length xs) (omega (arith, e)) in
    elim (cases_lt from (length xs - places)) [
      | inr near ↦
          let on = le-leb (length xs - from) places (omega (arith, near)) in
          let here : max from (length xs - places) ≡ from = max-eq_left near in
          let next : max (from + 1) (length xs - places) ≡ suc from =
          max-eq_left (omega (arith, near)) ∙ add-one from in
          rw (low, on, here) (ap (λ (ys : List TicCmd). get_or xs from blank ∷ ys)
          (rest ∙ ap (λ (k : ℕ). drop k xs) next) ∙ sym (drop-cons xs from blank (omega (arith, e))))
      | inl far ↦ grind (arith, lt-leb, max-eq_right)
    ]

-- so those of the last twenty-four are the last, if no more are kept
pub lasts : (places : ℕ) (xs : List TicCmd) → places ≤ 24
    → filter_map (if_last places xs) (range_with_len (length xs - 24) (min (length xs) 24))
    ≡ drop (length xs - places) xs
lasts places xs few = grind (arith, lasts_from, max-eq_right)

-- what is picked of one number more
onto : {A : Type 0} (o : Option A) (us vs : List A) → cons_option o (us ++ vs) ≡ cons_option o us ++ vs
onto None us vs = refl
onto (Some x) us vs = refl

alone : {A : Type 0} (o : Option A) → cons_option o [] ≡ option_to_list o
alone None = refl
alone (Some x) = refl

picks_next : {A : Type 0} (f : ℕ → Option A) (count from : ℕ)
    → filter_map f (range_with_len from (suc count))
    ≡ filter_map f (range_with_len from count) ++ option_to_list (f (from + count))
picks_next f zero from = alone (f from) ∙ ap (λ (k : ℕ). option_to_list (f k)) (omega arith)
picks_next {A} f (suc count) from =
    ap (cons_option (f from)) (picks_next f count (from + 1)
    ∙ ap (λ (k : ℕ). filter_map f (range_with_len (from + 1) count) ++ option_to_list (f k)) (omega arith))
    ∙ onto (f from) (filter_map f (range_with_len (from + 1) count)) (option_to_list (f (from + suc count)))

pub picks_more : {A : Type 0} (f : ℕ → Option A) (from count next at : ℕ) → next ≡ count + 1 → at ≡ from + count
    → filter_map f (range_with_len from next) ≡ filter_map f (range_with_len from count) ++ option_to_list (f at)
picks_more f from count next at is place = grind (arith, picks_next)

longer : {A : Type 0} (o : Option A) (xs : List A) → length (cons_option o xs) ≤ length xs + 1
longer None xs = omega arith
longer (Some x) xs = omega arith

-- no more than there are
pub picks_few : {A : Type 0} (f : ℕ → Option A) (count from : ℕ)
    → length (filter_map f (range_with_len from count)) ≤ count
picks_few f zero from = omega arith
picks_few {A} f (suc count) from =
    let rest = picks_few f count (from + 1) in
    let one : length (cons_option (f from) (filter_map f (range_with_len (from + 1) count)))
    ≤ length (filter_map f (range_with_len (from + 1) count)) + 1 = longer (f from) _ in
    omega (arith, rest, one)

-- one less, where nothing is picked of one number
no_longer : {A : Type 0} (o : Option A) (xs : List A) → o ≡ None → length (cons_option o xs) ≡ length xs
no_longer None xs e = refl
no_longer (Some x) xs e = absurd (none-some x (sym e))

pub one_less : {A : Type 0} (f : ℕ → Option A) (count from p : ℕ) → f p ≡ None → from ≤ p → p < from + count
    → length (filter_map f (range_with_len from count)) + 1 ≤ count
one_less f zero from p none low high = absurd (omega (arith, low, high))
one_less f (suc count) from p none low high = elim (cases_eq from p) [
  | inl same ↦ grind (arith, picks_few, no_longer)
  | inr other ↦
      let rest = one_less f count (from + 1) p none (omega (arith, low, other)) (omega (arith, high)) in
      let here = longer (f from) (filter_map f (range_with_len (from + 1) count)) in
      omega (arith, rest, here)
]

-- and two less, where nothing is of two
pub two_less : {A : Type 0} (f : ℕ → Option A) (count from p q : ℕ) → p ≢ q → f p ≡ None → f q ≡ None
    → from ≤ p → p < from + count → from ≤ q → q < from + count
    → length (filter_map f (range_with_len from count)) + 2 ≤ count
two_less f zero from p q apart at_p at_q low high low' high' = absurd (omega (arith, low, high))
two_less f (suc count) from p q apart at_p at_q low high low' high' =
    let here = longer (f from) (filter_map f (range_with_len (from + 1) count)) in
    elim (cases_eq from p) [
      | inl same ↦
          let rest = one_less f count (from + 1) q at_q (omega (arith, low', same, apart)) (omega (arith, high')) in
          let none = no_longer (f from) (filter_map f (range_with_len (from + 1) count)) (ap f same ∙ at_p) in
          omega (arith, rest, none)
      | inr other ↦ elim (cases_eq from q) [
        | inl same ↦
            let rest = one_less f count (from + 1) p at_p (omega (arith, low, other)) (omega (arith, high)) in
            let none = no_longer (f from) (filter_map f (range_with_len (from + 1) count)) (ap f same ∙ at_q) in
            omega (arith, rest, none)
        | inr another ↦
            let rest = two_less f count (from + 1) p q apart at_p at_q (omega (arith, low, other))
            (omega (arith, high)) (omega (arith, low', another)) (omega (arith, high')) in
            omega (arith, rest, here)
      ]
    ]

pub up_to : (count tic : ℕ) → tic ≡ count → tic - (count - 24) ≡ min count 24
up_to count tic e = grind (arith, e)

pub once : {A : Type 0} (o : Option A) → length (option_to_list o) ≤ 1
once None = omega arith
once (Some x) = omega arith

-- what holds of all holds of them with one more
pub none_of : {A : Type 0} (P : A → Type 0) (xs : List A) → xs ≡ [] → All P xs
none_of P xs e = subst (All P) (sym e) (λ k d h. absurd (omega (arith, h)))

pub all_one : {A : Type 0} (P : A → Type 0) (x : A) → P x → All P (x ∷ [])
all_one P x p zero d h = p
all_one P x p (suc k) d h = absurd (omega (arith, h))

pub all_more : {A : Type 0} (P : A → Type 0) (xs ys zs : List A) → All P xs → All P ys → zs ≡ xs ++ ys → All P zs
all_more P xs ys zs h k e = subst (All P) (sym e) (All-append P xs ys h k)
