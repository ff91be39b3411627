-- A world that is stepped by the rows of a demo.
use Rattle.std.proofs.Common.{◌≡◌, ◌<◌, ◌≤◌, ℕ, zero, suc, ◌+◌, ◌-◌, List, [], ◌∷◌, ◌++◌, length, drop, slice_get, refl, ap, ◌∙◌, arith, ◌≢◌, ◌*◌, Bool, map, take, fold, Option, Some, sym, inl, inr, append_assoc, length-append, mul-le-mul_left}
use Rattle.std.proofs.lemmas.{Bool.cases_lt, List.{take-append-le, take-append-drop, length-take-le, length-drop, drop-drop}, List.FromFn.map-range_with_len_more, List.Sums.fold-append}
use Rattle.std.specs.List.{range_with_len}
use Rattle.dn_tic.specs.declared.command.Move.{Move}
use Rattle.dn_world.specs.Physics.{Physics}
use Rattle.dn_demo.specs.{Layout.{Layout, command_size}, Text.{player_count, marker}, Places.{start_in, seats_in, place, moves_from, row_in, rows_in}, Feeding.{row_size, state_by, StepsRows}}
use Rattle.dn_demo.proofs.Fronts.{start_in-take, seats_in-take, moves_from-take, map-agree}

-- What stands at an index of joined bytes, or of a rest.

-- what stands in the first
pub get_first : (xs ys : List ℕ) (i : ℕ) → i < length xs → slice_get (xs ++ ys) i ≡ slice_get xs i
get_first [] ys i below = absurd (omega arith)
get_first (x ∷ xs) ys zero below = refl
get_first (x ∷ xs) ys (suc i) below = get_first xs ys i (omega arith)

-- what stands behind it
pub get_second : (xs ys : List ℕ) (i : ℕ) → length xs ≤ i → slice_get (xs ++ ys) i ≡ slice_get ys (i - length xs)
get_second [] ys i past = ap (slice_get ys) (omega arith)
get_second (x ∷ xs) ys zero past = absurd (omega arith)
get_second (x ∷ xs) ys (suc i) past = grind (arith, suc, get_second xs ys i (omega arith), slice_get)

-- what stands in a rest
pub get_rest : (n i : ℕ) (xs : List ℕ) → slice_get (drop n xs) i ≡ slice_get xs (n + i)
get_rest zero i xs = ap (slice_get xs) (omega arith)
get_rest (suc n) i [] = refl
get_rest (suc n) i (x ∷ xs) =
    let same : suc n + i ≡ suc (n + i) = omega arith in rw same (get_rest n i xs)

-- a header tells the same, whatever stands behind it
pub start_in-append : (bytes more : List ℕ) → 13 ≤ length bytes → start_in (bytes ++ more) ≡ start_in bytes
start_in-append bytes more whole =
    sym (start_in-take 13 (bytes ++ more) (omega arith)) ∙ ap start_in (take-append-le 13 bytes more whole)
    ∙ start_in-take 13 bytes (omega arith)

pub seats_in-append : (bytes more : List ℕ) → 13 ≤ length bytes → seats_in (bytes ++ more) ≡ seats_in bytes
seats_in-append bytes more whole =
    sym (seats_in-take 13 (bytes ++ more) (omega arith)) ∙ ap seats_in (take-append-le 13 bytes more whole)
    ∙ seats_in-take 13 bytes (omega arith)

-- and so do whole commands
moves_from-append : (layout : Layout) (k : ℕ) (bytes more : List ℕ) (seats : List Bool) (command : ℕ)
    → place layout k ≤ length bytes
    → command + player_count seats ≤ k → moves_from layout (bytes ++ more) seats command
    ≡ moves_from layout bytes seats command
moves_from-append layout k bytes more seats command whole fits =
    sym (moves_from-take layout k (bytes ++ more) seats command fits)
    ∙ ap (λ (t : List ℕ). moves_from layout t seats command) (take-append-le (place layout k) bytes more whole)
    ∙ moves_from-take layout k bytes seats command fits

row_in-append : (layout : Layout) (bytes more : List ℕ) (tics tic : ℕ)
    → place layout (player_count (seats_in bytes) * tics) ≤ length bytes
    → tic < tics → row_in layout (bytes ++ more) tic ≡ row_in layout bytes tic
row_in-append layout bytes more tics tic whole below =
    let players = player_count (seats_in bytes) in
    let fits : players * (tic + 1) ≤ players * tics = mul-le-mul_left players (omega arith) in
    ap (λ (s : List Bool). moves_from layout (bytes ++ more) s (player_count s * tic))
    (seats_in-append bytes more (omega arith))
    ∙ moves_from-append layout (players * tics) bytes more (seats_in bytes) (players * tic) whole (omega arith)

pub rows_in-append : (layout : Layout) (bytes more : List ℕ) (tics : ℕ)
    → place layout (player_count (seats_in bytes) * tics) ≤ length bytes
    → rows_in layout (bytes ++ more) tics ≡ rows_in layout bytes tics
rows_in-append layout bytes more tics whole =
    map-agree (row_in layout (bytes ++ more)) (row_in layout bytes) 0 tics
    (λ i low high. row_in-append layout bytes more tics i whole (omega arith))

-- so the world is the same after tics that came
pub state_by-append : {S : Type 0} (physics : Physics S) (layout : Layout) (bytes more : List ℕ) (tics : ℕ)
    → place layout (player_count (seats_in bytes) * tics) ≤ length bytes
    → state_by physics layout (bytes ++ more) tics ≡ state_by physics layout bytes tics
state_by-append physics layout bytes more tics whole = grind (arith, start_in-append, seats_in-append, rows_in-append, fold)

-- one more tic
pub state_by-more : {S : Type 0} (physics : Physics S) (layout : Layout) (bytes : List ℕ) (tics : ℕ)
    → state_by physics layout bytes (tics + 1) ≡ physics.step (state_by physics layout bytes tics)
    (row_in layout bytes tics)
state_by-more physics layout bytes tics =
    let begun = physics.begin (start_in bytes) (seats_in bytes) in
    ap (fold physics.step begun) (map-range_with_len_more (row_in layout bytes) 0 tics tics (omega arith))
    ∙ fold-append physics.step begun (map (row_in layout bytes) (range_with_len 0 tics))
    (row_in layout bytes tics ∷ [])

-- no step yet
pub steps_none : {S W : Type 0} (state : W → S) (physics : Physics S) (layout : Layout) (present : List Bool)
    (w : W) (piece : List ℕ) → StepsRows state physics layout present w piece piece w
steps_none state physics layout present w piece = grind (arith, state_by-append)

-- one row on
pub steps_more : {S W : Type 0} (state : W → S) (physics : Physics S) (layout : Layout) (present : List Bool)
    (old mid new : W) (piece rest after : List ℕ) (moves : List (Option Move))
    → StepsRows state physics layout present old piece rest mid
    → row_size layout present ≤ length rest → after ≡ drop (row_size layout present) rest
    → ((command : ℕ) → command < player_count present
    → slice_get rest (command_size layout * command) ≢ Some marker)
    → ((front : List ℕ) (command : ℕ) → length front + 0 ≡ place layout command
    → moves ≡ moves_from layout (front ++ rest) present command)
    → state new ≡ physics.step (state mid) moves → StepsRows state physics layout present old piece after new
steps_more state physics layout present old mid new piece rest after moves so_far room next none told
    stepped =
    let n = so_far.tics in
    let size = row_size layout present in
    let all = command_size layout in
    let players = player_count present in
    let more : size * (n + 1) ≡ size * n + size = omega arith in
    let left : after ≡ drop (size * (n + 1)) piece =
    next ∙ ap (drop size) so_far.left ∙ drop-drop size (size * n) piece
    ∙ ap (λ m. drop m piece) (omega (arith, more)) in
    let len = ap length so_far.left ∙ length-drop (size * n) piece in
    let within : size * (n + 1) ≤ length piece = omega (arith, more, len, room, so_far.within) in
    record {
      tics = n + 1;
      left = left;
      within = within;
      unmarked = λ command below here. elim (cases_lt command (players * n)) [
        | inl before ↦ so_far.unmarked command before here
        | inr past ↦
            let j = command - players * n in
            let sum : command ≡ players * n + j = omega arith in
            let spread : all * (players * n + j) ≡ size * n + all * j = omega arith in
            let at : all * command ≡ size * n + all * j = ap (λ c. all * c) sum ∙ spread in
            let there : slice_get rest (all * j) ≡ Some marker =
            ap (λ (t : List ℕ). slice_get t (all * j)) so_far.left
            ∙ get_rest (size * n) (all * j) piece ∙ ap (slice_get piece) (sym at) ∙ here in
            none j (omega arith) there
      ];
      world = λ bytes before seats e is.
          let front = bytes ++ take (size * n) piece in
          let whole : front ++ rest ≡ bytes ++ piece =
          append_assoc bytes (take (size * n) piece) rest
          ∙ ap (λ (t : List ℕ). bytes ++ (take (size * n) piece ++ t)) so_far.left
          ∙ ap (λ (t : List ℕ). bytes ++ t) (take-append-drop (size * n) piece) in
          let len : length front + 0 ≡ place layout (players * (before + n)) =
          omega (
            arith,
            length-append bytes (take (size * n) piece),
            length-take-le (size * n) piece so_far.within,
            e,
          ) in
          let present_in : present ≡ seats_in (bytes ++ piece) =
          sym (seats_in-append bytes piece (omega arith) ∙ seats) in
          let sum : before + n + 1 ≡ before + (n + 1) = omega arith in
          let row : moves ≡ row_in layout (bytes ++ piece) (before + n) =
          told front (players * (before + n)) len
          ∙ ap (λ (t : List ℕ). moves_from layout t present (players * (before + n))) whole
          ∙ ap (λ (s : List Bool). moves_from layout (bytes ++ piece) s (player_count s * (before + n)))
          present_in in
          stepped ∙ (λ i. physics.step (so_far.world bytes before seats e is i) (row i))
          ∙ sym (state_by-more physics layout (bytes ++ piece) (before + n))
          ∙ ap (state_by physics layout (bytes ++ piece)) sum;
    }
