-- What a front of a demo's bytes tells, and what a demo keeps before its marker.
use Rattle.std.proofs.Common.{◌≡◌, ◌≤◌, ℕ, List, ◌++◌, length, take, sym, ap, ◌∙◌, arith, ◌<◌, zero, suc, ◌+◌, ◌-◌, ◌*◌, ◌/◌, Bool, true, false, [], ◌∷◌, map, drop, get_or, Some, None, refl, fold, slice_get, Option}
use Rattle.std.proofs.lemmas.List.{get_or-take, length-take, length-take-le, take-append-le, drop-take}
use Rattle.std.proofs.Math.Nat.{mul-div-le, mul-le-mul_left}
use Rattle.std.proofs.lemmas.{List.FromFn.{length-map-range_with_len, get_or-map-range_with_len}, Option.{slice_get-get_or, slice_get_within, get_or_from_slice_get}, List.Sums.fold_more}
use Rattle.std.specs.List.{range_with_len}
use Rattle.dn_tic.specs.declared.command.Move.{Move}
use Rattle.dn_demo.specs.{Layout.{Layout, layout_of_version, command_size, tell}, Text.player_count, Places.{layout_in, seats_in, start_in, place, move_at, moves_from, row_in, commands_in}, Reading.{HasHeader, Recording, recording}}
use Rattle.dn_demo.proofs.Text.{place_below}

-- the commands of a whole tic stand before the marker
pub tic_fits : (players tic commands : ℕ) → tic < commands / players → players * tic + players ≤ commands
tic_fits players tic commands below = grind (arith, mul-le-mul_left, mul-div-le)

-- a front of the bytes that has the whole header tells the same of it
pub start_in-take : (n : ℕ) (bytes : List ℕ) → 13 ≤ n → start_in (take n bytes) ≡ start_in bytes
start_in-take n bytes whole = grind (arith, get_or, get_or-take)

pub seats_in-take : (n : ℕ) (bytes : List ℕ) → 13 ≤ n → seats_in (take n bytes) ≡ seats_in bytes
seats_in-take n bytes whole = grind (arith, get_or, get_or-take)

-- the first of the first
take_take : {A : Type 0} (n m : ℕ) (xs : List A) → take n (take (n + m) xs) ≡ take n xs
take_take zero m xs = refl
take_take {A} (suc n) m [] =
    let more : suc n + m ≡ suc (n + m) = omega arith in
    ap (λ k. take {A = A} (suc n) (take k [])) more
take_take (suc n) m (x ∷ xs) =
    let more : suc n + m ≡ suc (n + m) = omega arith in
    ap (λ k. take (suc n) (take k (x ∷ xs))) more ∙ ap (λ t. x ∷ t) (take_take n m xs)

-- and of the commands in it
move_at-take : (layout : Layout) (k : ℕ) (bytes : List ℕ) (command : ℕ) → command < k
    → move_at layout (take (place layout k) bytes) command ≡ move_at layout bytes command
move_at-take layout k bytes command below =
    let room = place_below layout command k below in
    let n = command_size layout in
    let fits : place layout command + (n + (place layout k - (place layout command + n))) ≡ place layout k =
    omega arith in
    let more = place layout k - (place layout command + n) in
    let rest = ap (λ m. drop (place layout command) (take m bytes)) (sym fits)
    ∙ drop-take (place layout command) (n + more) bytes in
    ap (λ t. tell layout (take n t)) rest ∙ ap (tell layout) (take_take n more (drop (place layout command) bytes))

pub moves_from-take : (layout : Layout) (k : ℕ) (bytes : List ℕ) (seats : List Bool) (command : ℕ)
    → command + player_count seats ≤ k
    → moves_from layout (take (place layout k) bytes) seats command ≡ moves_from layout bytes seats command
moves_from-take layout k bytes [] command fits = refl
moves_from-take layout k bytes (true ∷ seats) command fits = grind (arith, move_at-take, moves_from-take layout k bytes seats (command + 1) (omega arith), Some)
moves_from-take layout k bytes (false ∷ seats) command fits = grind (arith, moves_from-take layout k bytes seats command fits, None)

-- and of the rows
pub row_in-take : (layout : Layout) (k : ℕ) (bytes : List ℕ) (tic : ℕ) → tic < k / player_count (seats_in bytes)
    → row_in layout (take (place layout k) bytes) tic ≡ row_in layout bytes tic
row_in-take layout k bytes tic below =
    let seats = seats_in-take (place layout k) bytes (omega arith) in
    ap (λ (s : List Bool). moves_from layout (take (place layout k) bytes) s (player_count s * tic)) seats
    ∙ moves_from-take layout k bytes (seats_in bytes) (player_count (seats_in bytes) * tic)
    (tic_fits (player_count (seats_in bytes)) tic k below)

-- two functions that agree on a range
pub map-agree : {X : Type 0} (f g : ℕ → X) (a n : ℕ) → ((i : ℕ) → a ≤ i → i < a + n → f i ≡ g i)
    → map f (range_with_len a n) ≡ map g (range_with_len a n)
map-agree f g a zero same = refl
map-agree f g a (suc n) same = grind (arith, map-agree f g (a + 1) n (λ i low high. same i (omega arith) (omega arith)))

-- A header that is kept of a demo's bytes.

-- it is whole where the bytes have it
length_kept : (bytes header : List ℕ) → header ≡ take 13 bytes → 13 ≤ length bytes → length header ≡ 13
length_kept bytes header e whole = ap length e ∙ length-take-le 13 bytes whole

version_kept : (bytes header : List ℕ) → header ≡ take 13 bytes → layout_in header ≡ layout_in bytes
version_kept bytes header e = ap layout_in e ∙ ap layout_of_version (get_or-take 13 bytes 0 0 (omega arith))

pub seats_kept : (bytes header : List ℕ) → header ≡ take 13 bytes → seats_in header ≡ seats_in bytes
seats_kept bytes header e = ap seats_in e ∙ seats_in-take 13 bytes (omega arith)

pub header_kept : (layout : Layout) (bytes header : List ℕ) → header ≡ take 13 bytes → HasHeader layout bytes
    → HasHeader layout header
header_kept layout bytes header e h = grind (arith, length_kept, version_kept, seats_kept)

whole_bytes : (bytes header : List ℕ) → header ≡ take 13 bytes → 13 ≤ length header → 13 ≤ length bytes
whole_bytes bytes header e whole = omega (arith, ap length e, length-take 13 bytes, whole)

pub header_of_kept : (layout : Layout) (bytes header : List ℕ) → header ≡ take 13 bytes
    → HasHeader layout header → HasHeader layout bytes
header_of_kept layout bytes header e h = grind (arith, whole_bytes, version_kept, seats_kept)

-- and stays, whatever comes behind it
pub kept_longer : (bytes more header : List ℕ) → header ≡ take 13 bytes → 13 ≤ length bytes
    → header ≡ take 13 (bytes ++ more)
kept_longer bytes more header e whole = e ∙ sym (take-append-le 13 bytes more whole)

-- A demo that keeps the bytes before its marker.

-- a row of four seats, each of which takes its command from where the one before it has left off
pub four_moves : (layout : Layout) (bytes : List ℕ) (seats : List Bool) (k ka kb kc kd : ℕ)
    (a b c d : Option Move) → length seats ≡ 4
    → ((others : List Bool) → moves_from layout bytes (get_or seats 0 false ∷ others) k
    ≡ a ∷ moves_from layout bytes others ka)
    → ((others : List Bool) → moves_from layout bytes (get_or seats 1 false ∷ others) ka
    ≡ b ∷ moves_from layout bytes others kb)
    → ((others : List Bool) → moves_from layout bytes (get_or seats 2 false ∷ others) kb
    ≡ c ∷ moves_from layout bytes others kc)
    → ((others : List Bool) → moves_from layout bytes (get_or seats 3 false ∷ others) kc
    ≡ d ∷ moves_from layout bytes others kd)
    → a ∷ b ∷ c ∷ d ∷ [] ≡ moves_from layout bytes seats k
four_moves layout bytes (p ∷ q ∷ r ∷ s ∷ []) k ka kb kc kd a b c d e at_a at_b at_c at_d =
    sym (at_a (q ∷ r ∷ s ∷ []) ∙ ap (λ t. a ∷ t)
    (at_b (r ∷ s ∷ []) ∙ ap (λ t. b ∷ t) (at_c (s ∷ []) ∙ ap (λ t. c ∷ t) (at_d []))))
four_moves layout bytes _ k ka kb kc kd a b c d e at_a at_b at_c at_d = absurd (omega arith)

-- a function's value at a place of a range
pub get-map-range : {X : Type 0} (f : ℕ → X) (n i : ℕ) → i < n
    → slice_get (map f (range_with_len 0 n)) i ≡ Some (f i)
get-map-range f n i below =
    slice_get-get_or (map f (range_with_len 0 n)) i (f i) (omega (arith, length-map-range_with_len f 0 n))
    ∙ ap (λ x. Some x) (get_or-map-range_with_len f 0 n i i (f i) below (omega arith))

-- how many rows it has
pub length-rows : (layout : Layout) (bytes : List ℕ) (after : ℕ) (demo : Recording)
    → recording layout bytes (commands_in layout bytes) after ≡ demo
    → length demo.rows ≡ commands_in layout bytes / player_count (seats_in bytes)
length-rows layout bytes after demo e = grind (arith, length-map-range_with_len)

-- the row of a tic stands in the kept bytes, and is the demo's
pub row_kept : (layout : Layout) (bytes kept : List ℕ) (after : ℕ) (demo : Recording) (seats : List Bool)
    (players tic : ℕ) → 13 ≤ length bytes
    → recording layout bytes (commands_in layout bytes) after ≡ demo → kept ≡ bytes → seats ≡ demo.present
    → players ≡ player_count seats → tic < length demo.rows
    → (place layout (players * tic + player_count seats) ≤ length kept)
    × (Some (moves_from layout kept seats (players * tic)) ≡ slice_get demo.rows tic)
row_kept layout bytes kept after demo seats players tic whole shown e f g below =
    let present : seats ≡ seats_in bytes = f ∙ sym (ap (λ (d : Recording). d.present) shown) in
    let players_are : players ≡ player_count (seats_in bytes) = g ∙ ap player_count present in
    let within : tic < commands_in layout bytes / player_count (seats_in bytes) =
    omega (arith, length-rows layout bytes after demo shown) in
    let stand = tic_fits (player_count (seats_in bytes)) tic (commands_in layout bytes) within in
    let room = mul-le-mul_left (command_size layout) stand in
    let all = mul-div-le (length bytes - 13) (command_size layout) in
    let fits : place layout (player_count (seats_in bytes) * tic + player_count (seats_in bytes))
    ≤ length bytes = omega arith in
    let same =
    sym (get-map-range (row_in layout bytes) (commands_in layout bytes / player_count (seats_in bytes)) tic within)
    ∙ ap (λ (d : Recording). slice_get d.rows tic) shown in
    (rw (players_are, present, e) fits, rw (players_are, present, e) same)

-- a world that is stepped by one more row
pub fold-row : {S A : Type 0} (step : S → A → S) (begun before after : S) (rows : List A) (tic : ℕ) (row : A)
    → Some row ≡ slice_get rows tic → before ≡ fold step begun (take tic rows) → after ≡ step before row
    → after ≡ fold step begun (take (tic + 1) rows)
fold-row step begun before after rows tic row e so_far stepped =
    let below = slice_get_within rows tic row (sym e) in
    let same = get_or_from_slice_get rows tic row row (sym e) in
    stepped ∙ ap (λ s. step s row) so_far ∙ ap (step (fold step begun (take tic rows))) (sym same)
    ∙ sym (fold_more step begun rows tic row below)
