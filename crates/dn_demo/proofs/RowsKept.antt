-- What is kept of a demo's rows, as bytes come before the marker, with it and behind it.
use Rattle.std.proofs.Common.{◌≡◌, ◌≢◌, ◌<◌, ◌≤◌, ℕ, ◌+◌, ◌-◌, ◌*◌, ◌%◌, Bool, false, List, [], ◌∷◌, ◌++◌, length, take, drop, slice_get, Option, Some, refl, sym, ap, ◌∙◌, subst, arith, append_assoc, length-append, ◌/◌, true}
use Rattle.std.proofs.Math.{Nat.{mul-add-mod_self_left, mul-mod_right, mul-pos, lt_of_mul-lt-mul_left, div-add-mod}, Seq.{drop-length, take-append_seam}}
use Rattle.std.proofs.lemmas.{Bool.cases_lt, List.{take-append-drop, drop-append-le, length-take-le, length-drop, take-append-le}, Option.slice_get_within}
use Rattle.dn_tic.specs.declared.command.Move.{Move}
use Rattle.dn_world.specs.Physics.{Physics}
use Rattle.dn_demo.specs.{Layout.{Layout, command_size}, Text.{player_count, marker}, Places.{start_in, seats_in, place, moves_from, row_in, IsUnmarked, HasNoMarker, EndsBehind}, Feeding.{Feeding, IsUpToMarker, ShowsRows, StepsRows, row_size, state_by}}
use Rattle.dn_demo.proofs.{Stepping.{get_first, get_second, seats_in-append, state_by-append, state_by-more}, Text.{place_order, place_below}}

none_behind : (layout : Layout) (bytes more : List ℕ) → IsUnmarked layout bytes
    → ((command : ℕ) → length bytes ≤ place layout command
    → slice_get more (place layout command - length bytes) ≢ Some marker)
    → IsUnmarked layout (bytes ++ more)
none_behind layout bytes more none not command here = grind (arith, cases_lt, none, get_first, get_second)

-- a byte that is none, or stands at no place
none_in_byte : (layout : Layout) (bytes : List ℕ) (byte commands r : ℕ) → IsUnmarked layout bytes
    → length bytes ≡ place layout commands + r
    → (byte ≡ marker → r % command_size layout ≢ 0) → IsUnmarked layout (bytes ++ byte ∷ [])
none_in_byte layout bytes byte commands r none e not =
    none_behind layout bytes (byte ∷ []) none (λ command past here.
    let inside = slice_get_within (byte ∷ []) (place layout command - length bytes) marker here in
    let at : place layout command - length bytes ≡ 0 = omega arith in
    let is : byte ≡ marker = let first = ap (slice_get (byte ∷ [])) (sym at) ∙ here in cc in
    let sum : command_size layout * commands + r ≡ command_size layout * command = omega arith in
    let left : r % command_size layout ≡ 0 =
    sym (mul-add-mod_self_left (command_size layout) commands r) ∙ ap (λ n. n % command_size layout) sum
    ∙ mul-mod_right (command_size layout) command in
    not is left)

-- where the unfinished row begins
abbrev pub row_place : Layout → List ℕ → ℕ → ℕ
row_place layout bytes tics = place layout (player_count (seats_in bytes) * tics)

pub same_place : (layout : Layout) (bytes more : List ℕ) (tics : ℕ) → 13 ≤ length bytes
    → row_place layout (bytes ++ more) tics ≡ row_place layout bytes tics
same_place layout bytes more tics whole = ap (λ (s : List Bool). place layout (player_count s * tics))
    (seats_in-append bytes more whole)

pub same_size : (layout : Layout) (bytes more : List ℕ) → 13 ≤ length bytes
    → row_size layout (seats_in (bytes ++ more)) ≡ row_size layout (seats_in bytes)
same_size layout bytes more whole = ap (row_size layout) (seats_in-append bytes more whole)

-- what is kept while no marker came: all bytes are the front
pub record Unmarked {S W : Type 0} (state : W → S) (physics : Physics S) (layout : Layout) (bytes : List ℕ)
    (after tics : ℕ) (row : List ℕ) (world : W) : Type 0 where
  pub none : IsUnmarked layout bytes
  pub none_after : after ≡ 0
  pub size : length bytes ≡ row_place layout bytes tics + length row
  pub rest : row ≡ drop (row_place layout bytes tics) bytes
  pub unfinished : length row < row_size layout (seats_in bytes)
  pub played : state world ≡ state_by physics layout bytes tics

module _ {S W : Type 0} (state : W → S) (physics : Physics S) (layout : Layout) (bytes : List ℕ) where
  pub unmarked : (f : Feeding W) → f.marked ≡ false → ShowsRows state physics layout bytes f
      → Unmarked state physics layout bytes f.after f.tics f.row f.world
  unmarked f free rows =
      let ends : IsUpToMarker layout bytes false rows.front f.after =
      subst (λ m. IsUpToMarker layout bytes m rows.front f.after) free rows.ends in
      let rest : f.row ≡ drop (row_place layout bytes f.tics) bytes =
      rows.row ∙ ap (drop (row_place layout bytes f.tics)) ends.1 in
      record {
        none = ends.0;
        none_after = ends.2;
        size = omega (
          arith,
          ap length rest,
          length-drop (row_place layout bytes f.tics) bytes,
          ap length ends.1,
          rows.whole,
        );
        rest = rest;
        unfinished = rows.unfinished;
        played = rows.world;
      }

  pub of_unmarked : (f : Feeding W) → f.marked ≡ false
      → Unmarked state physics layout bytes f.after f.tics f.row f.world → ShowsRows state physics layout bytes f
  of_unmarked f free u =
      let ends : IsUpToMarker layout bytes false bytes f.after = (u.none, refl, u.none_after) in
      record {
        front = bytes;
        ends = subst (λ m. IsUpToMarker layout bytes m bytes f.after) (sym free) ends;
        whole = omega (arith, u.size);
        row = u.rest;
        unfinished = u.unfinished;
        world = u.played;
      }

  -- a header that is just whole
  pub begun : (after tics : ℕ) (row : List ℕ) (world : W) → after ≡ 0 → tics ≡ 0 → row ≡ []
      → length bytes ≡ 13 → 0 < player_count (seats_in bytes)
      → state world ≡ physics.begin (start_in bytes) (seats_in bytes)
      → Unmarked state physics layout bytes after tics row world
  begun after tics row world none_after no_tics no_row long somebody begins =
      let zero : row_place layout bytes 0 ≡ 13 = omega arith in
      let at = ap (row_place layout bytes) no_tics ∙ zero in
      let some : 0 < row_size layout (seats_in bytes) = mul-pos (omega arith) somebody in
      record {
        none = λ command here. let inside = slice_get_within bytes (place layout command) marker here in
            omega (arith, inside, long);
        none_after = none_after;
        size = omega (arith, at, long, ap length no_row);
        rest = no_row ∙ sym (drop-length bytes) ∙ ap (λ n. drop n bytes) (long ∙ sym at);
        unfinished = omega (arith, some, ap length no_row);
        played = begins ∙ ap (state_by physics layout bytes) (sym no_tics);
      }

  module _ (after tics : ℕ) (row : List ℕ) (world : W)
      (u : Unmarked state physics layout bytes after tics row world) where
    whole : row_place layout bytes tics ≤ length bytes
    whole = omega (arith, u.size)

    module _ (byte : ℕ) where
      -- a byte of the row
      pub byte_kept : (byte ≡ marker → length row % command_size layout ≢ 0)
          → length (row ++ byte ∷ []) < row_size layout (seats_in bytes)
          → Unmarked state physics layout (bytes ++ byte ∷ []) after tics (row ++ byte ∷ []) world
      byte_kept not room =
          let more = byte ∷ [] in
          let at = same_place layout bytes more tics (omega (arith, whole)) in
          record {
            none = none_in_byte layout bytes byte (player_count (seats_in bytes) * tics) (length row) u.none
                u.size not;
            none_after = u.none_after;
            size = omega (arith, at, length-append row more, length-append bytes more, u.size);
            rest = ap (λ (t : List ℕ). t ++ more) u.rest
                ∙ sym (drop-append-le (row_place layout bytes tics) bytes more whole)
                ∙ ap (λ n. drop n (bytes ++ more)) (sym at);
            unfinished = omega (arith, same_size layout bytes more (omega (arith, whole)), room);
            played = u.played ∙ sym (state_by-append physics layout bytes more tics whole);
          }

      module _ (present : List Bool) (moves : List (Option Move)) (seats : present ≡ seats_in bytes)
          (told : (front : List ℕ) (command : ℕ) → length front + 0 ≡ place layout command
          → moves ≡ moves_from layout (front ++ (row ++ byte ∷ [])) present command) where
        -- the row that a byte ends
        pub row_told : moves ≡ row_in layout (bytes ++ byte ∷ []) tics
        row_told =
            let all = bytes ++ byte ∷ [] in
            let at = row_place layout bytes tics in
            let commands = player_count (seats_in bytes) * tics in
            let joined : take at bytes ++ (row ++ byte ∷ []) ≡ all =
            ap (λ (t : List ℕ). take at bytes ++ (t ++ byte ∷ [])) u.rest
            ∙ sym (append_assoc (take at bytes) (drop at bytes) (byte ∷ []))
            ∙ ap (λ (t : List ℕ). t ++ byte ∷ []) (take-append-drop at bytes) in
            let same : present ≡ seats_in all =
            seats ∙ sym (seats_in-append bytes (byte ∷ []) (omega (arith, whole))) in
            told (take at bytes) commands (omega (arith, length-take-le at bytes whole))
            ∙ ap (λ (t : List ℕ). moves_from layout t present commands) joined
            ∙ ap (λ (s : List Bool). moves_from layout all present (player_count s * tics)) (sym seats)
            ∙ ap (λ (s : List Bool). moves_from layout all s (player_count s * tics)) same

        -- the last byte of the row
        pub row_done : (new : W) → (byte ≡ marker → length row % command_size layout ≢ 0)
            → length (row ++ byte ∷ []) ≡ row_size layout (seats_in bytes)
            → state new ≡ physics.step (state world) moves
            → Unmarked state physics layout (bytes ++ byte ∷ []) after (tics + 1) [] new
        row_done new not full stepped =
            let more = byte ∷ [] in
            let all = bytes ++ more in
            let at = same_place layout bytes more (tics + 1) (omega (arith, whole)) in
            let next : row_place layout bytes (tics + 1)
            ≡ row_place layout bytes tics + row_size layout (seats_in bytes) = omega arith in
            let end : length all ≡ row_place layout all (tics + 1) =
            omega (arith, at, next, full, length-append row more, length-append bytes more, u.size) in
            record {
              none = none_in_byte layout bytes byte (player_count (seats_in bytes) * tics) (length row) u.none
                  u.size not;
              none_after = u.none_after;
              size = omega (arith, end);
              rest = sym (drop-length all) ∙ ap (λ n. drop n all) end;
              unfinished = omega (arith, same_size layout bytes more (omega (arith, whole)), u.unfinished);
              played = stepped
                  ∙ (λ i. physics.step
                  ((u.played ∙ sym (state_by-append physics layout bytes more tics whole)) i) (row_told i))
                  ∙ sym (state_by-more physics layout all tics);
            }

  -- the rows at the front of a piece
  pub rows_done : (piece rest : List ℕ) (present : List Bool) (after tics : ℕ) (row : List ℕ) (world new : W)
      → Unmarked state physics layout bytes after tics row world → row ≡ [] → present ≡ seats_in bytes
      → (steps : StepsRows state physics layout present world piece rest new)
      → Unmarked state physics layout (bytes ++ take (row_size layout present * steps.tics) piece) after
      (tics + steps.tics) row new
  rows_done piece rest present after tics row world new u empty seats steps =
      let size = command_size layout in
      let players = player_count (seats_in bytes) in
      let many = row_size layout present * steps.tics in
      let front = take many piece in
      let all = bytes ++ front in
      let count : player_count present ≡ players = ap player_count seats in
      let flat : size * players * steps.tics ≡ size * (players * steps.tics) = omega arith in
      let same_many : many ≡ size * (players * steps.tics) = ap (λ p. size * p * steps.tics) count ∙ flat in
      let end : length bytes ≡ place layout (players * tics) = omega (arith, u.size, ap length empty) in
      let len : length front ≡ many = length-take-le many piece steps.within in
      let sum : size * (players * (tics + steps.tics))
      ≡ size * (players * tics) + size * (players * steps.tics) = omega arith in
      let at : row_place layout all (tics + steps.tics) ≡ row_place layout bytes (tics + steps.tics) =
      same_place layout bytes front (tics + steps.tics) (omega (arith, end)) in
      let long : length all ≡ row_place layout all (tics + steps.tics) =
      omega (arith, at, length-append bytes front, len, same_many, end, sum) in
      let begins : length bytes ≡ place layout (player_count present * tics) =
      end ∙ ap (λ p. place layout (p * tics)) (sym count) in
      let joined : all ++ drop many piece ≡ bytes ++ piece =
      append_assoc bytes front (drop many piece) ∙ ap (λ (t : List ℕ). bytes ++ t) (take-append-drop many piece) in
      record {
        none = none_behind layout bytes front u.none (λ command past here.
            let j = command - players * tics in
            let beyond : players * tics ≤ command =
            place_order layout (players * tics) command (omega (arith, end, past)) in
            let split : command ≡ players * tics + j = omega arith in
            let apart : size * (players * tics + j) ≡ size * (players * tics) + size * j = omega arith in
            let index : place layout command - length bytes ≡ size * j =
            omega (arith, ap (place layout) split, apart, end) in
            let in_front : slice_get front (size * j) ≡ Some marker = ap (slice_get front) (sym index) ∙ here in
            let inside = slice_get_within front (size * j) marker in_front in
            let in_piece : slice_get piece (size * j) ≡ Some marker =
            ap (λ (t : List ℕ). slice_get t (size * j)) (sym (take-append-drop many piece))
            ∙ get_first front (drop many piece) (size * j) inside ∙ in_front in
            let few : j < players * steps.tics =
            lt_of_mul-lt-mul_left size (omega (arith, inside, len, same_many)) in
            steps.unmarked j (subst (λ p. j < p * steps.tics) (sym count) few) in_piece);
        none_after = u.none_after;
        size = omega (arith, long, ap length empty);
        rest = empty ∙ sym (drop-length all) ∙ ap (λ n. drop n all) long;
        unfinished = omega (arith, same_size layout bytes front (omega (arith, end)), u.unfinished);
        played = steps.world bytes tics (sym seats) begins u.played
            ∙ ap (λ (t : List ℕ). state_by physics layout t (tics + steps.tics)) (sym joined)
            ∙ state_by-append physics layout all (drop many piece) (tics + steps.tics) (omega (arith, long));
      }

-- With the marker, and behind it.

-- the front lies within the bytes
pub front_within : (layout : Layout) (bytes : List ℕ) (marked : Bool) (front : List ℕ) (after : ℕ)
    → IsUpToMarker layout bytes marked front after → length front ≤ length bytes
front_within layout bytes true front after ends = grind (arith, slice_get_within, length-take-le)
front_within layout bytes false front after ends = omega (arith, ap length ends.1)

module _ {S W : Type 0} (state : W → S) (physics : Physics S) (layout : Layout) (bytes more : List ℕ) where
  -- no marker stands at the first places, whatever comes behind them
  none_first : (commands : ℕ) → place layout commands ≤ length bytes → HasNoMarker layout bytes commands
      → HasNoMarker layout (bytes ++ more) commands
  none_first commands within none command below here = grind (arith, place_below, get_first)

  -- the rows that the bytes have, where more came behind them
  rows_longer : (f : Feeding W) (front : List ℕ) (commands : ℕ) → f.marked ≡ true
      → EndsBehind layout (bytes ++ more) commands → front ≡ take (place layout commands) (bytes ++ more)
      → f.after ≡ length (bytes ++ more) - (place layout commands + 1)
      → row_place layout bytes f.tics ≤ length front → length front ≤ length bytes
      → f.row ≡ drop (row_place layout bytes f.tics) front → length f.row < row_size layout (seats_in bytes)
      → state f.world ≡ state_by physics layout bytes f.tics → ShowsRows state physics layout (bytes ++ more) f
  rows_longer f front commands marked ends is after whole within row unfinished played =
      let at = same_place layout bytes more f.tics (omega (arith, whole, within)) in
      let all : IsUpToMarker layout (bytes ++ more) true front f.after = (commands, ends, is, after) in
      record {
        front = front;
        ends = subst (λ m. IsUpToMarker layout (bytes ++ more) m front f.after) (sym marked) all;
        whole = omega (arith, at, whole);
        row = row ∙ ap (λ n. drop n front) (sym at);
        unfinished = omega (arith, same_size layout bytes more (omega (arith, whole, within)), unfinished);
        world = played ∙ sym (state_by-append physics layout bytes more f.tics (omega (arith, whole, within)));
      }

-- the marker
pub marker_came : {S W : Type 0} (state : W → S) (physics : Physics S) (layout : Layout) (bytes : List ℕ)
    (f : Feeding W) (taken : ℕ) (header : List ℕ) → Unmarked state physics layout bytes f.after f.tics f.row f.world
    → length f.row % command_size layout ≡ 0 → ShowsRows state physics layout (bytes ++ marker ∷ [])
    (record f { taken = taken; header = header; marked = true })
marker_came state physics layout bytes f taken header u even =
    let more = marker ∷ [] in
    let all = bytes ++ more in
    let size = command_size layout in
    let players = player_count (seats_in bytes) in
    let commands = players * f.tics + length f.row / size in
    let parts : size * (length f.row / size) ≡ length f.row =
    omega (arith, div-add-mod (length f.row) size, even) in
    let spread : size * commands ≡ size * (players * f.tics) + size * (length f.row / size) = omega arith in
    let end : length bytes ≡ place layout commands = omega (arith, parts, spread, u.size) in
    let at : place layout commands - length bytes ≡ 0 = omega (arith, end) in
    let here : slice_get all (place layout commands) ≡ Some marker =
    get_second bytes more (place layout commands) (omega (arith, end)) ∙ ap (slice_get more) at in
    let first = none_first state physics layout bytes more commands (omega (arith, end))
    (λ command below. u.none command) in
    rows_longer state physics layout bytes more (record f { taken = taken; header = header; marked = true })
    bytes commands refl (record { marked = here; first = first })
    (sym (take-append_seam bytes more) ∙ ap (λ n. take n all) end)
    (omega (arith, u.none_after, length-append bytes more, end)) (omega (arith, u.size)) (omega arith)
    u.rest u.unfinished u.played

-- what follows the marker
pub passed : {S W : Type 0} (state : W → S) (physics : Physics S) (layout : Layout) (bytes more : List ℕ)
    (f : Feeding W) (taken : ℕ) (header : List ℕ) → f.marked ≡ true → ShowsRows state physics layout bytes f
    → ShowsRows state physics layout (bytes ++ more)
    (record f { taken = taken; header = header; after = f.after + length more })
passed state physics layout bytes more f taken header was rows =
    let ends : IsUpToMarker layout bytes true rows.front f.after =
    subst (λ m. IsUpToMarker layout bytes m rows.front f.after) was rows.ends in
    let commands = ends.0 in
    let inside = slice_get_within bytes (place layout commands) marker ends.1.marked in
    let here = get_first bytes more (place layout commands) inside ∙ ends.1.marked in
    let first = none_first state physics layout bytes more commands (omega (arith, inside)) ends.1.first in
    rows_longer state physics layout bytes more
    (record f { taken = taken; header = header; after = f.after + length more }) rows.front commands was
    (record { marked = here; first = first })
    (ends.2 ∙ sym (take-append-le (place layout commands) bytes more (omega arith)))
    (omega (arith, ends.3, length-append bytes more, inside)) rows.whole
    (front_within layout bytes true rows.front f.after ends) rows.row rows.unfinished rows.world
