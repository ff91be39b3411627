-- The closed text of rows is read as these rows.
use Rattle.std.proofs.Common.{◌≡◌, ◌≢◌, ◌<◌, ◌≤◌, ℕ, ◌+◌, ◌*◌, Bool, true, false, List, [], ◌∷◌, ◌++◌, length, map, take, drop, get_or, slice_get, All, Option, Some, None, IfSome, is_some, refl, sym, ap, ◌∙◌, arith, inl, inr, w8, append_assoc, length-append, ◌-◌, ◌/◌, ◌%◌, Ok}
use Rattle.std.proofs.Math.{Seq.{drop-append_seam, take-append_seam}, Nat.{mul-div_cancel_left, mul-mod_right}}
use Rattle.std.proofs.lemmas.{Int.to_z-of_z, List.{get_or-append-add, get_or_at, length-map}, List.Elements.{All-head, All-tail, All-nil, All-cons}, Bool.cases_lt, Option.slice_get-get_or}
use Rattle.std.specs.{Int.{cast_signed, cast_unsigned}, List.range_with_len}
use Rattle.dn_tic.specs.declared.command.Move.{Move}
use Rattle.dn_setup.specs.{declared.settings.Start.Start, Settings.bit}
use Rattle.dn_demo.specs.{Layout.{Layout, command_size, spell, tell, vanilla, long_tics, layout_of_version}, Text.{IsMove, IsRecordable, IsRow, AllMoves, player_count, AreWritable, IsWhole, marker, row_bytes, commands_of, header, demo_text}, Places.{place, move_at, moves_from, start_in, seats_in, EndsBehind}}
use Rattle.dn_demo.specs.Reading.{IsReadAs, written_demo}
use Rattle.dn_demo.proofs.Text.{IsSound, IsTold, move_told, length-spell, length-row_bytes, vanilla_sound, long_tics_sound, whole_told, long_told, header-seats}

-- Commands, rows and lists of rows that stand behind a front of bytes.

-- a command that stands behind a front tells its move
move_behind : (layout : Layout) (front rest : List ℕ) (m : Move) (k : ℕ) → IsSound layout
    → length front ≡ place layout k → IsMove m → IsTold layout m
    → move_at layout (front ++ (spell layout m ++ rest)) k ≡ m
move_behind layout front rest m k sound e fits is =
    let bytes = spell layout m in
    let behind = ap (λ n. drop n (front ++ (bytes ++ rest))) (sym e) ∙ drop-append_seam front (bytes ++ rest) in
    let command = ap (λ n. take n (bytes ++ rest)) (sym (length-spell layout m sound))
    ∙ take-append_seam bytes rest in
    ap (λ t. tell layout (take (command_size layout) t)) behind ∙ ap (tell layout) command
    ∙ move_told layout m sound fits is

-- and its first byte is no marker
no_marker : (m : Move) → IsMove m → IsRecordable m → cast_unsigned w8 m.forward ≢ marker
no_marker m fits can e = can (sym (to_z-of_z w8 m.forward fits.forward) ∙ ap (cast_signed w8) e)

first_behind : (layout : Layout) (front rest : List ℕ) (m : Move) (k : ℕ) → length front ≡ place layout k
    → slice_get (front ++ (spell layout m ++ rest)) (place layout k) ≡ Some (cast_unsigned w8 m.forward)
first_behind layout front rest m k e =
    let bytes = spell layout m ++ rest in
    let inside : place layout k < length (front ++ bytes) = omega (arith, length-append front bytes) in
    let first : place layout k ≡ length front + 0 = omega arith in
    slice_get-get_or (front ++ bytes) (place layout k) 0 inside
    ∙ ap (λ b. Some b) (ap (λ n. get_or (front ++ bytes) n 0) first ∙ get_or-append-add front bytes 0 0)

-- a row seat by seat
abbrev pub RowOf : Layout → List Bool → List (Option Move) → Type 0
RowOf layout [] [] = Unit {0}
RowOf layout (true ∷ seats) (Some m ∷ row) = IsMove m × IsTold layout m × IsRecordable m
    × RowOf layout seats row
RowOf layout (false ∷ seats) (None ∷ row) = RowOf layout seats row
RowOf layout _ _ = ⊥

row_of : (layout : Layout) (seats : List Bool) (row : List (Option Move)) → map is_some row ≡ seats
    → All (λ step. IfSome step IsMove) row
    → All (λ step. IfSome step (IsTold layout)) row → All (λ step. IfSome step IsRecordable) row
    → RowOf layout seats row
row_of layout [] [] same fits told can = tt
row_of layout (true ∷ seats) (Some m ∷ row) same fits told can =
    let P : Option Move → Type 0 = λ step. IfSome step IsMove in
    let T : Option Move → Type 0 = λ step. IfSome step (IsTold layout) in
    let Q : Option Move → Type 0 = λ step. IfSome step IsRecordable in (
      All-head P (Some m) row fits,
      All-head T (Some m) row told,
      All-head Q (Some m) row can,
      row_of layout seats row (cc) (All-tail P (Some m) row fits) (All-tail T (Some m) row told)
          (All-tail Q (Some m) row can),
    )
row_of layout (false ∷ seats) (None ∷ row) same fits told can =
    let P : Option Move → Type 0 = λ step. IfSome step IsMove in
    let T : Option Move → Type 0 = λ step. IfSome step (IsTold layout) in
    let Q : Option Move → Type 0 = λ step. IfSome step IsRecordable in
    row_of layout seats row (cc) (All-tail P None row fits) (All-tail T None row told) (All-tail Q None row can)
row_of layout _ _ same fits told can = cc

-- the first of two parts that stand behind a front, and the other behind it
apart : (front one other rest : List ℕ) → front ++ ((one ++ other) ++ rest) ≡ front ++ (one ++ (other ++ rest))
apart front one other rest = ap (λ (t : List ℕ). front ++ t) (append_assoc one other rest)

next_apart : (front one other rest : List ℕ) → front ++ ((one ++ other) ++ rest) ≡ (front ++ one) ++ (other ++ rest)
next_apart front one other rest = apart front one other rest ∙ sym (append_assoc front one (other ++ rest))

longer : (layout : Layout) (front : List ℕ) (m : Move) (k : ℕ) → IsSound layout
    → length front ≡ place layout k → length (front ++ spell layout m) ≡ place layout (k + 1)
longer layout front m k sound e = omega (arith, length-append front (spell layout m), length-spell layout m sound)

-- a row that stands behind a front is told there
row_behind : (layout : Layout) (front rest : List ℕ) (seats : List Bool) (row : List (Option Move)) (k : ℕ)
    → IsSound layout → length front ≡ place layout k → RowOf layout seats row
    → moves_from layout (front ++ (row_bytes layout row ++ rest)) seats k ≡ row
row_behind layout front rest [] [] k sound e is = refl
row_behind layout front rest (true ∷ seats) (Some m ∷ row) k sound e is =
    let bytes = row_bytes layout row in
    let one = ap (λ (t : List ℕ). move_at layout t k) (apart front (spell layout m) bytes rest)
    ∙ move_behind layout front (bytes ++ rest) m k sound e is.0 is.1 in
    let others = ap (λ (t : List ℕ). moves_from layout t seats (k + 1))
    (next_apart front (spell layout m) bytes rest)
    ∙ row_behind layout (front ++ spell layout m) rest seats row (k + 1) sound
    (longer layout front m k sound e) is.3 in
    λ i. Some (one i) ∷ others i
row_behind layout front rest (false ∷ seats) (None ∷ row) k sound e is =
    let others = row_behind layout front rest seats row k sound e is in
    λ i. None ∷ others i
row_behind layout front rest _ _ k sound e is = absurd is

-- and no marker stands in it
none_in_row : (layout : Layout) (front rest : List ℕ) (seats : List Bool) (row : List (Option Move)) (k : ℕ)
    → IsSound layout → length front ≡ place layout k → RowOf layout seats row
    → (j : ℕ) → k ≤ j → j < k + player_count seats
    → slice_get (front ++ (row_bytes layout row ++ rest)) (place layout j) ≢ Some marker
none_in_row layout front rest [] [] k sound e is j low high = absurd (omega arith)
none_in_row layout front rest (true ∷ seats) (Some m ∷ row) k sound e is j low high =
    let bytes = row_bytes layout row in
    λ here. elim (cases_lt k j) [
      | inl above ↦
          let at = ap (λ (t : List ℕ). slice_get t (place layout j))
          (sym (next_apart front (spell layout m) bytes rest)) ∙ here in
          none_in_row layout (front ++ spell layout m) rest seats row (k + 1) sound
          (longer layout front m k sound e) is.3 j (omega arith) (omega arith) at
      | inr not_above ↦
          let at : j ≡ k = omega arith in
          let first = ap (λ (t : List ℕ). slice_get t (place layout k))
          (apart front (spell layout m) bytes rest) ∙ first_behind layout front (bytes ++ rest) m k e in
          let there = ap (λ n. slice_get (front ++ ((spell layout m ++ bytes) ++ rest)) (place layout n))
          (sym at) ∙ here in
          no_marker m is.0 is.2 (let both = sym first ∙ there in cc)
    ]
none_in_row layout front rest (false ∷ seats) (None ∷ row) k sound e is j low high =
    none_in_row layout front rest seats row k sound e is j low high
none_in_row layout front rest _ _ k sound e is j low high = absurd is

-- rows, each seat by seat
abbrev pub RowsOf : Layout → List Bool → List (List (Option Move)) → Type 0
RowsOf layout present [] = Unit {0}
RowsOf layout present (row ∷ rows) = (map is_some row ≡ present) × RowOf layout present row
    × RowsOf layout present rows

pub rows_of : (layout : Layout) (present : List Bool) (rows : List (List (Option Move))) → All (IsRow present) rows
    → AllMoves IsMove rows → AllMoves (IsTold layout) rows → RowsOf layout present rows
rows_of layout present [] can fits told = tt
rows_of layout present (row ∷ rows) can fits told =
    let P : List (Option Move) → Type 0 = IsRow present in
    let Q : List (Option Move) → Type 0 = All (λ step. IfSome step IsMove) in
    let T : List (Option Move) → Type 0 = All (λ step. IfSome step (IsTold layout)) in
    let one = All-head P row rows can in (
      one.seats,
      row_of layout present row one.seats (All-head Q row rows fits) (All-head T row rows told) one.moves,
      rows_of layout present rows (All-tail P row rows can) (All-tail Q row rows fits) (All-tail T row rows told),
    )

-- one row on
next_row : (layout : Layout) (front : List ℕ) (present : List Bool) (row : List (Option Move)) (tic : ℕ)
    → IsSound layout → length front ≡ place layout (player_count present * tic) → map is_some row ≡ present
    → length (front ++ row_bytes layout row) ≡ place layout (player_count present * (tic + 1))
next_row layout front present row tic sound e is =
    omega (arith, length-append front (row_bytes layout row), length-row_bytes layout present row sound is)

-- rows that stand behind a front are told there
pub rows_behind : (layout : Layout) (text front tail : List ℕ) (present : List Bool)
    (rows : List (List (Option Move))) (tic : ℕ) → IsSound layout
    → text ≡ front ++ (commands_of layout rows ++ tail)
    → length front ≡ place layout (player_count present * tic) → RowsOf layout present rows
    → map (λ t. moves_from layout text present (player_count present * t)) (range_with_len tic (length rows)) ≡ rows
rows_behind layout text front tail present [] tic sound e f is = refl
rows_behind layout text front tail present (row ∷ rows) tic sound e f is =
    let one = ap (λ (t : List ℕ). moves_from layout t present (player_count present * tic))
    (e ∙ apart front (row_bytes layout row) (commands_of layout rows) tail)
    ∙ row_behind layout front (commands_of layout rows ++ tail) present row (player_count present * tic) sound
    f is.1 in
    let others = rows_behind layout text (front ++ row_bytes layout row) tail present rows (tic + 1) sound
    (e ∙ next_apart front (row_bytes layout row) (commands_of layout rows) tail)
    (next_row layout front present row tic sound f is.0) is.2 in
    λ i. one i ∷ others i

-- and no marker stands in them
pub none_in_rows : (layout : Layout) (text front tail : List ℕ) (present : List Bool)
    (rows : List (List (Option Move))) (tic : ℕ) → IsSound layout
    → text ≡ front ++ (commands_of layout rows ++ tail)
    → length front ≡ place layout (player_count present * tic) → RowsOf layout present rows
    → (j : ℕ) → player_count present * tic ≤ j → j < player_count present * (tic + length rows)
    → slice_get text (place layout j) ≢ Some marker
none_in_rows layout text front tail present [] tic sound e f is j low high = absurd (omega arith)
none_in_rows layout text front tail present (row ∷ rows) tic sound e f is j low high =
    elim (cases_lt j (player_count present * tic + player_count present)) [
      | inl below ↦ λ at.
          none_in_row layout front (commands_of layout rows ++ tail) present row (player_count present * tic)
          sound f is.1 j low below (sym (ap (λ (t : List ℕ). slice_get t (place layout j))
          (e ∙ apart front (row_bytes layout row) (commands_of layout rows) tail)) ∙ at)
      | inr above ↦
          none_in_rows layout text (front ++ row_bytes layout row) tail present rows (tic + 1) sound
          (e ∙ next_apart front (row_bytes layout row) (commands_of layout rows) tail)
          (next_row layout front present row tic sound f is.0) is.2 j (omega arith) (omega arith)
    ]

pub length-rows : (layout : Layout) (present : List Bool) (rows : List (List (Option Move))) → IsSound layout
    → RowsOf layout present rows
    → length (commands_of layout rows) ≡ command_size layout * (player_count present * length rows)
length-rows layout present [] sound is = omega arith
length-rows layout present (row ∷ rows) sound is = omega (
  arith,
  length-append (row_bytes layout row) (commands_of layout rows),
  length-row_bytes layout present row sound is.0,
  length-rows layout present rows sound is.2,
)

-- The closed text.

-- rows at their places, where there are as many seats
rows_in-text : (layout : Layout) (text : List ℕ) (seats present : List Bool)
    (rows : List (List (Option Move))) → seats ≡ present → 0 < player_count present
    → map (λ t. moves_from layout text present (player_count present * t)) (range_with_len 0 (length rows)) ≡ rows
    → map (λ t. moves_from layout text seats (player_count seats * t))
    (range_with_len 0 (player_count present * length rows / player_count seats)) ≡ rows
rows_in-text layout text seats present rows same some all =
    let tics : player_count present * length rows / player_count present ≡ length rows =
    mul-div_cancel_left (length rows) some in
    ap (λ (s : List Bool). map (λ t. moves_from layout text s (player_count s * t))
    (range_with_len 0 (player_count present * length rows / player_count s))) same
    ∙ ap (λ n. map (λ t. moves_from layout text present (player_count present * t)) (range_with_len 0 n)) tics ∙ all

module _ (layout : Layout) (start : Start) (view : ℕ) (present : List Bool) (rows : List (List (Option Move))) where
  abbrev head : List ℕ
  head = header layout start view present

  abbrev commands : ℕ
  commands = player_count present * length rows

  abbrev text : List ℕ
  text = demo_text layout start view present rows true

  -- what the text tells of its header
  start-text : start_in text ≡ start
  unfolding demo_text
  start-text = refl

  view-text : get_or text 8 0 ≡ view
  unfolding demo_text
  view-text = refl

  version-text : get_or text 0 0 ≡ layout.version
  unfolding demo_text
  version-text = refl

  -- the header, the commands and the marker
  closed_text : text ≡ head ++ (commands_of layout rows ++ marker ∷ [])
  unfolding demo_text
  closed_text = append_assoc head (commands_of layout rows) (marker ∷ [])

  -- the closed text of rows is read as they are
  module _ (sound : IsSound layout) (can : AreWritable present rows) (told : AllMoves (IsTold layout) rows) where
    row_list : RowsOf layout present rows
    row_list = rows_of layout present rows can.recordable can.moves told

    seats-text : seats_in text ≡ present
    seats-text = ap seats_in closed_text
        ∙ header-seats layout start view present (commands_of layout rows ++ marker ∷ []) can.four

    head_length : length head ≡ place layout (player_count present * 0)
    head_length = omega (arith, length-map present bit, can.four)

    end : length (head ++ commands_of layout rows) ≡ place layout commands
    end = omega (
      arith,
      length-append head (commands_of layout rows),
      head_length,
      length-rows layout present rows sound row_list,
    )

    whole : length text ≡ place layout commands + 1
    whole = omega (
      arith,
      ap length closed_text,
      length-append head (commands_of layout rows ++ marker ∷ []),
      length-append (commands_of layout rows) (marker ∷ []),
      length-append head (commands_of layout rows),
      end,
    )

    ends : EndsBehind layout text commands
    ends =
        let there : get_or text (place layout commands) 0 ≡ marker =
        ap (λ (t : List ℕ). get_or t (place layout commands) 0)
        (closed_text ∙ sym (append_assoc head (commands_of layout rows) (marker ∷ [])))
        ∙ get_or_at (head ++ commands_of layout rows) marker [] 0 (place layout commands) end in
        record {
          marked = slice_get-get_or text (place layout commands) 0 (omega (arith, whole))
              ∙ ap (λ b. Some b) there;
          first = λ j below. none_in_rows layout text head (marker ∷ []) present rows 0 sound closed_text
              head_length row_list j (omega arith) (omega arith);
        }

    read_back : IsReadAs text (Ok (written_demo layout start view present rows))
    read_back =
        let seats = seats-text in
        let all = rows_in-text layout text (seats_in text) present rows seats can.somebody
        (rows_behind layout text head (marker ∷ []) present rows 0 sound closed_text head_length row_list) in
        let none_cut : commands % player_count (seats_in text) ≡ 0 =
        ap (λ s. commands % player_count s) seats ∙ mul-mod_right (player_count present) (length rows) in
        let none_after : length text - (place layout commands + 1) ≡ 0 = omega (arith, whole) in (
          layout,
          record {
            whole = omega (arith, whole);
            known = ap layout_of_version version-text ∙ sound.known;
            somebody = omega (arith, can.somebody, ap player_count seats);
          },
          (
            commands,
            ends,
            λ i. record {
              version = sym version-text i;
              start = sym start-text i;
              view = sym view-text i;
              present = sym seats i;
              rows = sym all i;
              cut = sym none_cut i;
              after = sym none_after i;
            },
          ),
        )

-- a fact that follows from two others
all_then : {X : Type 0} (P Q R : X → Type 0) → ((x : X) → P x → Q x → R x) → (xs : List X) → All P xs
    → All Q xs → All R xs
all_then P Q R follows [] ps qs = All-nil R
all_then P Q R follows (x ∷ xs) ps qs =
    All-cons R x xs (follows x (All-head P x xs ps) (All-head Q x xs qs))
    (all_then P Q R follows xs (All-tail P x xs ps) (All-tail Q x xs qs))

moves_then : (P Q R : Move → Type 0) → ((m : Move) → P m → Q m → R m) → (rows : List (List (Option Move)))
    → AllMoves P rows → AllMoves Q rows → AllMoves R rows
moves_then P Q R follows rows ps qs =
    all_then (All (λ step. IfSome step P)) (All (λ step. IfSome step Q)) (All (λ step. IfSome step R))
    (all_then (λ step. IfSome step P) (λ step. IfSome step Q) (λ step. IfSome step R) seat) rows ps qs
  where
    seat : (step : Option Move) → IfSome step P → IfSome step Q → IfSome step R
    seat None p q = tt
    seat (Some m) p q = follows m p q

-- in either layout
pub vanilla_read_back : (start : Start) (view : ℕ) (present : List Bool) (rows : List (List (Option Move)))
    → AreWritable present rows → AllMoves IsWhole rows → IsReadAs (demo_text vanilla start view present rows true)
    (Ok (written_demo vanilla start view present rows))
vanilla_read_back start view present rows can whole =
    read_back vanilla start view present rows vanilla_sound can
    (moves_then IsMove IsWhole (IsTold vanilla) whole_told rows can.moves whole)

pub long_read_back : (start : Start) (view : ℕ) (present : List Bool) (rows : List (List (Option Move)))
    → AreWritable present rows → IsReadAs (demo_text long_tics start view present rows true)
    (Ok (written_demo long_tics start view present rows))
long_read_back start view present rows can =
    read_back long_tics start view present rows long_tics_sound can
    (moves_then IsMove IsMove (IsTold long_tics) (λ m fits same. long_told m fits) rows can.moves can.moves)
