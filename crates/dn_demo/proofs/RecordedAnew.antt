-- A demo that was read, recorded row by row.
use Rattle.std.proofs.Common.{◌≡◌, ◌≢◌, ◌<◌, ◌≤◌, ℕ, zero, suc, ◌+◌, ◌*◌, ◌/◌, Bool, true, false, List, [], ◌∷◌, length, map, take, drop, get_or, slice_get, All, Some, None, Ok, IfSome, is_some, FitsSigned, refl, sym, subst, arith, w8, ◌-◌, ◌++◌, nat_le, Option, ap, ◌∙◌}
use Rattle.std.proofs.lemmas.{Int.{ints, of_z-to_z}, Bool.{cases_lt, eq-eqb, ne_eqb, le-leb, leb-true}, List.{get_or-take, get_or-drop, get_or_past, length-take, take_more, length-map}, List.Elements.{All-nil, All-cons, All-get_or}, Option.{slice_get-get_or, slice_get_within, get_or_from_slice_get}}
use Rattle.std.proofs.Math.Nat.{mul-div-le}
use Rattle.std.specs.{Int.w16, List.range_with_len}
use Rattle.dn_tic.specs.declared.command.Move.{Move}
use Rattle.dn_setup.specs.{declared.settings.Start.Start, Settings.bit}
use Rattle.dn_world.specs.Physics.{Physics}
use Rattle.dn_demo.specs.{Layout.{Layout, vanilla, long_tics, layout_of_version, command_size}, Text.{IsMove, IsRecordable, IsRow, AreWritable, player_count, marker, demo_text}, Places.{seats_in, place, move_at, moves_from, row_in, HasNoMarker, commands_in}}
use Rattle.dn_demo.specs.Reading.{Recording, IsReadAs, recording, written_demo, state_after}
use Rattle.dn_demo.specs.Recorded.{Recorded, AddsRow, recorded_size, IsUpgraded}
use Rattle.dn_demo.proofs.{Fronts.{tic_fits, length-rows}, Text.{place_below, text-none}}
use Rattle.dn_demo.proofs.{OneReading.same_demo, ReadBack.long_read_back}

-- The rows of a demo that was read can be written again.

-- each is a byte
abbrev pub AreBytes : List ℕ → Type 0
AreBytes bytes = (i : ℕ) → get_or bytes i 0 < 256

pub all_bytes : (bytes : List ℕ) → All (λ byte. byte < 256) bytes → AreBytes bytes
all_bytes bytes fits i = grind (arith, cases_lt, All-get_or, get_or_past)

drop_bytes : (n : ℕ) (bytes : List ℕ) → AreBytes bytes → AreBytes (drop n bytes)
drop_bytes n bytes fits i = let same = get_or-drop n bytes i 0 in let there = fits (n + i) in omega arith

take_bytes : (n : ℕ) (bytes : List ℕ) → AreBytes bytes → AreBytes (take n bytes)
take_bytes n bytes fits i = grind (arith, cases_lt, get_or-take, get_or_past, length-take)

-- a turn that bytes tell
vanilla_turn : (bytes : List ℕ) → AreBytes bytes → FitsSigned w16 (vanilla.turn_told bytes)
vanilla_turn bytes fits = let low = fits 0 in omega (arith, ints)

long_turn : (bytes : List ℕ) → AreBytes bytes → FitsSigned w16 (long_tics.turn_told bytes)
long_turn bytes fits = grind (arith, ints)

turn_fits : (version : ℕ) (layout : Layout) → layout_of_version version ≡ Some layout → (bytes : List ℕ)
    → AreBytes bytes → FitsSigned w16 (layout.turn_told bytes)
turn_fits version layout e bytes fits = grind (arith, eq-eqb, Some, FitsSigned, vanilla_turn, ne_eqb, long_turn, None)

-- a move that a command tells
move_fits : (version : ℕ) (layout : Layout) → layout_of_version version ≡ Some layout
    → (bytes : List ℕ) (command : ℕ) → AreBytes bytes → IsMove (move_at layout bytes command)
move_fits version layout e bytes command fits = grind (arith, take_bytes, drop_bytes, ints, turn_fits)

-- goes forward by no -128 where no marker stands
no_stop : (layout : Layout) (bytes : List ℕ) (command : ℕ) → AreBytes bytes → place layout command < length bytes
    → slice_get bytes (place layout command) ≢ Some marker → IsRecordable (move_at layout bytes command)
no_stop layout bytes command fits inside not is = grind (arith, get_or, get_or-take, get_or-drop, of_z-to_z, w8, slice_get-get_or, Some)

-- a row that is told
row_seats : (layout : Layout) (bytes : List ℕ) (seats : List Bool) (command : ℕ)
    → map is_some (moves_from layout bytes seats command) ≡ seats
row_seats layout bytes [] command = refl
row_seats layout bytes (true ∷ seats) command = let others = row_seats layout bytes seats (command + 1) in
    λ i. true ∷ others i
row_seats layout bytes (false ∷ seats) command = let others = row_seats layout bytes seats command in
    λ i. false ∷ others i

-- a fact of every command that a row has
row_moves : (P : Move → Type 0) (layout : Layout) (bytes : List ℕ) (commands : ℕ)
    → ((j : ℕ) → j < commands → P (move_at layout bytes j))
    → (seats : List Bool) (command : ℕ) → command + player_count seats ≤ commands
    → All (λ step. IfSome step P) (moves_from layout bytes seats command)
row_moves P layout bytes commands each [] command fits = All-nil (λ step. IfSome step P)
row_moves P layout bytes commands each (true ∷ seats) command fits = grind (arith, All-cons, IfSome, Some, row_moves P layout bytes commands each seats (command + 1) (omega arith))
row_moves P layout bytes commands each (false ∷ seats) command fits =
    All-cons (λ step. IfSome step P) None _ tt (row_moves P layout bytes commands each seats command fits)

pub row_told : (layout : Layout) (bytes : List ℕ) (commands : ℕ) → AreBytes bytes
    → place layout commands ≤ length bytes → HasNoMarker layout bytes commands
    → (seats : List Bool) (command : ℕ) → command + player_count seats ≤ commands
    → IsRow seats (moves_from layout bytes seats command)
row_told layout bytes commands fits whole none seats command room = record {
  seats = row_seats layout bytes seats command;
  moves = row_moves IsRecordable layout bytes commands
      (λ j below. let next = place_below layout j commands below in
      no_stop layout bytes j fits (omega arith) (none j below)) seats command room;
}

-- a fact of all rows
all_rows : {X : Type 0} (P : X → Type 0) (f : ℕ → X) (a n : ℕ) → ((i : ℕ) → i < a + n → P (f i))
    → All P (map f (range_with_len a n))
all_rows P f a zero each = All-nil P
all_rows P f a (suc n) each = All-cons P (f a) _ (each a (omega arith))
    (all_rows P f (a + 1) n (λ i below. each i (omega arith)))

-- the rows of a demo that was read
pub rows_writable : (bytes : List ℕ) (demo : Recording) → AreBytes bytes → IsReadAs bytes (Ok demo)
    → AreWritable demo.present demo.rows
rows_writable bytes demo fits read =
    let layout = read.0 in
    let commands = read.2.0 in
    let seats = seats_in bytes in
    let players = player_count seats in
    let end = slice_get_within bytes (place layout commands) marker read.2.1.marked in
    let row : (t : ℕ) → t < 0 + commands / players → IsRow seats (row_in layout bytes t) =
    λ t below. row_told layout bytes commands fits (omega arith) read.2.1.first seats (players * t)
    (tic_fits players t commands (omega arith)) in
    let moves : (t : ℕ) → t < 0 + commands / players
    → All (λ step. IfSome step IsMove) (row_in layout bytes t) =
    λ t below. row_moves IsMove layout bytes commands
    (λ j inside. move_fits (get_or bytes 0 0) layout read.1.known bytes j fits) seats (players * t)
    (tic_fits players t commands (omega arith)) in
    subst (λ (d : Recording). AreWritable d.present d.rows) (sym read.2.2)
    (record {
      four = refl;
      somebody = read.1.somebody;
      recordable = all_rows (IsRow seats) (row_in layout bytes) 0 (commands / players) row;
      moves = all_rows (All (λ step. IfSome step IsMove)) (row_in layout bytes) 0 (commands / players) moves;
    })

-- They are recorded.

-- the text of the first rows, with one more
pub one_more : (old new : List ℕ) (start : Start) (view : ℕ) (present : List Bool)
    (rows : List (List (Option Move))) (tic : ℕ) (row : List (Option Move))
    → AddsRow old new row → old ≡ demo_text long_tics start view present (take tic rows) false
    → Some row ≡ slice_get rows tic → new ≡ demo_text long_tics start view present (take (tic + 1) rows) false
one_more old new start view present rows tic row adds e is =
    let below = slice_get_within rows tic row (sym is) in
    let same = get_or_from_slice_get rows tic row row (sym is) in
    adds start view present (take tic rows) e
    ∙ ap (λ (rs : List (List (Option Move))). demo_text long_tics start view present rs false)
    (ap (λ (r : List (Option Move)). take tic rows ++ r ∷ []) (sym same) ∙ sym (take_more rows tic row below))

-- how long a text without rows is
pub length-none : (start : Start) (view : ℕ) (present : List Bool) → length present ≡ 4
    → length (demo_text long_tics start view present [] false) ≡ 13
length-none start view present four =
    ap length (text-none long_tics start view present) ∙ omega (arith, length-map present bit)

-- an upgraded demo is read as what was read of the old one
pub upgraded_read : (bytes : List ℕ) (demo : Recording) (limit : ℕ) (recorder : Recorded) → AreBytes bytes
    → IsReadAs bytes (Ok demo) → IsUpgraded demo limit (Ok recorder)
    → IsReadAs recorder.bytes (Ok (written_demo long_tics demo.start demo.view demo.present demo.rows))
upgraded_read bytes demo limit recorder fits read upgraded =
    subst (λ (r : Recorded). IsReadAs r.bytes
    (Ok (written_demo long_tics demo.start demo.view demo.present demo.rows))) (sym upgraded.2)
    (long_read_back demo.start demo.view demo.present demo.rows (rows_writable bytes demo fits read))

-- and leads any world to the same state
pub upgraded_played : {S : Type 0} (physics : Physics S) (bytes : List ℕ) (demo new : Recording) (limit : ℕ)
    (recorder : Recorded) → AreBytes bytes
    → IsReadAs bytes (Ok demo) → IsUpgraded demo limit (Ok recorder) → IsReadAs recorder.bytes (Ok new)
    → state_after physics new ≡ state_after physics demo
upgraded_played physics bytes demo new limit recorder fits read upgraded again =
    ap (state_after physics)
    (same_demo recorder.bytes _ _ again (upgraded_read bytes demo limit recorder fits read upgraded))

-- the next row fits, where all rows of the demo do
pub row_fits : (limit players tic tics capacity len row : ℕ) → len ≡ place long_tics (players * tic)
    → row ≡ command_size long_tics * players
    → ((n : ℕ) → nat_le (recorded_size players n) limit ≡ nat_le n capacity) → tic < tics → tics ≤ capacity
    → len + row + 1 ≤ limit
row_fits limit players tic tics capacity len row e f fits below within =
    let same : len + row + 1 ≡ recorded_size players (tic + 1) = omega arith in
    leb-true (len + row + 1) limit
    (ap (λ n. nat_le n limit) same ∙ fits (tic + 1) ∙ le-leb (tic + 1) capacity (omega arith))

-- the row of a tic can be written by a recorder of the same players
pub row_recordable : (layout : Layout) (bytes kept : List ℕ) (after : ℕ) (demo : Recording)
    (seats own : List Bool) (players tic : ℕ) (row : List (Option Move))
    → 13 ≤ length bytes → HasNoMarker layout bytes (commands_in layout bytes) → AreBytes kept
    → recording layout bytes (commands_in layout bytes) after ≡ demo → kept ≡ bytes → seats ≡ demo.present
    → own ≡ demo.present → players ≡ player_count seats
    → tic < length demo.rows → row ≡ moves_from layout kept seats (players * tic) → IsRow own row
row_recordable layout bytes kept after demo seats own players tic row whole none fits shown e f g h below is =
    let same : player_count seats ≡ player_count (seats_in bytes) =
    ap player_count (f ∙ sym (ap (λ (d : Recording). d.present) shown)) in
    let commands : commands_in layout kept ≡ commands_in layout bytes = ap (commands_in layout) e in
    let rows = length-rows layout bytes after demo shown in
    let within : tic < commands_in layout kept / player_count seats =
    subst (λ n. tic < n) (rows ∙ (λ i. sym commands i / sym same i)) below in
    let all = mul-div-le (length kept - 13) (command_size layout) in
    let long : 13 ≤ length kept = omega (arith, ap length e) in
    let told = row_told layout kept (commands_in layout kept) fits (omega arith)
    (subst (λ (b : List ℕ). HasNoMarker layout b (commands_in layout b)) (sym e) none)
    seats (player_count seats * tic) (tic_fits (player_count seats) tic (commands_in layout kept) within) in
    let row_is : moves_from layout kept seats (player_count seats * tic) ≡ row =
    ap (λ n. moves_from layout kept seats (n * tic)) (sym h) ∙ sym is in
    subst (λ (r : List (Option Move)). IsRow own r) row_is
    (subst (λ (s : List Bool). IsRow s (moves_from layout kept seats (player_count seats * tic))) (f ∙ sym g) told)
