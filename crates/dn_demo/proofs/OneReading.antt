-- The bytes of a demo are read in one way.
use Rattle.std.specs.List.{range_with_len}
use Rattle.std.proofs.Common.{◌≡◌, ◌≢◌, ◌<◌, ℕ, ◌+◌, List, length, min, drop, get_or, slice_get, Some, ap, ◌∙◌, arith, below_more, ◌≤◌, ◌-◌, ◌*◌, ◌/◌, ◌%◌, map, take, Result, Ok, Err, refl, sym, inl, inr}
use Rattle.std.proofs.lemmas.{List.{get_or-drop, length-drop, drop-drop, drop_min, get_or-take, length-take-le}, Bool.cases_order, Option.{slice_get-get_or, slice_get_within}}
use Rattle.std.proofs.Math.Nat.{mul-div_cancel_left}
use Rattle.dn_demo.specs.{Layout.{Layout, command_size}, Text.{marker, player_count}, Places.{place, HasNoMarker, EndsBehind, layout_in, seats_in, commands_in, row_in}}
use Rattle.dn_demo.specs.Reading.{Recording, recording, HasHeader, IsReadAs, IsSameButMemory}
use Rattle.dn_demo.specs.{declared.demo.DemoFault.DemoFault, declared.demo.DemoFault.TheVariants.{Short, Version, NoPlayers, NoMarker, Memory}}
use Rattle.dn_demo.proofs.{Text.place_below, Fronts.{start_in-take, seats_in-take, row_in-take, map-agree}}

-- The search for the marker, from one command's place to the next.

-- the first byte of the rest stands at the command's place
byte_at : (layout : Layout) (bytes rest : List ℕ) (k : ℕ) → rest ≡ drop (place layout k) bytes → 0 < length rest
    → slice_get bytes (place layout k) ≡ Some (get_or rest 0 0)
byte_at layout bytes rest k e some = grind (arith, length-drop, get_or-drop, slice_get-get_or)

pub found : (layout : Layout) (bytes rest : List ℕ) (k : ℕ) → rest ≡ drop (place layout k) bytes → 0 < length rest
    → HasNoMarker layout bytes k → get_or rest 0 0 ≡ marker → EndsBehind layout bytes k
found layout bytes rest k e some none is =
    record { marked = byte_at layout bytes rest k e some ∙ ap (λ x. Some x) is; first = none }

pub passed : (layout : Layout) (bytes rest : List ℕ) (k : ℕ) → rest ≡ drop (place layout k) bytes → 0 < length rest
    → HasNoMarker layout bytes k → get_or rest 0 0 ≢ marker → HasNoMarker layout bytes (k + 1)
passed layout bytes rest k e some none not = grind (arith, slice_get, Some, byte_at, below_more)

-- one command on, or to the end where less than a command is left
pub next_rest : (layout : Layout) (bytes rest after : List ℕ) (k : ℕ) → rest ≡ drop (place layout k) bytes
    → after ≡ drop (min (command_size layout) (length rest)) rest → after ≡ drop (place layout (k + 1)) bytes
next_rest layout bytes rest after k e f = grind (arith, drop_min, drop-drop)

-- past the end of the bytes there is no marker
pub nowhere : (layout : Layout) (bytes rest : List ℕ) (k : ℕ) → rest ≡ drop (place layout k) bytes → length rest ≡ 0
    → HasNoMarker layout bytes k → (command : ℕ) → slice_get bytes (place layout command) ≢ Some marker
nowhere layout bytes rest k e empty none command here = grind (arith, slice_get_within, length-drop, cases_order, place_below)

-- the marker stands behind one number of commands
pub one_end : (layout : Layout) (bytes : List ℕ) (j k : ℕ) → EndsBehind layout bytes j
    → EndsBehind layout bytes k → j ≡ k
one_end layout bytes j k p q = grind (arith, cases_order)

-- The reading.

-- the bytes before the marker tell the whole demo
pub recording-take : (layout : Layout) (k : ℕ) (bytes : List ℕ) (after : ℕ)
    → recording layout (take (place layout k) bytes) k after ≡ recording layout bytes k after
recording-take layout k bytes after =
    let whole : 13 ≤ place layout k = omega arith in
    let start = start_in-take (place layout k) bytes whole in
    let version = get_or-take (place layout k) bytes 0 0 (omega arith) in
    let view = get_or-take (place layout k) bytes 8 0 (omega arith) in
    let seats = seats_in-take (place layout k) bytes whole in
    let tics : k / player_count (seats_in (take (place layout k) bytes)) ≡ k / player_count (seats_in bytes) =
    ap (λ s. k / player_count s) seats in
    let rows = ap (λ n. map (row_in layout (take (place layout k) bytes)) (range_with_len 0 n)) tics
    ∙ map-agree (row_in layout (take (place layout k) bytes)) (row_in layout bytes) 0
    (k / player_count (seats_in bytes)) (λ i low high. row_in-take layout k bytes i (omega arith)) in
    λ i. record {
      version = version i;
      start = start i;
      view = view i;
      present = seats i;
      rows = rows i;
      cut = k % player_count (seats i);
      after = after;
    }

-- and in one layout
pub same_layout : (bytes : List ℕ) (a b : Layout) → layout_in bytes ≡ Some a → layout_in bytes ≡ Some b → a ≡ b
same_layout bytes a b p q = let both = sym p ∙ q in cc

pub same_demo : (bytes : List ℕ) (d e : Recording) → IsReadAs bytes (Ok d) → IsReadAs bytes (Ok e) → d ≡ e
same_demo bytes d e p q = grind (arith, same_layout, one_end)

-- what reads as a demo reads as nothing else, memory aside
pub one_reading : (bytes : List ℕ) (d : Recording) → IsReadAs bytes (Ok d) → (r : Result Recording DemoFault)
    → IsReadAs bytes r → IsSameButMemory (Ok d) r
one_reading bytes d p (Ok e) q = inl (ap (λ x. Ok x) (same_demo bytes d e p q))
one_reading bytes d p (Err Short) q = absurd (omega (arith, p.1.whole))
one_reading bytes d p (Err Version) q = absurd (let both = sym p.1.known ∙ q.1 in cc)
one_reading bytes d p (Err NoPlayers) q = absurd (omega (arith, p.1.somebody))
one_reading bytes d p (Err NoMarker) q = grind (arith, same_layout)
one_reading bytes d p (Err Memory) q = inr (inr refl)

-- a demo that keeps these bytes
pub read_of_front : (layout : Layout) (bytes front : List ℕ) (k after : ℕ) → HasHeader layout bytes
    → EndsBehind layout bytes k → front ≡ take (place layout k) bytes → after ≡ length bytes - place layout k - 1
    → IsReadAs bytes (Ok (recording layout front (commands_in layout front) after))
read_of_front layout bytes front k after head behind e f =
    let inside = slice_get_within bytes (place layout k) marker behind.marked in
    let len : length (take (place layout k) bytes) ≡ place layout k =
    length-take-le (place layout k) bytes (omega arith) in
    let count : length front - 13 ≡ command_size layout * k = omega (arith, ap length e) in
    let commands : commands_in layout front ≡ k = ap (λ n. n / command_size layout) count
    ∙ mul-div_cancel_left k (omega arith) in
    let left : after ≡ length bytes - (place layout k + 1) = omega arith in
    let same = (λ i. recording layout (e i) (commands i) (left i))
    ∙ recording-take layout k bytes (length bytes - (place layout k + 1)) in
    (layout, head, (k, behind, same))
