-- What holds of both layouts, and of the text of a demo that goes on, and how long its parts are.
use Rattle.std.proofs.Common.{◌≡◌, ◌<◌, ◌≤◌, ℕ, suc, ◌+◌, ◌*◌, ◌/◌, ℤ, pos, negsuc, int_rem, length, Some, FitsSigned, refl, ap, ◌∙◌, arith, w8, length-append, Bool, true, false, List, [], ◌∷◌, ◌++◌, map, Option, None, is_some, append_assoc, append-nil}
use Rattle.std.proofs.{Math.{Nat.{mul-le-mul_left, le_of_mul-le-mul_left}, Seq.take-append_seam}, lemmas.List.get_or_at}
use Rattle.std.proofs.lemmas.{Int.{ints, to_z-of_z}, List.Concat.flat_map-append, Nat.from_le_bytes-to_le_bytes_2}
use Rattle.std.specs.Int.{w16, cast_signed, cast_unsigned}
use Rattle.dn_tic.specs.declared.command.Move.{Move}
use Rattle.dn_setup.specs.{declared.settings.Start.Start, Settings.bit}
use Rattle.dn_demo.specs.{Layout.{Layout, vanilla, long_tics, layout_of_version, command_size, spell, tell}, Text.{IsMove, IsWhole, player_count, demo_text, header, row_bytes, marker}, Places.{place, seats_in, is_set}}
use Rattle.dn_demo.specs.Recorded.{AddsRow, Closes}

-- demos of its version are read by it, and it gives every turn as many bytes
pub record IsSound (layout : Layout) : Type 0 where
  pub known : layout_of_version layout.version ≡ Some layout
  pub sized : (turn : ℤ) → length (layout.turn_bytes turn) ≡ layout.turn_size

pub vanilla_sound : IsSound vanilla
vanilla_sound = record { known = refl; sized = λ turn. refl }

pub long_tics_sound : IsSound long_tics
long_tics_sound = record { known = refl; sized = λ turn. refl }

-- a turn is told by its bytes
abbrev pub IsTold : Layout → Move → Type 0
IsTold layout m = layout.turn_told (layout.turn_bytes m.turn) ≡ m.turn

-- in one byte a turn of whole multiples of 256
whole_turn : (turn : ℤ) → FitsSigned w16 turn → int_rem turn (pos 256) ≡ pos 0
    → cast_signed w16 (cast_unsigned w16 turn / 256 * 256) ≡ turn
whole_turn (pos n) fits e = ap (cast_signed w16) (omega (arith, ints)) ∙ to_z-of_z w16 (pos n) fits
whole_turn (negsuc n) fits e = grind (arith, suc, ints, to_z-of_z, negsuc)

pub whole_told : (m : Move) → IsMove m → IsWhole m → IsTold vanilla m
whole_told m fits e = whole_turn m.turn fits.turn e

-- in two bytes every turn
pub long_told : (m : Move) → IsMove m → IsTold long_tics m
long_told m fits = grind (arith, ints, from_le_bytes-to_le_bytes_2, to_z-of_z)

-- a move is told by its bytes, where its turn is
pub move_told : (layout : Layout) (m : Move) → IsSound layout → IsMove m → IsTold layout m
    → tell layout (spell layout m) ≡ m
move_told layout m sound fits is = grind (arith, take-append_seam, to_z-of_z, w8, get_or_at)

-- how many bytes a move has
pub length-spell : (layout : Layout) (m : Move) → IsSound layout → length (spell layout m) ≡ command_size layout
length-spell layout m sound = grind (arith, length-append)

-- places of commands keep their order
pub place_below : (layout : Layout) (j k : ℕ) → j < k → place layout j + command_size layout ≤ place layout k
place_below layout j k below = grind (arith, mul-le-mul_left)

pub place_order : (layout : Layout) (j k : ℕ) → place layout j ≤ place layout k → j ≤ k
place_order layout j k order = le_of_mul-le-mul_left {k = command_size layout} (omega arith) (omega arith)

-- The text of a demo.

-- one more row
pub text-row : (old new : List ℕ) (row : List (Option Move)) → new ≡ old ++ row_bytes long_tics row
    → AddsRow old new row
unfolding demo_text
text-row old new row e start view present rows text = grind (arith, flat_map-append, append-nil, append_assoc)

-- the marker
pub text-closed : (old new : List ℕ) → new ≡ old ++ marker ∷ [] → Closes old new
unfolding demo_text
text-closed old new e start view present rows text = grind (arith, append-nil)

-- a command for each player who is present
pub length-row_bytes : (layout : Layout) (present : List Bool) (row : List (Option Move)) → IsSound layout
    → map is_some row ≡ present → length (row_bytes layout row) ≡ command_size layout * player_count present
length-row_bytes layout [] [] sound e = omega arith
length-row_bytes layout (p ∷ ps) [] sound e = cc
length-row_bytes layout [] (s ∷ row) sound e = cc
length-row_bytes layout (true ∷ ps) (Some m ∷ row) sound e =
    let rest : map is_some row ≡ ps = cc in
    omega (
      arith,
      length-append (spell layout m) (row_bytes layout row),
      length-spell layout m sound,
      length-row_bytes layout ps row sound rest,
    )
length-row_bytes layout (false ∷ ps) (None ∷ row) sound e =
    let rest : map is_some row ≡ ps = cc in
    length-row_bytes layout ps row sound rest
length-row_bytes layout (true ∷ ps) (None ∷ row) sound e = cc
length-row_bytes layout (false ∷ ps) (Some m ∷ row) sound e = cc

-- no row yet
pub text-none : (layout : Layout) (start : Start) (view : ℕ) (present : List Bool)
    → demo_text layout start view present [] false ≡ header layout start view present
unfolding demo_text
text-none layout start view present = append-nil (header layout start view present ++ [])
    ∙ append-nil (header layout start view present)

is_set-bit : (b : Bool) → is_set (bit b) ≡ b
is_set-bit true = refl
is_set-bit false = refl

-- the flags of a header are those of its players
pub header-seats : (layout : Layout) (start : Start) (view : ℕ) (present : List Bool) (more : List ℕ)
    → length present ≡ 4 → seats_in (header layout start view present ++ more) ≡ present
header-seats layout start view (a ∷ b ∷ c ∷ d ∷ []) more four =
    λ i. is_set-bit a i ∷ is_set-bit b i ∷ is_set-bit c i ∷ is_set-bit d i ∷ []
header-seats layout start view _ more four = absurd (omega arith)
