-- What a feed has kept behind the bytes of its rows, by its fields.
use Rattle.std.proofs.Common.{◌≡◌, ◌≢◌, ◌<◌, ◌≤◌, ℕ, ◌+◌, ◌-◌, ◌*◌, ◌/◌, ◌%◌, Bool, true, false, List, [], ◌∷◌, ◌++◌, length, take, set, Option, Some, refl, sym, ap, ◌∙◌, subst, arith, length-append}
use Rattle.std.proofs.Math.Nat.{mul-div_cancel_left}
use Rattle.std.proofs.lemmas.{Bool.cases_lt, List.{take_all, take_more_set, take-append-drop, length-take, length-take-le, length-drop}}
use Rattle.dn_tic.specs.declared.command.Move.{Move}
use Rattle.dn_world.specs.Physics.{Physics}
use Rattle.dn_demo.specs.{Layout.{Layout, layout_of, command_size}, Text.{player_count, marker}, Places.{seats_in, place, moves_from}, Reading.HasHeader, Feeding.{Feeding, feeding_of, IsKept, Shows, ShowsRows, StepsRows, Takes, TakesFront, row_size, EndsRow}}
use Rattle.dn_demo.specs.declared.layout.Layout.TheVariants.{Vanilla, LongTics}
use Rattle.dn_demo.proofs.{OneReading.same_layout, Fronts.{header_of_kept, seats_kept}, RowsKept.{Unmarked, of_unmarked, byte_kept, row_done, rows_done, marker_came}, FeedKept.{shown_in, take_past}}
use Rattle.dn_demo.specs.declared.layout.Layout as declared
use Rattle.dn_demo.proofs.RowsKept as rows

-- a row has at most twenty bytes
few_players : (seats : List Bool) → player_count seats ≤ length seats
few_players [] = omega arith
few_players (true ∷ seats) = omega (arith, few_players seats)
few_players (false ∷ seats) = omega (arith, few_players seats)

short_row : (name : declared.Layout) (bytes : List ℕ) → row_size (layout_of name) (seats_in bytes) ≤ 20
short_row Vanilla bytes = omega (arith, few_players (seats_in bytes))
short_row LongTics bytes = omega (arith, few_players (seats_in bytes))

-- a feed with a whole header, in which somebody plays
module _ {S W : Type 0} (state : W → S) (physics : Physics S) {taken tics after : ℕ} {marked : Bool}
    {world : W} {f : Feeding W} (header : List ℕ) (kept : ℕ) (row : List ℕ)
    (view : feeding_of taken header tics kept row marked after world ≡ f)
    (sized : (length header ≡ 13) × (length row ≡ 20))
    (is : (kept ≤ 20) × IsKept (feeding_of taken header tics kept row marked after world))
    (name : declared.Layout) (playing : HasHeader (layout_of name) f.header) where
  abbrev old : Feeding W
  old = feeding_of taken header tics kept row marked after world

  abbrev layout : Layout
  layout = layout_of name

  has : HasHeader layout (take taken header)
  has = subst (λ (h : Feeding W). HasHeader layout h.header) (sym view) playing

  long : 13 ≤ taken
  long = omega (arith, has.whole, length-take taken header, sized.0)

  all : take taken header ≡ header
  all = take_all taken header (omega (arith, sized.0, long))

  same_header : (n : ℕ) → take (taken + n) header ≡ take taken header
  same_header n = take_past taken n header sized.0 long

  row_length : length (take kept row) ≡ kept
  row_length = length-take-le kept row (omega (arith, sized.1, is.0))

  unfinished : kept < row_size layout (seats_in header)
  unfinished = subst (λ (t : List ℕ). kept < row_size layout (seats_in t)) all
      (omega (arith, row_length, is.1.unfinished layout has))

  -- the row has room for another byte
  pub room : kept < 20
  room = omega (arith, unfinished, short_row name header)

  -- before the marker came
  module _ (unmarked : f.marked ≡ false) where
    free : marked ≡ false
    free = subst (λ (h : Feeding W). h.marked ≡ false) (sym view) unmarked

    -- what was kept of whatever bytes were shown
    kept_before : (bytes : List ℕ) → Shows state physics bytes old
        → Unmarked state physics layout bytes after tics (take kept row) world
    kept_before bytes shown = rows.unmarked state physics layout bytes old free
        (shown.rows layout (header_of_kept layout bytes (take taken header) shown.header has))

    seats_of : (bytes : List ℕ) → Shows state physics bytes old → seats_in header ≡ seats_in bytes
    seats_of bytes shown = ap seats_in (sym all) ∙ seats_kept bytes (take taken header) shown.header

    -- more bytes are taken where their rows are shown
    shown_on : (more : List ℕ) (g : Feeding W) → g.taken ≡ taken + length more → g.header ≡ take taken header
        → ((bytes : List ℕ) → seats_in header ≡ seats_in bytes
        → Unmarked state physics layout bytes after tics (take kept row) world
        → ShowsRows state physics layout (bytes ++ more) g)
        → Takes state physics f more g
    shown_on more g count same shows =
        subst (λ (h : Feeding W). Takes state physics h more g) view (λ bytes shown.
        shown_in state physics layout bytes more old g has long shown count same
        (λ _. shows bytes (seats_of bytes shown) (kept_before bytes shown)))

    module _ (byte : ℕ) where
      -- a marker at a command's place
      pub marker_taken : (byte ≡ marker) × (kept % command_size layout ≡ 0) → Takes state physics f (byte ∷ [])
          (feeding_of (taken + 1) header tics kept row true after world)
      marker_taken at =
          let new = feeding_of (taken + 1) header tics kept row true after world in
          shown_on (byte ∷ []) new refl (same_header 1) (λ bytes seats u.
          subst (λ b. ShowsRows state physics layout (bytes ++ b ∷ []) new) (sym at.0)
          (marker_came state physics layout bytes old new.taken new.header u
          (ap (λ n. n % command_size layout) row_length ∙ at.1)))

      -- the row with the byte
      joined : take (kept + 1) (set row kept byte) ≡ take kept row ++ byte ∷ []
      joined = take_more_set row kept byte (omega (arith, sized.1, room))

      longer : length (take kept row ++ byte ∷ []) ≡ kept + 1
      longer = omega (arith, length-append (take kept row) (byte ∷ []), row_length)

      no_marker : (byte ≡ marker → kept % command_size layout ≢ 0)
          → byte ≡ marker → length (take kept row) % command_size layout ≢ 0
      no_marker not is zero = not is (ap (λ n. n % command_size layout) (sym row_length) ∙ zero)

      -- a byte of a row of these players
      module _ {present : List Bool} {size players : ℕ} (seats : present ≡ seats_in header)
          (size_is : size ≡ command_size layout) (players_are : players ≡ player_count present) where
        count : size * players ≡ row_size layout (seats_in header)
        count = (λ i. size_is i * players_are i) ∙ ap (row_size layout) seats

        -- a row that is not full has room for another byte
        not_full : (kept + 1 ≡ size * players → ⊥) → kept + 1 < row_size layout (seats_in header)
        not_full not = grind (arith, cases_lt, count, unfinished)

        -- a feed that took a byte of a row
        pub still_kept : (kept + 1 ≡ size * players → ⊥)
            → (kept + 1 ≤ 20)
            × IsKept (feeding_of (taken + 1) header tics (kept + 1) (set row kept byte) marked after world)
        still_kept not = grind (arith, not_full, short_row, long, unfinished, same_header, same_layout, has, all, joined, longer)

        pub byte_taken : (byte ≡ marker → kept % command_size layout ≢ 0) → (kept + 1 ≡ size * players → ⊥)
            → Takes state physics f (byte ∷ [])
            (feeding_of (taken + 1) header tics (kept + 1) (set row kept byte) marked after world)
        byte_taken not less =
            let new = feeding_of (taken + 1) header tics (kept + 1) (set row kept byte) marked after world in
            shown_on (byte ∷ []) new refl (same_header 1) (λ bytes same u.
            of_unmarked state physics layout (bytes ++ byte ∷ []) new free
            (subst (λ (r : List ℕ). Unmarked state physics layout (bytes ++ byte ∷ []) after tics r world)
            (sym joined)
            (byte_kept state physics layout bytes after tics (take kept row) world u byte (no_marker not)
            (omega (arith, longer, not_full less, ap (row_size layout) same)))))

        -- the last byte of a row
        module _ {moves : List (Option Move)}
            (told : (front : List ℕ) (command : ℕ) → length front + 0 ≡ place layout command
            → moves ≡ moves_from layout (front ++ take (kept + 1) (set row kept byte)) present command) where
          told_joined : (front : List ℕ) (command : ℕ) → length front + 0 ≡ place layout command
              → moves ≡ moves_from layout (front ++ (take kept row ++ byte ∷ [])) present command
          told_joined front command e = grind (arith, joined)

          pub row_taken : (new : W) → (byte ≡ marker → kept % command_size layout ≢ 0)
              → kept + 1 ≡ size * players → state new ≡ physics.step (state world) moves
              → Takes state physics f (byte ∷ [])
              (feeding_of (taken + 1) header (tics + 1) 0 (set row kept byte) marked after new)
          row_taken new not full stepped =
              shown_on (byte ∷ []) _ refl (same_header 1) (λ bytes same u.
              of_unmarked state physics layout (bytes ++ byte ∷ [])
              (feeding_of (taken + 1) header (tics + 1) 0 (set row kept byte) marked after new) free
              (row_done state physics layout bytes after tics (take kept row) world u byte present moves
              (seats ∙ same) told_joined new (no_marker not)
              (longer ∙ full ∙ count ∙ ap (row_size layout) same) stepped))

          -- and it is the row that is told
          pub row_ended : (bytes : List ℕ) → Shows state physics bytes f
              → EndsRow layout (bytes ++ byte ∷ []) f.tics (tics + 1) (Some moves)
          row_ended =
              subst (λ (h : Feeding W). (bytes : List ℕ) → Shows state physics bytes h
              → EndsRow layout (bytes ++ byte ∷ []) h.tics (tics + 1) (Some moves)) view (λ bytes shown. (
                refl,
                rows.row_told state physics layout bytes after tics (take kept row) world
                    (kept_before bytes shown) byte present moves (seats ∙ seats_of bytes shown) told_joined,
              ))

    -- whole rows at the front of a piece
    pub rows_taken : (piece rest : List ℕ) {present : List Bool} {size players : ℕ} (new : W)
        → kept ≤ 0 → present ≡ seats_in header → size ≡ command_size layout
        → players ≡ player_count present → StepsRows state physics layout present world piece rest new
        → TakesFront state physics f piece rest
        (feeding_of (taken + (length piece - length rest)) header
        (tics + (length piece - length rest) / (size * players)) kept row marked after new)
    rows_taken piece rest {present} {size} {players} new none seats size_is players_are steps =
        let came = length piece - length rest in
        let many = row_size layout present * steps.tics in
        let len = length-take-le many piece steps.within in
        let took : came ≡ many = omega (arith, ap length steps.left, length-drop many piece, steps.within) in
        let some : 0 < row_size layout present = omega (arith, ap (row_size layout) seats, unfinished) in
        let count : came / (size * players) ≡ steps.tics =
        (λ i. took i / (size_is i * players_are i)) ∙ mul-div_cancel_left steps.tics some in
        let zero : kept ≡ 0 = omega (arith, none) in
        let empty : take kept row ≡ [] = ap (λ n. take n row) zero in
        let g = feeding_of (taken + came) header (tics + came / (size * players)) kept row marked after new in
        record {
          front = take many piece;
          split = sym (take-append-drop many piece) ∙ ap (λ (t : List ℕ). take many piece ++ t) (sym steps.left);
          count = omega (arith, took, len, ap (λ (h : Feeding W). h.taken) view);
          shown = shown_on (take many piece) g (omega (arith, took, len)) (same_header came) (λ bytes same u.
              of_unmarked state physics layout (bytes ++ take many piece) g free
              (subst (λ n. Unmarked state physics layout (bytes ++ take many piece) after (tics + n)
              (take kept row) new) (sym count)
              (rows_done state physics layout bytes piece rest present after tics (take kept row) world new u
              empty (seats ∙ same) steps)));
        }
