-- The rows that are told as bytes come.
use Rattle.std.proofs.Common.{◌≡◌, ◌<◌, ◌≤◌, ℕ, ◌+◌, ◌-◌, ◌*◌, ◌/◌, ◌%◌, Bool, true, false, List, length, refl, ap, ◌∙◌, arith, inl, inr, [], ◌∷◌, ◌++◌, Option, Some, None, sym, subst, append_assoc, append-nil, length-append}
use Rattle.std.proofs.Math.Nat.{div-add-mod, mod-lt, lt_of_mul-lt-mul_left}
use Rattle.std.proofs.lemmas.{Nat.div-mul-add, List.{length-take-le, length-drop}, Option.slice_get_within, List.FromFn.map-range_with_len_more}
use Rattle.dn_demo.specs.{Layout.{Layout, command_size}, Text.{marker, player_count}, Places.{place, HasCommands, seats_in, row_in, rows_in}, Feeding.{IsUpToMarker, Feeding, Shows, ShowsRows, Takes, told, EndsRow, AreListed, Lists, TellsFront}, Reading.{HasHeader, HasRows}}
use Rattle.dn_demo.proofs.{Text.place_order, FeedKept.takes_more, Fronts.{header_kept, header_of_kept, kept_longer}, OneReading.same_layout, RowsKept.front_within, Stepping.rows_in-append}
use Rattle.dn_tic.specs.declared.command.Move.{Move}
use Rattle.dn_world.specs.Physics.{Physics}

-- How many whole tics the commands before the marker, or before the end, make.

-- a number between a product and the next is divided to the factor
quotient : (players tics commands : ℕ) → players * tics ≤ commands → commands < players * tics + players
    → commands / players ≡ tics
quotient players tics commands least most = grind (arith, div-mul-add)

-- the commands before the marker, or before the end, make this many tics
pub counted : (layout : Layout) (bytes : List ℕ) (players tics : ℕ) (marked : Bool) (front : List ℕ) (after : ℕ)
    → IsUpToMarker layout bytes marked front after
    → 13 ≤ length bytes → place layout (players * tics) ≤ length front
    → length front < place layout (players * tics) + command_size layout * players
    → (commands : ℕ) × HasCommands layout bytes commands × (commands / players ≡ tics)
counted layout bytes players tics true front after ends long least most =
    let commands = ends.0 in
    let size = command_size layout in
    let inside = slice_get_within bytes (place layout commands) marker ends.1.marked in
    let same : length front ≡ place layout commands = ap length ends.2
    ∙ length-take-le (place layout commands) bytes (omega arith) in
    let next : size * (players * tics + players) ≡ size * (players * tics) + size * players = omega arith in
    let low : players * tics ≤ commands = place_order layout (players * tics) commands
    (omega (arith, same, least)) in
    let high : commands < players * tics + players = lt_of_mul-lt-mul_left size (omega (arith, same, most, next)) in
    (commands, inl ends.1, quotient players tics commands low high)
counted layout bytes players tics false front after ends long least most =
    let size = command_size layout in
    let body = length bytes - 13 in
    let commands = body / size in
    let same : length front ≡ length bytes = ap length ends.1 in
    let split = div-add-mod body size in
    let left : body % size < size = mod-lt body (omega arith) in
    let next : size * (players * tics + players) ≡ size * (players * tics) + size * players = omega arith in
    let more : size * (commands + 1) ≡ size * commands + size = omega arith in
    let low : players * tics < commands + 1 =
    lt_of_mul-lt-mul_left size (omega (arith, same, least, split, left, more)) in
    let high : commands < players * tics + players =
    lt_of_mul-lt-mul_left size (omega (arith, same, most, split, next, long)) in
    (commands, inr (ends.0, refl), quotient players tics commands (omega (arith, low)) high)

-- a header that bytes have once more came behind them
old_header : (layout : Layout) (bytes more : List ℕ) → 13 ≤ length bytes → HasHeader layout (bytes ++ more)
    → HasHeader layout bytes
old_header layout bytes more whole h = grind (arith, kept_longer, header_of_kept, header_kept)

longer_header : (layout : Layout) (bytes more : List ℕ) → HasHeader layout bytes → HasHeader layout (bytes ++ more)
longer_header layout bytes more h = grind (arith, kept_longer, header_of_kept, header_kept)

-- the whole tics of the bytes lie within them
tics_within : {S W : Type 0} (state : W → S) (physics : Physics S) (layout : Layout) (bytes : List ℕ)
    (f : Feeding W) → ShowsRows state physics layout bytes f
    → place layout (player_count (seats_in bytes) * f.tics) ≤ length bytes
tics_within state physics layout bytes f rows =
    omega (arith, rows.whole, front_within layout bytes f.marked rows.front f.after rows.ends)

-- behind a whole header, where no tic ends
pub lists_none : {S W : Type 0} (state : W → S) (physics : Physics S) (f g : Feeding W) (piece : List ℕ)
    → 13 ≤ f.taken → g.tics ≡ f.tics → Lists state physics f piece g []
lists_none state physics f g piece long tics = record {
  tics = omega (arith, tics);
  each = λ bytes before shown listed. record {
    some = λ layout h.
        let here = old_header layout bytes piece (omega (arith, shown.taken, long)) h in
        append-nil before ∙ listed.some layout here
        ∙ sym (rows_in-append layout bytes piece f.tics
        (tics_within state physics layout bytes f (shown.rows layout here)))
        ∙ ap (rows_in layout (bytes ++ piece)) (sym tics);
    none = λ no. append-nil before ∙ listed.none (λ layout h. no layout (longer_header layout bytes piece h));
  };
}

-- in the header
pub lists_header : {S W : Type 0} (state : W → S) (physics : Physics S) (f g : Feeding W) (byte : ℕ)
    → f.taken < 13 → f.tics ≡ 0 → g.tics ≡ 0 → Lists state physics f (byte ∷ []) g []
lists_header state physics f g byte short old new = grind (arith, append-nil)

-- where a tic ends, or none
pub lists_ended : {S W : Type 0} (state : W → S) (physics : Physics S) (layout : Layout) (f g : Feeding W)
    (byte : ℕ) (row : Option (List (Option Move)))
    → HasHeader layout f.header → 13 ≤ f.taken → g.tics ≡ f.tics + length (told row)
    → ((bytes : List ℕ) → Shows state physics bytes f → EndsRow layout (bytes ++ byte ∷ []) f.tics g.tics row)
    → Lists state physics f (byte ∷ []) g (told row)
lists_ended state physics layout f g byte None h long tics ends =
    lists_none state physics f g (byte ∷ []) long (omega (arith, tics))
lists_ended state physics layout f g byte (Some row) h long tics ends = record {
  tics = tics;
  each = λ bytes before shown listed.
      let all = bytes ++ byte ∷ [] in
      let mine = header_of_kept layout bytes f.header shown.header h in
      record {
        some = λ own has.
            let here = old_header own bytes (byte ∷ []) (omega (arith, shown.taken, long)) has in
            let same : layout ≡ own = same_layout bytes layout own mine.known here.known in
            let ended = ends bytes shown in
            let past : before ≡ rows_in own all f.tics = listed.some own here
            ∙ sym (rows_in-append own bytes (byte ∷ []) f.tics
            (tics_within state physics own bytes f (shown.rows own here))) in
            let last : row ≡ row_in own all f.tics = ended.1 ∙ ap (λ l. row_in l all f.tics) same in
            (λ i. past i ++ last i ∷ [])
            ∙ sym (map-range_with_len_more (row_in own all) 0 f.tics f.tics (omega arith))
            ∙ ap (rows_in own all) (sym ended.0);
        none = λ no. absurd (no layout (longer_header layout bytes (byte ∷ []) mine));
      };
}

-- one byte of a piece
pub tells_byte : {S W : Type 0} (state : W → S) (physics : Physics S) (f g : Feeding W) (piece rest : List ℕ)
    (byte : ℕ) (rows : List (List (Option Move)))
    → piece ≡ byte ∷ rest → g.taken ≡ f.taken + 1 → Takes state physics f (byte ∷ []) g
    → Lists state physics f (byte ∷ []) g rows → TellsFront state physics f piece rest g rows
tells_byte state physics f g piece rest byte rows split count shown listed =
    record { front = byte ∷ []; split = split; count = count; shown = shown; listed = listed }

-- a front, and one behind it
pub tells_more : {S W : Type 0} (state : W → S) (physics : Physics S) (f g h : Feeding W)
    (piece mid rest : List ℕ) (xs ys : List (List (Option Move)))
    → TellsFront state physics f piece mid g xs → TellsFront state physics g mid rest h ys
    → TellsFront state physics f piece rest h (xs ++ ys)
tells_more state physics f g h piece mid rest xs ys one other = record {
  front = one.front ++ other.front;
  split = grind (arith, one.split, other.split, append_assoc);
  count = omega (arith, one.count, other.count, length-append one.front other.front);
  shown = takes_more state physics f g h one.front other.front one.shown other.shown;
  listed = record {
    tics = omega (arith, one.listed.tics, other.listed.tics, length-append xs ys);
    each = λ bytes before shown listed.
        let both = other.listed.each (bytes ++ one.front) (before ++ xs) (one.shown bytes shown)
        (one.listed.each bytes before shown listed) in
        subst (λ (b : List ℕ). AreListed b h.tics (before ++ (xs ++ ys)))
        (append_assoc bytes one.front other.front)
        (subst (λ (r : List (List (Option Move))). AreListed (bytes ++ one.front ++ other.front) h.tics r)
        (append_assoc before xs ys) both);
  };
}

-- all of a piece
pub tells_all : {S W : Type 0} (state : W → S) (physics : Physics S) (f g : Feeding W) (piece : List ℕ)
    (rows : List (List (Option Move)))
    → TellsFront state physics f piece [] g rows → Takes state physics f piece g
    × Lists state physics f piece g rows
tells_all state physics f g piece rows all = grind (arith, append-nil)

-- the rows told are those that the bytes have
pub rows_of_listed : {S W : Type 0} (state : W → S) (physics : Physics S) (bytes : List ℕ) (f : Feeding W)
    (rows : List (List (Option Move)))
    → Shows state physics bytes f → AreListed bytes f.tics rows → HasRows bytes rows
rows_of_listed state physics bytes f rows shown listed = record {
  some = λ layout h.
      let kept = shown.rows layout h in
      let players = player_count (seats_in bytes) in
      let row = ap length kept.row ∙ length-drop (place layout (players * f.tics)) kept.front in
      let is = counted layout bytes players f.tics f.marked kept.front f.after kept.ends h.whole
      kept.whole (omega (arith, row, kept.unfinished, kept.whole)) in
      (is.0, is.1, listed.some layout h ∙ ap (rows_in layout bytes) (sym is.2));
  none = listed.none;
}
