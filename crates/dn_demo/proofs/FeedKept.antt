-- What a feed has kept, as bytes come, and how it ends.
use Rattle.std.proofs.Common.{◌≡◌, ◌<◌, ◌≤◌, ℕ, ◌+◌, Bool, true, false, List, [], ◌∷◌, ◌++◌, length, take, set, refl, sym, ap, ◌∙◌, subst, arith, length-append, ◌-◌, ◌*◌, ◌/◌, ◌%◌, Ok, Err, append_assoc, drop, min, get_or}
use Rattle.std.proofs.lemmas.{List.{take_all, take_more_set, length-set, length-take-le, length-drop, get_or-take, length-take}, Nat.{div-mul-add, mod-mul-add}, Option.slice_get_within}
use Rattle.std.proofs.Math.Nat.{mul-div_cancel_left, lt_of_mul-lt-mul_left}
use Rattle.std.proofs.lemmas.List.FromFn.{length-map-range_with_len}
use Rattle.dn_world.specs.Physics.{Physics}
use Rattle.dn_demo.specs.{Layout.{Layout, command_size}, Places.{start_in, seats_in, place, row_in}, Reading.{HasHeader, recording, IsReadAs}, Feeding.{Feeding, feeding_of, IsKept, Takes, IsUpToMarker, Shows, ShowsRows, TakesFront, state_by, IsFedAs, EndsAs}, Text.{player_count, marker}}
use Rattle.dn_demo.specs.declared.{demo.DemoFault.TheVariants.NoMarker, fed.Fed.Fed}
use Rattle.dn_demo.proofs.{Fronts.{header_kept, header_of_kept, kept_longer, start_in-take, seats_kept}, RowsKept.{of_unmarked, begun, unmarked, passed}, OneReading.same_layout, Text.place_order}

-- behind a whole header that stays, bytes are shown where their rows are
pub shown_more : {S W : Type 0} (state : W → S) (physics : Physics S) (bytes more : List ℕ) (f g : Feeding W)
    → 13 ≤ f.taken → Shows state physics bytes f → g.taken ≡ f.taken + length more → g.header ≡ f.header
    → ((layout : Layout) → HasHeader layout bytes → ShowsRows state physics layout bytes f
    → ShowsRows state physics layout (bytes ++ more) g)
    → Shows state physics (bytes ++ more) g
shown_more state physics bytes more f g long shown taken header rows = grind (arith, kept_longer, length-append, header_of_kept, header_kept)

-- of the layout that its header has
pub shown_in : {S W : Type 0} (state : W → S) (physics : Physics S) (layout : Layout) (bytes more : List ℕ)
    (f g : Feeding W) → HasHeader layout f.header → 13 ≤ f.taken
    → Shows state physics bytes f → g.taken ≡ f.taken + length more → g.header ≡ f.header
    → (ShowsRows state physics layout bytes f → ShowsRows state physics layout (bytes ++ more) g)
    → Shows state physics (bytes ++ more) g
shown_in state physics layout bytes more f g h long shown taken header rows =
    shown_more state physics bytes more f g long shown taken header (λ own has old.
    let mine = header_of_kept layout bytes f.header shown.header h in
    let same : layout ≡ own = same_layout bytes layout own mine.known has.known in
    subst (λ (l : Layout). ShowsRows state physics l (bytes ++ more) g) same (rows (shown.rows layout mine)))

-- the commands before the marker make the tics that the world was stepped by, and the rest of them is cut
pub fed_as : {S W : Type 0} (state : W → S) (physics : Physics S) (layout : Layout) (bytes : List ℕ)
    (f : Feeding W) → HasHeader layout bytes → f.marked ≡ true → ShowsRows state physics layout bytes f
    → (commands : ℕ) × IsReadAs bytes (Ok (recording layout bytes commands f.after))
    × (commands / player_count (seats_in bytes) ≡ f.tics)
    × (length f.row / command_size layout ≡ commands % player_count (seats_in bytes))
fed_as state physics layout bytes f h marked rows =
    let ends : IsUpToMarker layout bytes true rows.front f.after =
    subst (λ m. IsUpToMarker layout bytes m rows.front f.after) marked rows.ends in
    let commands = ends.0 in
    let players = player_count (seats_in bytes) in
    let size = command_size layout in
    let inside = slice_get_within bytes (place layout commands) marker ends.1.marked in
    let front : length rows.front ≡ place layout commands =
    ap length ends.2 ∙ length-take-le (place layout commands) bytes (omega arith) in
    let row : length f.row ≡ place layout commands - place layout (players * f.tics) =
    ap length rows.row ∙ length-drop (place layout (players * f.tics)) rows.front
    ∙ ap (λ n. n - place layout (players * f.tics)) front in
    let order : players * f.tics ≤ commands =
    place_order layout (players * f.tics) commands (omega (arith, rows.whole, front)) in
    let cut = commands - players * f.tics in
    let sum : commands ≡ f.tics * players + cut = omega arith in
    let apart : size * (f.tics * players + cut) ≡ size * (players * f.tics) + size * cut = omega arith in
    let spread : size * commands ≡ size * (players * f.tics) + size * cut = ap (λ n. size * n) sum ∙ apart in
    let bytes_cut : length f.row ≡ size * cut = omega (arith, row, spread) in
    let few : cut < players = lt_of_mul-lt-mul_left size (omega (arith, bytes_cut, rows.unfinished)) in (
      commands,
      (layout, h, (commands, ends.1, ap (recording layout bytes commands) ends.3)),
      ap (λ n. n / players) sum ∙ div-mul-add f.tics players cut few,
      ap (λ n. n / size) bytes_cut ∙ mul-div_cancel_left cut (omega arith)
          ∙ sym (ap (λ n. n % players) sum ∙ mod-mul-add f.tics players cut few),
    )

-- without a marker there is none
pub no_marker : {S W : Type 0} (state : W → S) (physics : Physics S) (layout : Layout) (bytes : List ℕ)
    (f : Feeding W) → HasHeader layout bytes → f.marked ≡ false
    → ShowsRows state physics layout bytes f → IsReadAs bytes (Err NoMarker)
no_marker state physics layout bytes f h free rows =
    (layout, h, (unmarked state physics layout bytes f free rows).none)

-- what takes one piece, and another behind it
pub takes_more : {S W : Type 0} (state : W → S) (physics : Physics S) (f g h : Feeding W) (xs ys : List ℕ)
    → Takes state physics f xs g → Takes state physics g ys h → Takes state physics f (xs ++ ys) h
takes_more state physics f g h xs ys one other bytes shown = grind (arith, append_assoc)

-- a front, and one behind it
pub front_more : {S W : Type 0} (state : W → S) (physics : Physics S) (f g h : Feeding W) (piece mid rest : List ℕ)
    → TakesFront state physics f piece mid g → TakesFront state physics g mid rest h
    → TakesFront state physics f piece rest h
front_more state physics f g h piece mid rest one other = record {
  front = one.front ++ other.front;
  split = grind (arith, one.split, other.split, append_assoc);
  count = omega (arith, one.count, other.count, length-append one.front other.front);
  shown = takes_more state physics f g h one.front other.front one.shown other.shown;
}

-- What a feed has kept behind a byte of its header, or behind bytes that nothing is read from, by its fields.

-- nothing more comes into a header that is whole
pub take_past : (taken n : ℕ) (header : List ℕ) → length header ≡ 13 → 13 ≤ taken
    → take (taken + n) header ≡ take taken header
take_past taken n header size long = grind (arith, take_all)

module _ {S W : Type 0} (state : W → S) (physics : Physics S) {taken tics after : ℕ} {marked : Bool}
    {world : W} {f : Feeding W} (header : List ℕ) (kept : ℕ) (row : List ℕ)
    (view : feeding_of taken header tics kept row marked after world ≡ f) (size : length header ≡ 13) where
  abbrev old : Feeding W
  old = feeding_of taken header tics kept row marked after world

  -- behind the marker
  pub pass_marked : (piece : List ℕ) → marked ≡ true → 13 ≤ taken → Takes state physics f piece
      (feeding_of (taken + length piece) header tics kept row marked (after + length piece) world)
  pass_marked piece was long =
      let new = feeding_of (taken + length piece) header tics kept row marked (after + length piece) world in
      subst (λ (h : Feeding W). Takes state physics h piece new) view (λ bytes shown.
      shown_more state physics bytes piece old new long shown refl (take_past taken (length piece) header size long)
      (λ layout h rows. passed state physics layout bytes piece old new.taken new.header was rows))

  -- behind a header that is refused
  pub pass_unread : (piece : List ℕ)
      → (f.marked ≡ false → (layout : Layout) → HasHeader layout f.header → ⊥) → marked ≡ false → 13 ≤ taken
      → Takes state physics f piece (feeding_of (taken + length piece) header tics kept row marked after world)
  pass_unread piece unread free long =
      let new = feeding_of (taken + length piece) header tics kept row marked after world in
      let none = subst (λ (h : Feeding W). h.marked ≡ false → (layout : Layout)
      → HasHeader layout h.header → ⊥) (sym view) unread free in
      subst (λ (h : Feeding W). Takes state physics h piece new) view (λ bytes shown.
      shown_more state physics bytes piece old new long shown refl (take_past taken (length piece) header size long)
      (λ layout h rows. absurd (none layout (header_kept layout bytes old.header shown.header h))))

  -- in the header
  pub header_taken : (byte : ℕ) (new : W) → IsKept old → taken < 13
      → ((layout : Layout) → HasHeader layout (take (taken + 1) (set header taken byte))
      → state new ≡ physics.begin (start_in (set header taken byte)) (seats_in (set header taken byte)))
      → Takes state physics f (byte ∷ [])
      (feeding_of (taken + 1) (set header taken byte) tics kept row marked after new)
  header_taken byte new is below begins =
      let own = set header taken byte in
      let next = feeding_of (taken + 1) own tics kept row marked after new in
      subst (λ (h : Feeding W). Takes state physics h (byte ∷ []) next) view (λ bytes shown.
      let all = bytes ++ byte ∷ [] in
      let blank = is.blank below in
      let before : take taken header ≡ bytes =
      shown.header ∙ take_all 13 bytes (omega (arith, shown.taken, below)) in
      let so_far : take (taken + 1) own ≡ all =
      take_more_set header taken byte (omega (arith, size, below)) ∙ ap (λ (t : List ℕ). t ++ byte ∷ []) before in
      let count : length all ≡ taken + 1 = omega (arith, length-append bytes (byte ∷ []), shown.taken) in
      record {
        taken = sym count;
        header = so_far ∙ sym (take_all 13 all (omega (arith, count, below)));
        rows = λ layout h.
            let there : HasHeader layout (take (taken + 1) own) =
            subst (λ (t : List ℕ). HasHeader layout t) (sym so_far) h in
            let whole : take (taken + 1) own ≡ own =
            take_all (taken + 1) own (omega (arith, count, h.whole, length-set header taken byte, size)) in
            let same : own ≡ all = sym whole ∙ so_far in
            of_unmarked state physics layout all next blank.2
            (begun state physics layout all after tics (take kept row) new blank.3 blank.0 blank.1
            (omega (arith, count, below, h.whole)) h.somebody
            (begins layout there ∙ (λ i. physics.begin (start_in (same i)) (seats_in (same i)))));
      })

-- How a feed ends.

-- one byte of a piece
pub front_byte : {S W : Type 0} (state : W → S) (physics : Physics S) (f g : Feeding W) (piece rest : List ℕ)
    (byte : ℕ) → piece ≡ byte ∷ rest
    → g.taken ≡ f.taken + 1 → Takes state physics f (byte ∷ []) g → TakesFront state physics f piece rest g
front_byte state physics f g piece rest byte split count shown =
    record { front = byte ∷ []; split = split; count = count; shown = shown }

pub first_byte : (piece : List ℕ) → 0 < length piece → piece ≡ get_or piece 0 0 ∷ drop 1 piece
first_byte [] some = absurd (omega (arith, some))
first_byte (x ∷ piece) some = refl

-- at the marker: with what the bytes are read as
ended : {S W : Type 0} (state : W → S) (physics : Physics S) (layout : Layout) (bytes : List ℕ)
    (f : Feeding W) (fed : Fed W) → HasHeader layout f.header → f.marked ≡ true → fed.version ≡ get_or f.header 0 0
    → fed.start ≡ start_in f.header → fed.view ≡ get_or f.header 8 0
    → fed.present ≡ seats_in f.header → fed.tics ≡ f.tics → fed.cut ≡ length f.row / command_size layout
    → fed.after ≡ f.after
    → state fed.world ≡ state f.world → Shows state physics bytes f → IsFedAs state physics bytes (Ok fed)
ended state physics layout bytes f fed h marked version start view present tics cut after world shown =
    let here = header_of_kept layout bytes f.header shown.header h in
    let rows = shown.rows layout here in
    let is = fed_as state physics layout bytes f here marked rows in (
      recording layout bytes is.0 f.after,
      is.1,
      record {
        version = version ∙ ap (λ (t : List ℕ). get_or t 0 0) shown.header ∙ get_or-take 13 bytes 0 0 (omega arith);
        start = start ∙ ap start_in shown.header ∙ start_in-take 13 bytes (omega arith);
        view = view ∙ ap (λ (t : List ℕ). get_or t 8 0) shown.header ∙ get_or-take 13 bytes 8 0 (omega arith);
        present = present ∙ seats_kept bytes f.header shown.header;
        tics = tics ∙ sym is.2 ∙ sym (length-map-range_with_len (row_in layout bytes) 0 _);
        cut = cut ∙ is.3;
        after = after;
        world = world ∙ rows.world ∙ ap (state_by physics layout bytes) (sym is.2);
      },
    )

-- by the fields of the feed, of whose header `n` bytes were read
module _ {S W : Type 0} (state : W → S) (physics : Physics S) {taken tics after : ℕ} {marked : Bool}
    {world : W} {f : Feeding W} (header : List ℕ) (kept : ℕ) (row : List ℕ)
    (view : feeding_of taken header tics kept row marked after world ≡ f) (size : length header ≡ 13)
    (layout : Layout) (n : ℕ) (is : n ≡ min 13 taken) (has : HasHeader layout (take n header)) where
  abbrev ended_feed : Feeding W
  ended_feed = feeding_of taken header tics kept row marked after world

  long : 13 ≤ n
  long = omega (arith, has.whole, length-take n header, size)

  whole : take taken header ≡ header
  whole = take_all taken header (omega (arith, size, is, long))

  has_header : HasHeader layout (take taken header)
  has_header = subst (λ (t : List ℕ). HasHeader layout t)
      (take_all n header (omega (arith, size, long)) ∙ sym whole) has

  pub ends_unmarked : marked ≡ false → (bytes : List ℕ) → Shows state physics bytes f
      → IsReadAs bytes (Err NoMarker)
  ends_unmarked free =
      subst (λ (h : Feeding W). (bytes : List ℕ) → Shows state physics bytes h
      → IsReadAs bytes (Err NoMarker)) view (λ bytes shown.
      let here = header_of_kept layout bytes ended_feed.header shown.header has_header in
      no_marker state physics layout bytes ended_feed here free (shown.rows layout here))

  pub ends_marked : (fed : Fed W) → marked ≡ true → kept ≤ length row → fed.version ≡ get_or header 0 0
      → fed.start ≡ start_in header → fed.view ≡ get_or header 8 0 → fed.present ≡ seats_in header
      → fed.tics ≡ tics → fed.cut ≡ kept / command_size layout → fed.after ≡ after → state fed.world ≡ state world
      → EndsAs state physics f (Ok fed)
  ends_marked fed was fits version start seen present count cut behind world_is =
      subst (λ (h : Feeding W). EndsAs state physics h (Ok fed)) view (λ bytes shown.
      ended state physics layout bytes ended_feed fed has_header was
      (version ∙ ap (λ (t : List ℕ). get_or t 0 0) (sym whole)) (start ∙ ap start_in (sym whole))
      (seen ∙ ap (λ (t : List ℕ). get_or t 8 0) (sym whole)) (present ∙ ap seats_in (sym whole)) count
      (cut ∙ ap (λ m. m / command_size layout) (sym (length-take-le kept row fits))) behind world_is shown)
