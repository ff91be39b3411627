-- Rows that are listed as they come.
use Rattle.std.proofs.Common.{◌≡◌, ◌≤◌, ◌<◌, ◌+◌, ◌%◌, ◌⊎◌, ℕ, List, [], ◌∷◌, ◌++◌, length, take, ap, sym, ◌∙◌, subst, arith, Option, refl, inl, inr, length-append, append_assoc}
use Rattle.std.proofs.{KnownBytes.{Appends-trans, Consumes-trans}, Math.Seq.take-append-add}
use Rattle.std.proofs.lemmas.List.{length-take, length-take-le, take-append-le}
use Rattle.std.specs.Io.KnownBytes.{Appends, Consumes}
use Rattle.dn_tic.specs.declared.command.Move.{Move}
use Rattle.dn_world.specs.Plane.{Spots, walking}
use Rattle.dn_demo.specs.Feeding.{Feeding, Shows, Takes, AreListed, Lists, TellsFront}
use Rattle.dn_demo.proofs.Listing.{tells_more, tells_all, rows_of_listed}
use Rattle.dn_netgame.specs.{Texts.{lines_of_rows}, DemoShown.IsDemo, RowsShown.{AreRows, IsRowsShown, ListsWhole, ListsFront}, Transfer.{TakesUpTo, AppendsFront}}
use Rattle.dn_netgame.proofs.Pieces.{up_to_more}

-- the lines of some rows, and of those behind them
pub lines_more : (tic : ℕ) (xs ys : List (List (Option Move)))
    → lines_of_rows tic (xs ++ ys) ≡ lines_of_rows tic xs ++ lines_of_rows (tic + length xs) ys
lines_more tic [] ys = let e : tic + 0 ≡ tic = omega arith in rw e refl
lines_more tic (x ∷ xs) ys = grind (arith, lines_more (tic + 1) xs ys, append_assoc)

-- behind rows whose number is known
pub lines_at : (tic next : ℕ) (xs ys : List (List (Option Move))) → next ≡ tic + length xs
    → lines_of_rows tic (xs ++ ys) ≡ lines_of_rows tic xs ++ lines_of_rows next ys
lines_at tic next xs ys e = lines_more tic xs ys ∙ ap (λ n. lines_of_rows tic xs ++ lines_of_rows n ys) (sym e)

-- the lines of one more row that was told, or of none
pub told_more : (f g h : Feeding Spots) (piece mid rest : List ℕ) (xs ys : List (List (Option Move)))
    (text text' : List ℕ) → TellsFront (λ w. w) walking f piece mid g xs → text ≡ lines_of_rows f.tics xs
    → TellsFront (λ w. w) walking g mid rest h ys → text' ≡ text ++ lines_of_rows g.tics ys
    → (rows : List (List (Option Move))) × TellsFront (λ w. w) walking f piece rest h rows
    × (text' ≡ lines_of_rows f.tics rows)
told_more f g h piece mid rest xs ys text text' one same other more = grind (arith, tells_more, lines_at)

-- a prefix of a text is written behind another text
pub front_behind : (old mid new : Option (List ℕ)) (first text : List ℕ) → Appends old mid first
    → AppendsFront mid new text → AppendsFront old new (first ++ text)
front_behind old mid new first text before front = record {
  count = length first + front.count;
  fewer = omega (arith, length-append first text, front.fewer);
  front = subst (λ (t : List ℕ). Appends old new t) (sym (take-append-add first text front.count))
      (Appends-trans old mid new first (take front.count text) before front.front);
}

-- the lines are those of the rows of the bytes shown
pub are_rows : (bytes : List ℕ) (f : Feeding Spots) (rows : List (List (Option Move)))
    → Shows (λ w. w) walking bytes f → AreListed bytes f.tics rows → AreRows bytes (lines_of_rows 0 rows)
are_rows bytes f rows shown listed = (rows, rows_of_listed (λ w. w) walking bytes f rows shown listed, refl)

-- and behind them those of the demo
pub rows_shown : (bytes : List ℕ) (f : Feeding Spots) (rows : List (List (Option Move))) (last : List ℕ)
    (status : ℕ) → Shows (λ w. w) walking bytes f → AreListed bytes f.tics rows → IsDemo bytes last status
    → IsRowsShown bytes (lines_of_rows 0 rows ++ last) status
rows_shown bytes f rows last status shown listed demo =
    (lines_of_rows 0 rows, last, are_rows bytes f rows shown listed, demo, refl)

-- so many bytes are whole pieces, or all that are read
abbrev pub ArePieces : ℕ → Type 0
ArePieces taken = (taken % 4096 ≡ 0) ⊎ (taken ≡ 33554433)

-- bytes were taken from the input and fed, and the lines of their rows were written
abbrev pub ListsSoFar : (input input' output output' : Option (List ℕ)) → Feeding Spots → Type 0
ListsSoFar input input' output output' f =
    (bytes : List ℕ) × ((length bytes ≤ 33554433) × ArePieces (length bytes)) × Consumes input input' bytes
    × Shows (λ w. w) walking bytes f
    × ((rows : List (List (Option Move))) × AreListed bytes f.tics rows × (f.tics ≡ length rows)
    × Appends output output' (lines_of_rows 0 rows))

whole_pieces : {taken : ℕ} → ArePieces taken → taken < 33554433 → taken % 4096 ≡ 0
whole_pieces (inl whole) before = whole
whole_pieces (inr all) before = absurd (omega (arith, all, before))

-- a piece more, which is whole, or the last
one_more : {taken count n now : ℕ} → ArePieces taken → taken < 33554433 → n ≤ count → now ≡ taken + count
    → now ≤ 33554433 → (n ≡ 4096) ⊎ (taken + n ≡ 33554433) → count ≤ n → ArePieces now
one_more before under full same within (inl piece) most =
    let whole = whole_pieces before under in inl (omega (arith, whole, full, same, piece, most))
one_more before under full same within (inr last) most = inr (omega (arith, full, same, last, most))

module _ (input mid output output' : Option (List ℕ)) (f : Feeding Spots)
    (so_far : ListsSoFar input mid output output' f) (n : ℕ) (room : f.taken + n ≤ 33554433) where
  -- more bytes were taken, whose rows are not listed
  pub lists_whole : (input' : Option (List ℕ)) (last : List ℕ) → n ≤ 4096 → f.taken < 33554433
      → Consumes mid input' last → length last ≤ n → ListsWhole 33554433 input input' output output'
  lists_whole input' last small before more few = record {
    bytes = so_far.0;
    last = last;
    lines = lines_of_rows 0 so_far.4.0;
    taken = Consumes-trans input mid input' so_far.0 last so_far.2 more;
    within = omega (arith, few, room, so_far.3.taken);
    pieces = inl (whole_pieces so_far.1.1 (omega (arith, before, so_far.3.taken)));
    few = omega (arith, few, small);
    shown = are_rows so_far.0 f so_far.4.0 so_far.3 so_far.4.1;
    written = so_far.4.3;
  }

  -- a piece was read, of which `count` bytes came, and it was fed
  module _ {input' : Option (List ℕ)} {g : Feeding Spots} {rows : List (List (Option Move))}
      (buffer tail : List ℕ) (count : ℕ) (text : List ℕ) (fits : count ≤ length buffer)
      (up : TakesUpTo n mid input' (take count buffer))
      (tells : TellsFront (λ w. w) walking f (take count (buffer ++ tail)) [] g rows)
      (told : text ≡ lines_of_rows f.tics rows) where
    abbrev bytes : List ℕ
    bytes = so_far.0 ++ take count buffer

    abbrev all_rows : List (List (Option Move))
    all_rows = so_far.4.0 ++ rows

    within : length bytes ≤ 33554433
    within = omega (arith, length-append so_far.0 (take count buffer), up.within, room, so_far.3.taken)

    came : length (take count buffer) ≡ count
    came = length-take-le count buffer fits

    last_piece : (n ≡ 4096) ⊎ (f.taken + n ≡ 33554433) → (n ≡ 4096) ⊎ (length so_far.0 + n ≡ 33554433)
    last_piece (inl piece) = inl piece
    last_piece (inr last) = inr (omega (arith, last, so_far.3.taken))

    taken : Consumes input input' bytes
    taken = Consumes-trans input mid input' so_far.0 (take count buffer) so_far.2 up.taken

    takes : Takes (λ w. w) walking f (take count buffer) g × Lists (λ w. w) walking f (take count buffer) g rows
    takes = tells_all (λ w. w) walking f g (take count buffer) rows
        (subst (λ (p : List ℕ). TellsFront (λ w. w) walking f p [] g rows)
        (take-append-le count buffer tail fits) tells)

    shown : Shows (λ w. w) walking bytes g
    shown = takes.0 so_far.0 so_far.3

    listed : AreListed bytes g.tics all_rows
    listed = takes.1.each so_far.0 so_far.4.0 so_far.3 so_far.4.1

    lines : lines_of_rows 0 so_far.4.0 ++ text ≡ lines_of_rows 0 all_rows
    lines = ap (λ (t : List ℕ). lines_of_rows 0 so_far.4.0 ++ t) told
        ∙ sym (lines_at 0 f.tics so_far.4.0 rows (omega (arith, so_far.4.2)))

    written : (later : Option (List ℕ)) → Appends output' later text
        → Appends output later (lines_of_rows 0 all_rows)
    written later put = subst (λ (t : List ℕ). Appends output later t) lines
        (Appends-trans output output' later (lines_of_rows 0 so_far.4.0) text so_far.4.3 put)

    -- its lines were written
    pub lists_more : (later : Option (List ℕ)) → Appends output' later text → f.taken < 33554433 → n ≤ count
        → (n ≡ 4096) ⊎ (f.taken + n ≡ 33554433) → ListsSoFar input input' output later g
    lists_more later put under full piece = grind (arith, within, one_more, came, length-append, last_piece, taken, shown, listed, takes, written)

    -- and the input ended
    pub lists_all : (later : Option (List ℕ)) → Appends output' later text → count < n
        → (all : List ℕ) × TakesUpTo 33554433 input input' all × Shows (λ w. w) walking all g
        × ((every : List (List (Option Move))) × AreListed all g.tics every
        × Appends output later (lines_of_rows 0 every))
    lists_all later put short = (
      bytes,
      up_to_more input mid input' so_far.0 (take count buffer) n 33554433
          (omega (arith, room, so_far.3.taken)) so_far.2 up (omega (arith, length-take count buffer, short)),
      shown,
      (all_rows, listed, written later put),
    )

    -- a prefix of its lines was written
    pub lists_front : (later : Option (List ℕ)) → AppendsFront output' later text
        → ListsFront 33554433 input input' output later
    lists_front later front = record {
      bytes = bytes;
      lines = lines_of_rows 0 all_rows;
      taken = taken;
      within = within;
      shown = inl (are_rows bytes g all_rows shown listed);
      written = subst (λ (t : List ℕ). AppendsFront output later t) lines
          (front_behind output output' later (lines_of_rows 0 so_far.4.0) text so_far.4.3 front);
    }
