-- What a node represents after a tic.
use Rattle.std.proofs.{Common.{◌≡◌, ◌≤◌, ℕ, true, length, Some, arith, ◌+◌, false, Option, ◌≢◌, ◌<◌, ◌%◌, ℤ, Bool, not, cond, List, [], ◌∷◌, ◌++◌, ap, sym, ◌∙◌, subst, inl, inr, None, refl, take_all, Ok, All, IfSome}, lemmas.List.length_push}
use Rattle.std.proofs.lemmas.{List.{Folds.length-prefix_len, Elements.All-push}, Bool.{cases_Bool, le-ltb, lt-ltb}}
use Rattle.dn_tic.specs.declared.command.Move.{Move}
use Rattle.dn_setup.specs.Settings.{Settings, start_of}
use Rattle.dn_demo.specs.{Layout.long_tics, Reading.{IsReadAs, written_demo}}
use Rattle.dn_demo.specs.{Text.{demo_text, IsMove, IsRow, AreWritable}, Recorded.{Recorded, AddsRow, Closes, is_closed}}
use Rattle.dn_demo.specs.declared.recorder.Stage.TheVariants.{Blank, Open, Closed}
use Rattle.dn_demo.proofs.ReadBack.{long_read_back}
use Rattle.dn_machine.specs.{Limits.Limits, Node.{is_ended, demo_rows, put, ends_of, own_mark, is_whole}}
use Rattle.dn_machine.specs.{Running.is_over, declared.answers.Phase.TheVariants.Playing}
use Rattle.dn_machine.proofs.Demos.{front_stops, front_goes_on, front_short}
use Rattle.dn_lockstep.specs.{Contents.Contents, Rows.seats_of}
use Rattle.dn_lockstep.specs.Represents.{Represents, CanBeWritten, demo_of, is_demo_closed, marked_to}
use Rattle.dn_machine.specs.Node as machine

-- The demo of a lockstep that has played.

-- where the demo has as many rows as were run, it has all
pub all_recorded : (limits : Limits) (m : machine.Node)
    → machine.ran m ≤ length (demo_rows limits.players m) → demo_rows limits.players m ≡ m.rows
all_recorded limits m all = grind (arith, length-prefix_len, take_all)

module _ (limits : Limits) (m : machine.Node) (settings : Settings) (known : m.settings ≡ Some settings) where
  pub demo_is : (me : ℕ) → m.played ≡ true
      → demo_of limits me m ≡ demo_text long_tics (start_of settings) me (seats_of limits.players)
      (demo_rows limits.players m) (is_demo_closed limits m)
  demo_is me played = grind arith

module _ (limits : Limits) (me : ℕ) (n : Contents) (m : machine.Node) (settings : Settings)
    (r : Represents limits me n m) (played : m.played ≡ true) (known : m.settings ≡ Some settings) where
  pub demo_ended : is_ended m.phase ≡ true
      → n.demo.bytes ≡ demo_text long_tics (start_of settings) me (seats_of limits.players) (demo_rows limits.players m)
      true
  demo_ended ended = grind arith

  -- and is read back
  pub read_back : is_ended m.phase ≡ true → IsReadAs n.demo.bytes
      (Ok (written_demo long_tics (start_of settings) me (seats_of limits.players) (demo_rows limits.players m)))
  unfolding CanBeWritten
  read_back ended =
      rw (demo_ended ended)
      (long_read_back (start_of settings) me (seats_of limits.players) (demo_rows limits.players m) r.demo.writable)

-- Up to which tic a player's marks are kept.

-- of no more tics than were run
pub marked_low : (tics : ℕ) (end : Option ℕ) → marked_to tics end ≤ tics
marked_low tics end = grind arith

-- of all that were run, while the player is there
pub marked_here : (tics : ℕ) (end : Option ℕ) → is_over end tics ≡ false → marked_to tics end ≡ tics
marked_here tics end here = grind arith

-- and of the next one too
pub marked_next : (tics : ℕ) (end : Option ℕ) → is_over end tics ≡ false → marked_to (tics + 1) end ≡ tics + 1
marked_next tics end here = grind arith

-- once the player is gone, of no further one
pub marked_gone : (tics : ℕ) (end : Option ℕ) → is_over end tics ≡ true
    → marked_to (tics + 1) end ≡ marked_to tics end
marked_gone tics end gone = grind arith

-- After a tic.

-- the machine's node after one row more, with these marks
abbrev pub moved : machine.Node → List (Option Move) → (ℕ → ℤ) → machine.Node
moved m row kept = record m { rows = m.rows ++ row ∷ []; marks = put m.marks (machine.ran m) kept }

module _ (m : machine.Node) (row : List (Option Move)) (kept : ℕ → ℤ) where
  -- short of twelve tics on the marks are as before
  own_mark_before : (p tic : ℕ) → tic < machine.ran m + 12 → own_mark (moved m row kept) p tic ≡ own_mark m p tic
  own_mark_before p tic low = grind arith

  -- and twelve tics on there are those that were kept
  own_mark_now : (p tic : ℕ) → tic ≡ machine.ran m + 12 → own_mark (moved m row kept) p tic ≡ kept p
  own_mark_now p tic e = grind arith

-- what is written of a row: itself at the end of an open demo where it is whole, and else the marker, if it
-- is not there
pub record IsWritten (limits : Limits) (old new : Recorded) (row : List (Option Move)) : Type 0 where
  pub begun : old.stage ≢ Blank
  pub open_while : is_whole limits.players row ≡ true → old.stage ≡ Open
  pub stage : new.stage ≡ cond (is_whole limits.players row) Open Closed
  pub added : is_whole limits.players row ≡ true → AddsRow old.bytes new.bytes row
  pub closes : is_whole limits.players row ≡ false → old.stage ≡ Open → Closes old.bytes new.bytes
  pub stays : is_whole limits.players row ≡ false → old.stage ≡ Closed → new.bytes ≡ old.bytes
  pub fits : is_whole limits.players row ≡ true → IsRow (seats_of limits.players) row
  pub ranged : All (λ step. IfSome step IsMove) row

module _ {limits : Limits} (m : machine.Node) {row : List (Option Move)} (kept : ℕ → ℤ)
    (playing : m.phase ≡ Playing) {old new : Recorded} (written : IsWritten limits old new row)
    (told : is_closed old.stage ≡ is_demo_closed limits m) where
  all_rows : old.stage ≡ Open → demo_rows limits.players m ≡ m.rows
  all_rows at = grind (arith, all_recorded)

  more_rows : is_whole limits.players row ≡ true → demo_rows limits.players (moved m row kept) ≡ m.rows ++ row ∷ []
  more_rows each = front_goes_on (is_whole limits.players) m.rows row (all_rows (written.open_while each)) each

  same_rows : is_whole limits.players row ≡ false → demo_rows limits.players (moved m row kept) ≡ demo_rows limits.players m
  same_rows lacks = front_stops (is_whole limits.players) m.rows row lacks

  closed_now : is_demo_closed limits (moved m row kept) ≡ not (is_whole limits.players row)
  closed_now = grind (arith, more_rows, le-ltb, same_rows, front_short, length_push, lt-ltb)

  pub closed_moved : is_closed new.stage ≡ is_demo_closed limits (moved m row kept)
  closed_moved = grind (arith, closed_now)

  pub writable_moved : CanBeWritten limits.players (demo_rows limits.players m)
      → CanBeWritten limits.players (demo_rows limits.players (moved m row kept))
  unfolding CanBeWritten
  writable_moved before =
      let Fits : List (List (Option Move)) → Type 0 = AreWritable (seats_of limits.players) in
      elim (cases_Bool (is_whole limits.players row)) [
        | inl each ↦
            let kept = subst Fits (all_rows (written.open_while each)) before in
            subst Fits (sym (more_rows each)) (record {
              four = kept.four;
              somebody = kept.somebody;
              recordable = All-push (IsRow (seats_of limits.players)) m.rows row kept.recordable
                  (written.fits each);
              moves = All-push (All (λ step. IfSome step IsMove)) m.rows row kept.moves written.ranged;
            })
        | inr lacks ↦ subst Fits (sym (same_rows lacks)) before
      ]

  module _ (me : ℕ) (settings : Settings) where
    abbrev text_with : List (List (Option Move)) → Bool → List ℕ
    text_with rows closed = demo_text long_tics (start_of settings) me (seats_of limits.players) rows closed

    pub demo_moved : old.bytes ≡ text_with (demo_rows limits.players m) (is_demo_closed limits m)
        → new.bytes ≡ text_with (demo_rows limits.players (moved m row kept)) (is_demo_closed limits (moved m row kept))
    demo_moved text = grind (arith, all_rows, more_rows, closed_now, same_rows)

pub known_by : (settings : Option Settings) → settings ≢ None → (s : Settings) × (settings ≡ Some s)
known_by None n = absurd (n refl)
known_by (Some s) n = (s, refl)

pub shows_moved : (limits : Limits) (me : ℕ) (n : Contents) (m : machine.Node)
    (row : List (Option Move)) (kept : ℕ → ℤ) (marks : ℕ → ℕ → ℤ) (demo : Recorded)
    → Represents limits me n m → n.phase ≡ Playing → n.played ≡ true → n.settings ≢ None
    → ((p : ℕ) → p < n.players → is_over (ends_of m p) (machine.ran m) ≡ false → marks p (n.ran % 12) ≡ kept p)
    → ((p j : ℕ) → p < n.players → is_over (ends_of m p) (machine.ran m) ≡ true → marks p j ≡ n.marks p j)
    → ((p j : ℕ) → j ≢ n.ran % 12 → marks p j ≡ n.marks p j) → IsWritten limits n.demo demo row
    → Represents limits me (record n { ran = n.ran + 1; marks = marks; demo = demo }) (moved m row kept)
shows_moved limits me n m row kept marks demo r on has_played has_settings new absent others written =
    let playing : m.phase ≡ Playing = sym r.stands.phase ∙ on in
    let played : m.played ≡ true = sym r.stands.played ∙ has_played in
    let s = known_by m.settings (λ e. has_settings (r.stands.settings ∙ e)) in
    let settings : Settings = s.0 in
    let known : m.settings ≡ Some settings = s.1 in
    let count : machine.ran (moved m row kept) ≡ machine.ran m + 1 = length_push m.rows row in
    let ran : n.ran ≡ machine.ran m = r.table.ran in
    record {
      whose = r.whose;
      stands = r.stands;
      commands = r.commands;
      peers = r.peers;
      table = record {
        ran = ap (λ (k : ℕ). k + 1) ran ∙ sym count;
        marks = λ p tic below low high.
            let end = ends_of m p in
            elim (cases_Bool (is_over end (machine.ran m))) [
              | inl gone ↦ grind (arith, marked_gone, marked_low, own_mark_before)
              | inr present ↦
                  let all = marked_here (machine.ran m) end present in
                  let next : marked_to (machine.ran (moved m row kept)) end ≡ machine.ran m + 1 =
                  ap (λ (k : ℕ). marked_to k end) count ∙ marked_next (machine.ran m) end present in
                  grind (arith, own_mark_now, own_mark_before)
            ];
      };
      demo = record {
        bytes = demo_moved m kept playing written (r.demo.closed played) me settings
            (r.demo.bytes ∙ demo_is limits m settings known me played)
            ∙ sym (demo_is limits (moved m row kept) settings known me played);
        closed = λ e. closed_moved m kept playing written (r.demo.closed played);
        writable = writable_moved m kept playing written (r.demo.closed played) r.demo.writable;
      };
    }
