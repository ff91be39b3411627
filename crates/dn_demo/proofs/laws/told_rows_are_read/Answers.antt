-- The rows that bytes have are those of the demo that they are read as.
use Rattle.std.proofs.Common.{◌≡◌, ◌/◌, ℕ, List, Option, Ok, inl, inr, sym, ap, ◌∙◌, subst}
use Rattle.dn_tic.specs.declared.command.Move.{Move}
use Rattle.dn_demo.specs.{Layout.Layout, Text.player_count, Places.{seats_in, rows_in, EndsBehind, HasCommands}, Reading.{Recording, HasRows, IsReadAs}}
use Rattle.dn_demo.proofs.{OneReading.{one_end, same_layout}, Listing.rows_of_listed}
use Rattle.dn_demo.proofs.laws.told_rows_are_read.Goals as goal

rows_of_demo : (bytes : List ℕ) (demo : Recording) → IsReadAs bytes (Ok demo) → HasRows bytes demo.rows
rows_of_demo bytes demo read =
    let mine = ap (λ (d : Recording). d.rows) read.2.2 in
    record {
      some = λ layout h.
          let same = same_layout bytes read.0 layout read.1.known h.known in
          let ends : EndsBehind layout bytes read.2.0 =
          subst (λ (l : Layout). EndsBehind l bytes read.2.0) same read.2.1 in (
            read.2.0,
            inl ends,
            mine ∙ ap (λ (l : Layout). rows_in l bytes (read.2.0 / player_count (seats_in bytes))) same,
          );
      none = λ no. absurd (no read.0 read.1);
    }

-- commands that end at the marker
commands_before : (layout : Layout) (bytes : List ℕ) (k commands : ℕ) → EndsBehind layout bytes k
    → HasCommands layout bytes commands → commands ≡ k
commands_before layout bytes k commands ends (inl other) = one_end layout bytes commands k other ends
commands_before layout bytes k commands ends (inr free) = absurd (free.0 k ends.marked)

only_rows_of_demo : (bytes : List ℕ) (demo : Recording) (rows : List (List (Option Move)))
    → IsReadAs bytes (Ok demo) → HasRows bytes rows → rows ≡ demo.rows
only_rows_of_demo bytes demo rows read has =
    let layout = read.0 in
    let told = has.some layout read.1 in
    let same = commands_before layout bytes read.2.0 told.0 read.2.1 told.1 in
    told.2 ∙ ap (λ n. rows_in layout bytes (n / player_count (seats_in bytes))) same
    ∙ sym (ap (λ (d : Recording). d.rows) read.2.2)

pub returns-clause-told : goal.returns-clause-told
returns-clause-told g c = rows_of_listed g.W.World.state g.W.World.physics

pub returns-clause-read : goal.returns-clause-read
returns-clause-read g c = rows_of_demo

pub returns-clause-only : goal.returns-clause-only
returns-clause-only g c = only_rows_of_demo
