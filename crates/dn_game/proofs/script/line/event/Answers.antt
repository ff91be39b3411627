use Rattle.std.proofs.{Common.{refl, codes, Some}, lemmas.{Bool.Decides.Decides-eqb, Slice.Eq.strip_prefix_is}}
use Rattle.dn_game.proofs.Scripts.{heads_differ, seconds_differ, no_number}
use Rattle.dn_game.proofs.script.line.event.Goals as goal

pub returns-in_err-number : goal.returns-in_err-number
returns-in_err-number c =
    let word = c.in-Some-strip_prefix-2 in
    rw c.from_residual.ensures (no_number (codes "deliver") _ _ refl (heads_differ refl) (heads_differ refl)
    (strip_prefix_is Decides-eqb _ (codes "deliver ") (Some word.word) word.ensures.cases)
    c.in_err-number.ensures)

pub returns-in_err-number-2 : goal.returns-in_err-number-2
returns-in_err-number-2 c =
    let word = c.in-Some-strip_prefix-3 in
    rw c.from_residual-in_err-number-2.ensures
    (no_number (codes "run") _ _ refl (heads_differ refl) (heads_differ refl)
    (strip_prefix_is Decides-eqb _ (codes "run ") (Some word.word) word.ensures.cases)
    c.in_err-number-2.ensures)

pub returns-in_err-number-3 : goal.returns-in_err-number-3
returns-in_err-number-3 c =
    let word = c.in-Some-strip_prefix-4 in
    rw c.from_residual-in_err-number-3.ensures
    (no_number (codes "quit") _ _ refl (heads_differ refl) (heads_differ refl)
    (strip_prefix_is Decides-eqb _ (codes "quit ") (Some word.word) word.ensures.cases)
    c.in_err-number-3.ensures)

pub returns-in_err-number-4 : goal.returns-in_err-number-4
returns-in_err-number-4 c =
    let word = c.in-Some-strip_prefix-5 in
    rw c.from_residual-in_err-number-4.ensures
    (no_number (codes "stop") _ _ refl (heads_differ refl) (seconds_differ refl)
    (strip_prefix_is Decides-eqb _ (codes "stop ") (Some word.word) word.ensures.cases)
    c.in_err-number-4.ensures)
