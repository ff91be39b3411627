-- A tic of four players, seat by seat.
use Rattle.std.proofs.Common.{◌≡◌, ◌∙◌, ap, refl, arith, List, [], ◌∷◌, length, get_or, Option}
use Rattle.dn_tic.specs.declared.command.Move.{Move}
use Rattle.dn_inspect.specs.Counting.{after, all_after}
use Rattle.dn_inspect.specs.declared.tally.Counts.{Counts}

-- a list of four
cells : {X : Type 0} (xs : List X) (d : X) → length xs ≡ 4
    → xs ≡ get_or xs 0 d ∷ get_or xs 1 d ∷ get_or xs 2 d ∷ get_or xs 3 d ∷ []
cells [] d four = absurd (omega arith)
cells (a ∷ []) d four = absurd (omega arith)
cells (a ∷ b ∷ []) d four = absurd (omega arith)
cells (a ∷ b ∷ c ∷ []) d four = absurd (omega arith)
cells (a ∷ b ∷ c ∷ e ∷ []) d four = refl
cells (a ∷ b ∷ c ∷ e ∷ f ∷ xs) d four = absurd (omega arith)

pub seats_after : (counts : List Counts) (moves : List (Option Move)) (d : Counts) (e : Option Move)
    → length counts ≡ 4 → length moves ≡ 4
    → all_after counts moves
    ≡ after (get_or counts 0 d) (get_or moves 0 e) ∷ after (get_or counts 1 d) (get_or moves 1 e)
    ∷ after (get_or counts 2 d) (get_or moves 2 e) ∷ after (get_or counts 3 d) (get_or moves 3 e) ∷ []
seats_after counts moves d e four same =
    ap (λ (xs : List Counts). all_after xs moves) (cells counts d four)
    ∙ ap (λ (ys : List (Option Move)). all_after
    (get_or counts 0 d ∷ get_or counts 1 d ∷ get_or counts 2 d ∷ get_or counts 3 d ∷ []) ys) (cells moves e same)
