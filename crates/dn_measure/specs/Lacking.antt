-- The lines of what a line carries or lacks.
use Rattle.std.specs.Prelude.{ℕ, pos, ◌+◌, ◌*◌, ◌/◌, ◌==◌, Bool, if◌then◌else◌, List, [], ◌∷◌, ◌++◌, length, codes}
use Rattle.dn_measure.specs.declared.measure.Summary.{Summary}
use Rattle.dn_measure.specs.declared.verdict.Lack.{Lack}
use Rattle.dn_measure.specs.declared.verdict.Lack.TheVariants.{Time, Tics, Rate, Calm, Pause, Speed, Datagrams}
use Rattle.dn_measure.specs.Runs.{tenths_a_second}
use Rattle.dn_measure.specs.Fields.{labelled, with_tenth}
use Rattle.dn_measure.specs.Lines.{felt_text}
use Rattle.dn_measure.specs.Verdict as verdict

-- how the line of what is lacking begins, and how it ends
abbrev pub words_of : Lack → List ℕ × List ℕ
words_of Time = (codes "lacks time: ", codes " seconds, at least 10\n")
words_of Tics = (codes "lacks tics: none was run", codes "\n")
words_of Rate = (codes "lacks tics: ", codes " a second\n")
words_of Calm = (codes "lacks calm: gaps ", codes ", at most 1 a minute\n")
words_of Pause = (codes "lacks calm: longest ", codes " ms, at most 1000\n")
words_of Speed = (codes "lacks speed: ", codes " ms, at most 250\n")
words_of (Datagrams player loss) = (codes "lacks datagrams: ", codes " %, at most 15\n")

-- how many tenths of a tic have to be run in each second: those of 69 of 70 tics that the clock gives, where a
-- part of a tenth counts as a whole one
abbrev pub wanted_tenths : (rate : ℕ) → ℕ
wanted_tenths rate = (rate * 69 + 6) / 7

-- how many tics were run a second, of how many
unfoldable pub rate_text : Summary → List ℕ
rate_text s =
    with_tenth [] (tenths_a_second s.tics s.micros) ++ with_tenth (codes " of ") (wanted_tenths s.rate)

unfoldable pub loss_text : (player loss : ℕ) → List ℕ
loss_text player loss = labelled ((codes "player ", pos player) ∷ []) ++ with_tenth (codes " lost ") loss

-- what was measured of it
abbrev pub figure_text : Summary → Lack → List ℕ
figure_text s Time = with_tenth [] (s.micros / 100000)
figure_text s Tics = []
figure_text s Rate = rate_text s
figure_text s Calm = labelled (([], pos s.gaps) ∷ [])
figure_text s Pause = labelled (([], pos ((s.longest + 999) / 1000)) ∷ [])
figure_text s Speed = felt_text s.most
figure_text s (Datagrams player loss) = loss_text player loss

abbrev pub lack_line : Summary → Lack → List ℕ
lack_line s lack = (words_of lack).0 ++ (figure_text s lack ++ (words_of lack).1)

abbrev pub lack_lines : Summary → List Lack → List ℕ
lack_lines s [] = []
lack_lines s (lack ∷ lacks) = lack_line s lack ++ lack_lines s lacks

abbrev pub judgement : Bool → List ℕ
judgement carries =
    if carries
    then codes "this line carries a game of four\n"
    else codes "this line does not carry a game of four\n"

-- whether the line carries a game of four, and what it lacks if it does not
unfoldable pub verdict_lines : Summary → List ℕ
verdict_lines s = judgement (length (verdict.lacks_of s) == 0) ++ lack_lines s (verdict.lacks_of s)
