-- The lines that are told of a demo: how long it is and how hard, and what its players did.
use Rattle.std.specs.Prelude.{ℕ, ◌+◌, ◌*◌, ◌/◌, ◌%◌, pos, Bool, true, false, List, [], ◌∷◌, ◌++◌, codes, length, map, slice_index_or, Option, Some, None, slice_get}
use Rattle.std.specs.Fmt.{decimal}
use Rattle.dn_measure.specs.Fields.{labelled}
use Rattle.dn_demo.specs.Reading.{Recording, state_after}
use Rattle.dn_inspect.specs.Counting.{counting, none}
use Rattle.dn_inspect.specs.declared.tally.Counts.{Counts}
use Rattle.dn_inspect.specs.declared.telling.TheConstants.{SKILLS}

-- 35 tics are a second; the nearest hundredth
abbrev pub hundredths : ℕ → ℕ
hundredths tics = (tics * 100 + 17) / 35

-- a number below 100 in two digits
unfoldable pub two_digits : ℕ → List ℕ
two_digits n = decimal (n / 10) ++ decimal (n % 10)

-- minutes, seconds and hundredths
unfoldable pub time_text : ℕ → List ℕ
time_text h =
    decimal (h / 6000) ++ (codes ":" ++ (two_digits (h / 100 % 60)
    ++ (codes "." ++ two_digits (h % 100))))

-- the name of a skill in the menu of Doom (m_menu.c, NewGameMenu), where it has one
abbrev pub skill_name : Option (List ℕ) → List ℕ
skill_name None = []
skill_name (Some name) = codes " " ++ name

-- a skill as the menu counts it, from 1
unfoldable pub skill_text : ℕ → List ℕ
skill_text skill =
    labelled ((codes " skill ", pos (skill + 1)) ∷ []) ++ skill_name (slice_get (map (λ name. name.now) SKILLS) skill)

-- how long a demo is, and how hard
unfoldable pub length_line : Recording → List ℕ
length_line demo =
    codes "time " ++ (time_text (hundredths (length demo.rows))
    ++ (labelled ((codes " tics ", pos (length demo.rows)) ∷ [])
    ++ (skill_text demo.start.skill ++ codes "\n")))

-- what a player did
unfoldable pub counts_line : ℕ → Counts → List ℕ
counts_line player counts = labelled (
    (codes "player ", pos player)
    ∷ (codes " tics ", pos counts.tics)
    ∷ (codes " turns ", pos counts.turns)
    ∷ (codes " fine ", pos counts.fine)
    ∷ (codes " attack ", pos counts.attack)
    ∷ (codes " use ", pos counts.used)
    ∷ (codes " weapons ", pos counts.weapons)
    ∷ (codes " sr40 ", pos counts.sr40)
    ∷ (codes " sr50 ", pos counts.sr50)
    ∷ []) ++ codes "\n"

-- the line of who is present, and nothing for another
abbrev pub seat_line : ℕ → Bool → List Counts → List ℕ
seat_line player true tally = counts_line player (slice_index_or tally player none)
seat_line player false tally = []

-- the lines of the players who are present, from this one on
abbrev pub seat_lines : ℕ → List Bool → List Counts → List ℕ
seat_lines player [] tally = []
seat_lines player (seat ∷ seats) tally = seat_line player seat tally ++ seat_lines (player + 1) seats tally

-- what is told of a demo
abbrev pub stats_lines : Recording → List ℕ
stats_lines demo = length_line demo ++ seat_lines 0 demo.present (state_after counting demo)
