-- The lines of what was measured.
use Rattle.std.specs.Prelude.{ℕ, pos, ◌+◌, ◌/◌, List, [], ◌∷◌, ◌++◌, codes}
use Rattle.dn_measure.specs.declared.arrivals.Arrivals.{Arrivals}
use Rattle.dn_measure.specs.declared.felt.Felt.{Felt}
use Rattle.dn_measure.specs.declared.felt.Felt.TheVariants.{Never, Within, Longer}
use Rattle.dn_measure.specs.declared.measure.Summary.{Summary}
use Rattle.dn_measure.specs.Arrivals.{loss_of}
use Rattle.dn_measure.specs.Runs.{tenths_a_second}
use Rattle.dn_measure.specs.Fields.{labelled, with_tenth}

-- within how many milliseconds keys were felt
abbrev pub felt_text : Felt → List ℕ
felt_text Never = codes "never"
felt_text (Within time) = labelled (([], pos time) ∷ [])
felt_text Longer = codes "over 1000"

-- how many tics were run, in how many seconds, and how many a second
unfoldable pub played_line : Summary → List ℕ
played_line s =
    labelled ((codes "tics ", pos s.tics) ∷ [])
    ++ (with_tenth (codes " seconds ") (s.micros / 100000)
    ++ (with_tenth (codes " rate ") (tenths_a_second s.tics s.micros)
    ++ (labelled ((codes " of ", pos s.rate) ∷ []) ++ codes "\n")))

-- how many gaps there were, and the longest time between two tics in milliseconds
unfoldable pub gaps_line : Summary → List ℕ
gaps_line s = labelled (
    (codes "gaps ", pos s.gaps)
    ∷ (codes " longest ", pos ((s.longest + 999) / 1000))
    ∷ []) ++ codes "\n"

-- how soon half of the keys were felt, and 95 of a hundred
unfoldable pub keys_line : Summary → List ℕ
keys_line s =
    codes "keys half " ++ (felt_text s.half ++ (codes " most " ++ (felt_text s.most ++ codes "\n")))

-- what came late, twice or too late to count, and how much was lost
unfoldable pub flaws_text : Arrivals → List ℕ
flaws_text a = labelled (
    (codes " late ", pos a.late)
    ∷ (codes " twice ", pos a.twice)
    ∷ (codes " old ", pos a.old)
    ∷ []) ++ with_tenth (codes " loss ") (loss_of a)

-- what came from a player
unfoldable pub came_line : ℕ → Arrivals → List ℕ
came_line player a = labelled (
    (codes "player ", pos player)
    ∷ (codes " came ", pos a.came)
    ∷ (codes " lost ", pos a.lost)
    ∷ []) ++ (flaws_text a ++ codes "\n")
