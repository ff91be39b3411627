-- The line that is printed each second of play.
use Rattle.std.specs.Prelude.{ℕ, pos, List, [], ◌∷◌, ◌++◌, Option, Some, None, codes}
use Rattle.dn_measure.specs.declared.status.PeerStatus.{PeerStatus}
use Rattle.dn_measure.specs.declared.status.Status.{Status}
use Rattle.dn_measure.specs.Runs.{tenths_a_second}
use Rattle.dn_measure.specs.Fields.{labelled, with_tenth, of_each}
use Rattle.dn_measure.specs.Lines.{flaws_text}

-- how many tics were run a second
unfoldable pub rate_text : Status → List ℕ
rate_text s = with_tenth (codes "rate ") (tenths_a_second s.tics s.micros)

-- for whom the game waits
abbrev pub waiting_text : Option ℕ → List ℕ
waiting_text None = []
waiting_text (Some player) = labelled ((codes " waiting ", pos player) ∷ [])

unfoldable pub refused_text : ℕ → List ℕ
refused_text refused = labelled ((codes " refused ", pos refused) ∷ [])

-- how a player stands
unfoldable pub standing_text : ℕ → PeerStatus → List ℕ
standing_text player status = labelled (
    (codes " player ", pos player)
    ∷ (codes " lead ", status.lead)
    ∷ []) ++ flaws_text status.arrivals

-- how the game stands
abbrev pub status_line : Status → List ℕ
status_line s =
    rate_text s ++ (waiting_text s.waiting ++ (refused_text s.refused ++ (of_each standing_text 0 s.peers ++ codes "\n")))
