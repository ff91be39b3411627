-- How a session ended, and the lines of what it measured.
use Rattle.std.specs.Prelude.{ℕ, List, ◌++◌, pos, ◌==◌, Bool, if◌then◌else◌, [], ◌∷◌, Option, Some, None, codes}
use Rattle.dn_measure.specs.declared.measure.Summary.{Summary}
use Rattle.dn_measure.specs.Fields.{of_each, labelled}
use Rattle.dn_measure.specs.Lines.{played_line, gaps_line, keys_line, came_line}
use Rattle.dn_measure.specs.Lacking.{verdict_lines}
use Rattle.dn_measure.specs.declared.end.End.{End}
use Rattle.dn_measure.specs.declared.end.End.TheVariants.{Left, OthersLeft, Full, FullAt, Lost, Inconsistent, InconsistentAt}

-- all that was measured
abbrev pub figure_lines : Summary → List ℕ
figure_lines s = played_line s ++ (gaps_line s ++ (keys_line s ++ of_each came_line 0 s.peers))

-- all that was measured, and what follows from it
abbrev pub summary_lines : Summary → List ℕ
summary_lines s = figure_lines s ++ verdict_lines s

-- how it ended at a player, in words before its number and behind it
abbrev pub player_text : List ℕ → ℕ → List ℕ → List ℕ
player_text words player rest = labelled ((words, pos player) ∷ []) ++ rest

-- how it ended, in words
abbrev pub end_text : End → List ℕ
end_text Left = codes "ended left\n"
end_text OthersLeft = codes "ended others left\n"
end_text Full = codes "ended full\n"
end_text (FullAt player) = player_text (codes "ended full at ") player (codes "\n")
end_text (Lost player) = player_text (codes "ended lost ") player (codes ": no answer for 10 seconds\n")
end_text (Inconsistent player) = player_text (codes "ended inconsistent ") player (codes "\n")
end_text (InconsistentAt player) = player_text (codes "ended inconsistent at ") player (codes "\n")

-- the exit status: 0 where the session ended as it should
abbrev pub status_of : End → ℕ
status_of Left = 0
status_of OthersLeft = 0
status_of Full = 0
status_of (FullAt player) = 0
status_of (Lost player) = 3
status_of (Inconsistent player) = 3
status_of (InconsistentAt player) = 3

-- what was measured of a game that ended as it should, and what follows from it; of another what was measured
abbrev pub judged_lines : Bool → Summary → List ℕ
judged_lines well s = if well then summary_lines s else figure_lines s

-- what was measured, if the game began
abbrev pub measured_lines : End → Option Summary → List ℕ
measured_lines end None = []
measured_lines end (Some s) = judged_lines (status_of end == 0) s

-- how it ended, and what was measured
abbrev pub session_lines : End → Option Summary → List ℕ
session_lines end measured = end_text end ++ measured_lines end measured
