-- What is known of the line to a player, and of its commands, as plain numbers.
use Rattle.std.specs.Prelude.{ℕ, ℤ, pos, Option, Some, None}
use Rattle.dn_link.specs.declared.tally.Figures.{Figures}
use Rattle.zirmegat.specs.declared.lines.LineAnswer.{LineAnswer}

-- a line of these numbers
abbrev pub line_at : ℕ → ℕ → ℕ → ℕ → ℕ → ℤ → ℤ → LineAnswer
line_at came lost repeated too_old missing_there lead lead_there =
    record {
      came = came;
      lost = lost;
      repeated = repeated;
      too_old = too_old;
      missing_there = missing_there;
      lead = lead;
      lead_there = lead_there;
    }

-- that to another player, and all 0 where there is none
abbrev pub line_told : Option Figures → LineAnswer
line_told (Some f) = line_at f.came f.lost f.repeated f.too_old f.missing_there f.lead f.lead_there
line_told None = line_at 0 0 0 0 0 (pos 0) (pos 0)

-- how many commands of a player are here
abbrev pub got_told : Option ℕ → ℕ
got_told (Some got) = got
got_told None = 0

-- the tic after a player's last command, or the largest number where it is not known
abbrev pub end_told : Option ℕ → ℕ
end_told (Some end) = end
end_told None = 4294967295
