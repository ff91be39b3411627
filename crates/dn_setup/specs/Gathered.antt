-- Which players the key player has heard.
use Rattle.std.specs.Prelude.{ℕ, ◌-◌, Bool, false, ◌&&◌, nat_lt, List, slice_index_or}
use Rattle.std.specs.List.{list_all, range_with_len}

-- how many players there are, and by number who is noted
pub record Gathered : Type 0 where
  pub players : ℕ
  pub noted : List Bool

-- the player of this number is noted
abbrev pub is_noted : Gathered → ℕ → Bool
is_noted g player = slice_index_or g.noted player false

-- a player other than the key player, who is number 0
abbrev pub is_peer : ℕ → ℕ → Bool
is_peer players player = nat_lt 0 player && nat_lt player players

-- each of the players from 1 on is noted
abbrev pub all_noted : ℕ → (ℕ → Bool) → Bool
all_noted players noted = list_all noted (range_with_len 1 (players - 1))
