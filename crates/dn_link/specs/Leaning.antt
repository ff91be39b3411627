-- How a player leans towards the mean of all, how its ticks are trimmed, and how they are stretched.
use Rattle.std.specs.{Prelude.{ℕ, ◌+◌, ◌-◌, ◌/◌, ◌==◌, ◌+ℤ◌, ◌-ℤ◌, ◌≤ℤ◌, if◌then◌else◌, nat_lt, nat_le, nat_abs, neg_ℤ, negsuc, ℤ, pos, int_div, ◌*◌, ◌||◌, Bool, min}, Int.{int_max, int_min, int_div_euclid, int_rem_euclid}}

-- by how much each tick is longer, in 1,024ths of a tick, and how many of these are carried on to the next one
pub record TrimState : Type 0 where
  pub by : ℤ
  pub carried : ℤ

-- for how many ticks it looks away; at how many it has looked, and the sum of what it saw there; how much is left
-- to work off, in 32nds of a tick; and by how much each tick is trimmed
pub record LeaningState : Type 0 where
  pub rest : ℕ
  pub looked : ℕ
  pub sum : ℤ
  pub left : ℤ
  pub trim : TrimState

-- no more than so much, either way
abbrev pub within : ℕ → ℤ → ℤ
within most amount = int_max (neg_ℤ (pos most)) (int_min amount (pos most))

-- a sixth of an offset that is at most a tick makes each tick longer: what is left once it was worked off, or comes
-- again, is a difference of the clocks
abbrev pub fed : ℤ → ℤ → ℤ
fed offset by = if nat_le (nat_abs offset) 32 then by +ℤ int_div offset (pos 6) else by

-- a 32nd of what it then is leaks, and it stays within three 32nds of a tick
abbrev pub leaked : ℤ → ℤ
leaked by = within 96 (by -ℤ int_div by (pos 32))

abbrev pub trims : ℤ → TrimState → TrimState
trims offset trim = record trim { by = leaked (fed offset trim.by) }

-- the whole 32nds of a tick in the trim and what was carried; the rest is carried on
abbrev pub trim_of : TrimState → ℤ
trim_of trim = int_div_euclid (trim.carried +ℤ trim.by) (pos 32)

abbrev pub carried_on : TrimState → TrimState
carried_on trim = record trim { carried = int_rem_euclid (trim.carried +ℤ trim.by) (pos 32) }

-- sixteen ticks were looked at. Of players who each lead by so much more than they are led by, the sum of the
-- differences over their number is how far this one is from the mean of all, in 32nds of a tick; half of a
-- difference is each side's to work off
abbrev pub offset_of : ℤ → ℕ → ℤ
offset_of sum players = int_div sum (pos players)

-- what is worth to be worked off: more than an eighth of a tick, and at most two ticks
abbrev pub worth : ℤ → ℤ
worth offset = if nat_le (nat_abs offset) 4 then pos 0 else within 64 offset

-- it looks away for as long as it looked, while there is something to work off
abbrev pub rest_for : ℤ → ℕ
rest_for left = if nat_abs left == 0 then 0 else 16

-- so far from the mean, it begins to work that off
abbrev pub decided : ℤ → LeaningState → LeaningState
decided offset leaning =
    record {
      rest = rest_for (worth offset);
      looked = 0;
      sum = pos 0;
      left = worth offset;
      trim = trims offset leaning.trim;
    }

-- a tick: it looks away while it works off what it saw, and for as long
abbrev pub looks : ℤ → ℕ → LeaningState → LeaningState
looks difference players leaning =
    if nat_lt 0 leaning.rest
    then record leaning { rest = leaning.rest - 1 }
    else (if leaning.looked == 15
    then decided (offset_of (leaning.sum +ℤ difference) players) leaning
    else record leaning { looked = leaning.looked + 1; sum = leaning.sum +ℤ difference })

-- a sixteenth of a tick of what is left, and an eighth of what is more than a tick
abbrev pub work_of : ℤ → ℤ
work_of left = within (2 + (nat_abs left - 32) / 8) left

-- with the trim, what a tick is longer
abbrev pub step_of : LeaningState → ℤ
step_of leaning = work_of leaning.left +ℤ trim_of leaning.trim

abbrev pub worked_off : LeaningState → LeaningState
worked_off leaning =
    record leaning { left = leaning.left -ℤ work_of leaning.left; trim = carried_on leaning.trim }

-- by so many 32nds a tick is longer at most, or shorter: by 6 of work and 3 of trim, and 32 more of stretching
abbrev pub IsLean : ℤ → Type 0
IsLean lean = (negsuc 8 ≤ℤ lean) × (lean ≤ℤ pos 41)

-- How ticks are stretched on a line that is longer than the window, and loses little.

-- the ticks of this block of sixteen so far, and how many inputs were dropped in it; how many blocks in a row,
-- up to four, had a dropped one; and by how many 32nds each tick is longer
pub record StretchingState : Type 0 where
  pub ticks : ℕ
  pub dropped : ℕ
  pub blocks : ℕ
  pub slow : ℕ

-- an input was dropped
abbrev pub drops : StretchingState → StretchingState
drops stretching = record stretching { dropped = min (stretching.dropped + 1) 255 }

abbrev pub blocks_after : ℕ → ℕ → ℕ
blocks_after dropped blocks = if dropped == 0 then 0 else min (blocks + 1) 4

-- four blocks in a row with drops make each tick longer, and one without makes it shorter again
abbrev pub slow_after : ℕ → ℕ → ℕ → ℕ
slow_after dropped blocks slow =
    if blocks == 4 then min (slow + 2 * dropped) 32 else (if dropped == 0 then slow - 1 else slow)

abbrev pub ends_block : ℕ → StretchingState → StretchingState
ends_block dropped stretching =
    record {
      ticks = 0;
      dropped = 0;
      blocks = blocks_after dropped stretching.blocks;
      slow = slow_after dropped (blocks_after dropped stretching.blocks) stretching.slow;
    }

-- a tick. Of a block nothing counts where datagrams are missing, or where the game stood still
abbrev pub stretches : Bool → StretchingState → StretchingState
stretches missing stretching =
    if stretching.ticks == 15
    then ends_block (if missing || nat_lt 12 stretching.dropped then 0 else stretching.dropped) stretching
    else record stretching { ticks = stretching.ticks + 1 }
