-- When a player's ticks are due. A tick is counted in parts, of which a millisecond has 32 for each tick of a second:
-- 32,000 are a tick.
use Rattle.std.specs.{Prelude.{ℕ, ◌+◌, ◌*◌, ◌/◌, ◌%◌, ◌^◌, ◌-◌, ◌+ℤ◌, ℤ, pos, nat_abs, Bool, nat_lt, nat_le, max, min, if◌then◌else◌, Some, None}, Int.{int_max}}
use Rattle.dn_session.specs.{Joining.has_come, declared.ticks.Ticks.Ticks}

-- the time that comes so much later, or the last that there is
abbrev pub later : ℕ → ℕ → ℕ
later time by = min (time + by) (2 ^ 32 - 1)

-- ticks from this time on
abbrev pub new_ticks : ℕ → ℕ → Ticks
new_ticks rate now = record { rate = rate; due = now; rest = 0; half = None }

-- how many come in a second: one at least
abbrev pub rate_of : Ticks → ℕ
rate_of ticks = max ticks.rate 1

-- a tick is due
abbrev pub is_due : ℕ → Ticks → Bool
is_due now ticks = nat_le ticks.due now

-- it is more than eight ticks late: eight are 8000 / rate milliseconds
abbrev pub is_late : ℕ → Ticks → Bool
is_late now ticks = nat_lt (ticks.due + 8000 / rate_of ticks) now

-- then ticks go on from now: so at most eight that were missed are made up, beside the one of now
abbrev pub resumed : ℕ → Ticks → Ticks
resumed now ticks = if is_late now ticks then record ticks { due = now; rest = 0 } else ticks

-- how long a tick is, by so many 32nds longer than usual, or shorter below 0: each has 1,000 parts, and one is left
-- at least
abbrev pub parts_of_tick : ℤ → ℕ
parts_of_tick lean = 1000 * nat_abs (int_max (pos 32 +ℤ lean) (pos 1))

-- how long after the millisecond in which this tick was due the next one is
abbrev pub parts_to_next : ℤ → Ticks → ℕ
parts_to_next lean ticks = ticks.rest + parts_of_tick lean

-- the tick that was due has passed: the next is due so much later, and what is left of a millisecond is kept; and
-- the datagrams half a tick later are due at half of that
abbrev pub passed : ℤ → Ticks → Ticks
passed lean ticks = record ticks {
  due = later ticks.due (parts_to_next lean ticks / (32 * rate_of ticks));
  rest = parts_to_next lean ticks % (32 * rate_of ticks);
  half = Some (later ticks.due (parts_to_next lean ticks / (64 * rate_of ticks)));
}

-- the datagrams half a tick later are taken once they are due
abbrev pub half_taken : ℕ → Ticks → Ticks
half_taken now ticks = if has_come now ticks.half then record ticks { half = None } else ticks

-- when something is due next: a tick, or those datagrams
abbrev pub next : Ticks → ℕ
next ticks = elim ticks.half [
  | None ↦ ticks.due
  | Some half ↦ min ticks.due half
]
