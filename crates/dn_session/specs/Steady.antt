-- When a tic that could be run waits for the next tick. Times are ticks.
use Rattle.std.specs.Prelude.{ℕ, ◌+◌, ◌-◌, ◌&&◌, Bool, not, true, false, nat_le, nat_lt, min, if◌then◌else◌}
use Rattle.dn_session.specs.declared.steady.Steady.{Steady}

-- a tic may be run, and no gap was felt
abbrev pub new_steady : Steady
new_steady = record { is_free = true; idle = 0; gaps = 0 }

-- at a tick the next tic may be run
abbrev pub ticked : Steady → Steady
ticked s = record { is_free = true; idle = min (s.idle + 1) 255; gaps = s.gaps - 1 }

-- three to eight ticks without a tic are a gap; more are a game that stood still
abbrev pub has_waited : Steady → Bool
has_waited s = nat_le 3 s.idle && nat_le s.idle 8

-- a gap counts for 320 ticks, and all together for 1,600 at most
abbrev pub gaps_after : Steady → ℕ
gaps_after s = if has_waited s then min (s.gaps + 320) 1600 else s.gaps

-- a tic is run
abbrev pub after_tic : Steady → Steady
after_tic s = record { is_free = false; idle = 0; gaps = gaps_after s }

-- tics come unevenly: the third gap was felt, and not too long ago
abbrev pub is_rough : Steady → Bool
is_rough s = nat_lt 640 s.gaps

-- then one is run for a tick, unless another is there behind it
abbrev pub holds : (has_more : Bool) → Steady → Bool
holds has_more s = is_rough s && (not s.is_free && not has_more)
