-- What a line must reach to carry a game of four. Times are in microseconds, but for keys in milliseconds.
use Rattle.std.specs.Prelude.{ℕ}

-- a time between two tics that is longer is a gap
abbrev pub longest_calm : ℕ
longest_calm = 100000

-- a shorter time of play is not judged
abbrev pub least_time : ℕ
least_time = 10000000

-- at least 69 of 70 tics that the clock gives are run: 34.5 of 35
abbrev pub run_of_given : ℕ
run_of_given = 69

abbrev pub given : ℕ
given = 70

-- there are no more gaps in all than such times, of which a begun one counts whole
abbrev pub time_of_a_gap : ℕ
time_of_a_gap = 60000000

-- the longest time between two tics is no longer
abbrev pub longest_pause : ℕ
longest_pause = 1000000

-- 95 of a hundred keys are felt within so many milliseconds
abbrev pub longest_key : ℕ
longest_key = 250

-- at most so many of a thousand datagrams of each player are lost
abbrev pub greatest_loss : ℕ
greatest_loss = 150
