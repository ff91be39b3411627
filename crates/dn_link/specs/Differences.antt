-- The commands of a run as differences: each by the one before it.
use Rattle.std.specs.Prelude.{ℕ, zero, suc, ◌+◌, ◌*◌, ◌/◌, ◌==◌, if◌then◌else◌, List, [], ◌∷◌, ◌++◌, length, take, drop, nat_lt, Bool}

-- of a command's bytes those that differ from the bytes of the one before it, in order
abbrev pub changed : (before command : List ℕ) → List ℕ
changed (b ∷ before) (c ∷ command) = if c == b then changed before command else c ∷ changed before command
changed before command = []

-- which these are: a bit for each of its bytes, the lowest for the first
abbrev pub change_bits : (before command : List ℕ) → ℕ
change_bits (b ∷ before) (c ∷ command) = (if c == b then 0 else 1) + 2 * change_bits before command
change_bits before command = 0

-- a command by the one before it
abbrev pub difference : (before command : List ℕ) → List ℕ
difference before command = change_bits before command ∷ changed before command

-- so many commands of eight bytes, each by the one before it
abbrev pub differences : ℕ → (before commands : List ℕ) → List ℕ
differences zero before commands = []
differences (suc n) before commands =
    difference before (take 8 commands) ++ differences n (take 8 commands) (drop 8 commands)

-- eight zeros, by which the first command of a run is told
abbrev pub zeros : List ℕ
zeros = 0 ∷ 0 ∷ 0 ∷ 0 ∷ 0 ∷ 0 ∷ 0 ∷ 0 ∷ []

abbrev pub run_differences : List ℕ → List ℕ
run_differences commands = differences (length commands / 8) zeros commands

-- the commands of a run stand as differences exactly if that is shorter
abbrev pub are_shorter : List ℕ → Bool
are_shorter commands = nat_lt (length (run_differences commands)) (length commands)

abbrev pub commands_bytes : List ℕ → List ℕ
commands_bytes commands = if are_shorter commands then run_differences commands else commands
