-- What is made of all that a session told.
use Rattle.std.specs.Prelude.{⊤, ◌<◌, ℕ, ◌+◌, ◌-◌, List, [], ◌∷◌, ◌++◌, length, fold, nat_lt, if◌then◌else◌}
use Rattle.dn_measure.specs.declared.measure.Told.{Told}
use Rattle.dn_measure.specs.declared.measure.Told.TheVariants.{Built, Ran}

-- when tics were run
abbrev pub runs_of : List Told → List ℕ
runs_of [] = []
runs_of (Built at ∷ told) = runs_of told
runs_of (Ran at ∷ told) = at ∷ runs_of told

-- when those commands were built that wait to be run, the oldest first; and how long each took that was run
pub record Keys : Type 0 where
  pub waiting : List ℕ
  pub times : List ℕ

-- a command that is built waits, if there is room for it among twelve
abbrev pub built_more : Keys → ℕ → Keys
built_more keys at =
    if nat_lt (length keys.waiting) 12 then record keys { waiting = keys.waiting ++ at ∷ [] } else keys

-- the oldest that waits is run
abbrev pub ran_more : List ℕ → List ℕ → ℕ → Keys
ran_more [] times at = record { waiting = []; times = times }
ran_more (built ∷ waiting) times at = record { waiting = waiting; times = times ++ (at - built) ∷ [] }

abbrev pub told_more : Keys → Told → Keys
told_more keys (Built at) = built_more keys at
told_more keys (Ran at) = ran_more keys.waiting keys.times at

-- the commands of all that was told
abbrev pub keys_of : List Told → Keys
keys_of told = fold told_more (record { waiting = []; times = [] }) told

-- when commands were built
abbrev pub builds_of : List Told → List ℕ
builds_of [] = []
builds_of (Built at ∷ told) = at ∷ builds_of told
builds_of (Ran at ∷ told) = builds_of told

-- the time from each to the one at its place in the other list
abbrev pub times_from : (builds runs : List ℕ) → List ℕ
times_from builds [] = []
times_from [] (at ∷ runs) = []
times_from (built ∷ builds) (at ∷ runs) = (at - built) ∷ times_from builds runs

-- so many commands wait, and from then on each run is of a command that waits, and never more than twelve wait
abbrev pub IsInOrder : ℕ → List Told → Type 0
IsInOrder waiting [] = ⊤
IsInOrder waiting (Built at ∷ told) = (waiting < 12) × IsInOrder (waiting + 1) told
IsInOrder waiting (Ran at ∷ told) = (0 < waiting) × IsInOrder (waiting - 1) told
