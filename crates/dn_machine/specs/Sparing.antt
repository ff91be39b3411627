-- A run of a node that has given up players: it compares no mark of theirs. They went another way, so their marks
-- may tell of another world, and say nothing of the node's own.
use Rattle.std.specs.Prelude.{ℕ, ℤ, Bool, not, ◌&&◌, nat_lt, if◌then◌else◌, Option, None}
use Rattle.dn_machine.specs.declared.answers.Ran.{Ran}
use Rattle.dn_machine.specs.Limits.{Limits}
use Rattle.dn_machine.specs.Node.{Node, ran, lowest}
use Rattle.dn_machine.specs.Running.{is_off, on_run_in}

-- a mark of the next tic of a player who is not given up, and it is off
abbrev pub is_off_but : (ℕ → Bool) → Node → ℕ → Bool
is_off_but gone node player = not (gone player) && is_off node player

-- the player whose mark is off in the next tic, of those who are not given up; none is looked at up to tic 12
abbrev pub first_off_but : Limits → (ℕ → Bool) → Node → Option ℕ
first_off_but limits gone node =
    if nat_lt 12 (ran node) then lowest limits.players (is_off_but gone node) else None

-- a node that has given up these is asked to run a tic, and told each player's mark in the world as it stands:
-- the node after it, and the answer
unfoldable pub on_run_but : Limits → (ℕ → Bool) → Node → (ℕ → ℤ) → Node × Ran
on_run_but limits gone node marks = on_run_in limits node marks (first_off_but limits gone node) node.phase
