-- How far a lockstep is.
use Rattle.std.specs.Prelude.{ℕ, ◌+◌, ◌-◌, ◌&&◌, nat_lt, if◌then◌else◌, Bool, List, [], ◌∷◌, Option, Some, None}
use Rattle.dn_machine.specs.Node.{is_ended}
use Rattle.dn_lockstep.specs.{Contents.Contents, Contents.end_in, Tables.count_of, Told.made}
use Rattle.dn_link.specs.declared.bundle.Counts.{Counts}

-- one more for an end that is known
abbrev pub with_end : ℕ → Option ℕ → ℕ
with_end count None = count
with_end count (Some end) = count + 1

-- how many commands it has of a player, and of its own how many it made; a known end counts as one more
abbrev pub has_of : Contents → ℕ → ℕ
has_of n player =
    if nat_lt player n.players then with_end (count_of n.rings player) (end_in n player) else 0

-- how many commands it has of a player; 0 of a number that is no player's
abbrev pub held : Contents → ℕ → ℕ
held n player = if nat_lt player n.players then count_of n.rings player else 0

-- of each of four players
abbrev pub held_of : Contents → List ℕ
held_of n = held n 0 ∷ held n 1 ∷ held n 2 ∷ held n 3 ∷ []

-- how many tics a player had run at least when it made the last of its commands that the node has: all but a
-- window of them. So it then had that many commands of the node's own player, unless it knew that player's end
abbrev pub reached : Contents → ℕ → ℕ
reached n player = held n player - n.ahead

-- it has played, and has ended
abbrev pub has_ended : Contents → Bool
has_ended n = n.played && is_ended n.phase

abbrev pub counts_of : Contents → ℕ → Counts
counts_of n echo =
    record {
      made = made n;
      echo = echo;
      got = has_of n 0 ∷ has_of n 1 ∷ has_of n 2 ∷ has_of n 3 ∷ [];
    }
