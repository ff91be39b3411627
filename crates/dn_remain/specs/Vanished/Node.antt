-- What a node keeps of players who may vanish, all states that nodes were ever in, and the reports by which
-- a node decides.
use Rattle.std.specs.Prelude.{ℕ, Bool, true, false, List, [], ◌∷◌, ◌≡◌, ◌⊎◌, Option, None, length, zero, suc, ◌<◌, max, ◌==◌, Some, if◌then◌else◌}

pub record Node : Type 0 where
  -- how many commands it has of each player; of itself those that it made
  pub got : ℕ → ℕ
  -- the ends that it knows, by EXIT or by a decision; it has all commands before them
  pub ends : ℕ → Option ℕ
  -- whom it has given up
  pub gone : ℕ → Bool
  -- it has left, and takes no further part
  pub left : Bool
  -- of each tic that it ran, whom its row lacks
  pub rows : List (ℕ → Bool)

-- how many tics it ran
abbrev pub ran : Node → ℕ
ran node = length node.rows

-- nothing was done yet
abbrev pub fresh : Node
fresh =
    record {
      got = λ player. 0;
      ends = λ player. None;
      gone = λ player. false;
      left = false;
      rows = [];
    }

-- the nodes now
abbrev pub now : List (ℕ → Node) → ℕ → Node
now [] = λ node. fresh
now (nodes ∷ older) = nodes

-- node `q` is or was in this state
abbrev pub Was : List (ℕ → Node) → ℕ → Node → Type 0
Was [] q state = ⊥
Was (nodes ∷ older) q state = (state ≡ nodes q) ⊎ Was older q state

-- the same players have been given up
abbrev pub Same : (ℕ → Bool) → (ℕ → Bool) → Type 0
Same one other = (player : ℕ) → one player ≡ other player

-- whoever has been given up in one is in the other
abbrev pub Within : (ℕ → Bool) → (ℕ → Bool) → Type 0
Within one other = (player : ℕ) → one player ≡ true → other player ≡ true

-- The reports by which a node decides, and what it decides. A report tells a state that its sender is or was
-- in: whom it has given up, and the commands that it has of them. It may have been sent at any time, and may
-- come at any later time, many times, or never.

-- what stands as a report for one who has given up these players: a report for exactly them; or the last report
-- of one who has left, and who had given up no others
abbrev pub Stands : (ℕ → Bool) → Node → Type 0
Stands gone report = Same report.gone gone ⊎ ((report.left ≡ true) × Within report.gone gone)

-- node `q` has heard what it needs: a report of each other player whom it has not given up
abbrev pub HasHeard : ℕ → List (ℕ → Node) → ℕ → Node → (ℕ → Node) → Type 0
HasHeard players history q node heard = (r : ℕ) → r < players → (r ≡ q → ⊥) → node.gone r ≡ false
    → Was history r (heard r) × Stands node.gone (heard r)

-- the largest of the first numbers, of as many as there are players
unfoldable pub highest : ℕ → (ℕ → ℕ) → ℕ
highest zero count = 0
highest (suc players) count = max (highest players count) (count players)

-- how many commands of a player count for one: for node `q` its own, for one who is given up none, and for any
-- other those that the report tells
abbrev pub share : ℕ → Node → (ℕ → Node) → ℕ → ℕ → ℕ
share q node heard player r =
    if r == q then node.got player else (if node.gone r then 0 else (heard r).got player)

-- the end of a player: the largest of these counts
abbrev pub decided_end : ℕ → ℕ → Node → (ℕ → Node) → ℕ → ℕ
decided_end players q node heard player = highest players (share q node heard player)

-- the node after it decided: it knows the end of everyone whom it has given up, and has all commands before it,
-- which the reports carry
abbrev pub decided : ℕ → ℕ → Node → (ℕ → Node) → Node
decided players q node heard =
    record node {
      got = λ player. if node.gone player then decided_end players q node heard player else node.got player;
      ends = λ player. if node.gone player
          then Some (decided_end players q node heard player)
          else node.ends player;
    }
