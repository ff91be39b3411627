-- What holds of all states that nodes were ever in.
use Rattle.std.specs.Prelude.{ℕ, ◌<◌, ◌≤◌, ◌+◌, Bool, true, false, List, ◌≡◌, Some, None, get_or}
use Rattle.dn_machine.specs.Running.{is_over}
use Rattle.dn_remain.specs.Vanished.Node.{Node, ran, now, Was, Within}
use Rattle.dn_remain.specs.Vanished.Calls.{is_newer}

-- the row that a node ran for a tic lacks a player
abbrev pub lacks_at : Node → ℕ → ℕ → Bool
lacks_at node tic player = get_or node.rows tic (λ p. true) player

-- Agreement of two nodes, in any states that they were ever in, at the same time or not, in which neither had
-- given up the other; and what holds of each node alone.
pub record Agree (players : ℕ) (history : List (ℕ → Node)) : Type 0 where
  -- they know the same end of a player
  pub ends_same : (x z p a b : ℕ) (u v : Node) → x < players → z < players → (x ≡ z → ⊥)
      → Was history x u → Was history z v → u.gone z ≡ false → v.gone x ≡ false
      → u.ends p ≡ Some a → v.ends p ≡ Some b → a ≡ b
  -- it is at least what the other has, and so at least what the other ran with that player
  pub at_least : (x z p a : ℕ) (u v : Node) → x < players → z < players → (x ≡ z → ⊥)
      → Was history x u → Was history z v → u.gone z ≡ false → v.gone x ≡ false
      → u.ends p ≡ Some a → v.got p ≤ a
  -- any tic that both ran was run with the same players
  pub rows_same : (x z p tic : ℕ) (u v : Node) → x < players → z < players → p < players → (x ≡ z → ⊥)
      → Was history x u → Was history z v → u.gone z ≡ false → v.gone x ≡ false
      → tic < ran u → tic < ran v → lacks_at u tic p ≡ lacks_at v tic p
  -- whoever knows an end has all commands before it
  pub has_all : (x p a : ℕ) (u : Node) → Was history x u → u.ends p ≡ Some a → u.got p ≡ a
  -- and it is at most what the player made
  pub at_most : (x p a : ℕ) (u : Node) → Was history x u → u.ends p ≡ Some a → a ≤ (now history p).got p
  -- a tic is run without a player from the player's end on, and never before
  pub without : (x p tic : ℕ) (u : Node) → Was history x u → p < players → tic < ran u
      → lacks_at u tic p ≡ is_over (u.ends p) tic
  -- a node has the command of each player whom a row that it ran does not lack
  pub rows_held : (x p tic : ℕ) (u : Node) → Was history x u → p < players → tic < ran u
      → lacks_at u tic p ≡ false → tic < u.got p

-- What lasts: of whatever a node ever was, all is kept.
pub record Lasts (history : List (ℕ → Node)) : Type 0 where
  -- an end, once known, never changes
  pub ends : (x p a : ℕ) (u : Node) → Was history x u → u.ends p ≡ Some a → (now history x).ends p ≡ Some a
  -- no command is lost
  pub got : (x p : ℕ) (u : Node) → Was history x u → u.got p ≤ (now history x).got p
  -- nobody who was given up comes back
  pub gone : (x : ℕ) (u : Node) → Was history x u → Within u.gone (now history x).gone
  -- no row that was run changes
  pub more : (x : ℕ) (u : Node) → Was history x u → ran u ≤ ran (now history x)
  pub rows : (x p tic : ℕ) (u : Node) → Was history x u → tic < ran u
      → lacks_at (now history x) tic p ≡ lacks_at u tic p
  -- who has left stays as it is
  pub left : (x : ℕ) (u : Node) → Was history x u → u.left ≡ true → now history x ≡ u

-- Windows: a node fits into rings of twice the window, and so do the commands that reports bring to it.
pub record Fits (players ahead : ℕ) (history : List (ℕ → Node)) : Type 0 where
  -- nobody has a command that was not made
  pub held : (x p : ℕ) (u : Node) → Was history x u → u.got p ≤ (now history p).got p
  -- no player is further ahead of the tics run than the window
  pub own : (x : ℕ) (u : Node) → Was history x u → u.got x ≤ ran u + ahead
  -- nor of what a player had made, whom it had not given up and who has not left; and of nobody has it more
  pub close : (x r p : ℕ) (v : Node) → x < players → (now history x).left ≡ false → Was history r v
      → v.gone x ≡ false → v.got p ≤ (now history x).got x + ahead
  -- of each player whose end it does not know a node has every command of the tics that it ran
  pub run : (x p : ℕ) (u : Node) → Was history x u → p < players → u.ends p ≡ None → ran u ≤ u.got p
  -- of each player a node has at most twice the window that it has not run
  pub unread : (x p : ℕ) (u : Node) → x < players → Was history x u → u.got p ≤ ran u + (ahead + ahead)
  -- until it leaves, nothing overruns it that comes from one who had not given it up, in a packet or a report
  pub overrun : (x r p : ℕ) (v : Node) → x < players → (now history x).left ≡ false → Was history r v
      → v.gone x ≡ false → v.got p ≤ ran (now history x) + (ahead + ahead)
  -- and it lacks at most twice the window of what another has, where neither has given up the other
  pub unheard : (x r p : ℕ) (v : Node) → x < players → r < players → p < players → (x ≡ r → ⊥)
      → (now history x).left ≡ false → (now history x).gone r ≡ false → Was history r v → v.gone x ≡ false
      → v.got p ≤ (now history x).got p + (ahead + ahead)
  -- also of what one has whom it has given up, of a player whose end it does not know
  pub unended : (x r p : ℕ) (v : Node) → x < players → p < players → (now history x).left ≡ false
      → Was history r v → v.gone x ≡ false → (now history x).ends p ≡ None
      → v.got p ≤ (now history x).got p + (ahead + ahead)

-- Marks: a command carries its maker's mark of the world before the tic twelve back. Where a node ran a tic
-- with a player, that player's rows up to there, as they were when the command was made, are the node's own; so
-- the consistency check of the 1997 game passes.
pub record Marked (players ahead : ℕ) (history : List (ℕ → Node)) : Type 0 where
  -- of a player whom the node has not given up
  pub same : (x p tic back r : ℕ) (u maker : Node) → x < players → p < players → r < players
      → Was history x u → Was history p maker → u.gone p ≡ false → maker.got p ≡ tic → tic < ran maker + ahead
      → tic < ran u → lacks_at u tic p ≡ false → back + 12 ≤ tic
      → (back < ran maker) × (lacks_at u back r ≡ lacks_at maker back r)
  -- in windows of up to six, of every player. In a wider one a node may have commands so far beyond the tics
  -- that it ran that it runs the tics before them by other rows, once it has given up their maker
  pub relayed : ahead + ahead ≤ 12 → (x p tic back r : ℕ) (u maker : Node) → x < players → p < players
      → r < players → Was history x u → Was history p maker → maker.got p ≡ tic → tic < ran u
      → lacks_at u tic p ≡ false → back + 12 ≤ tic
      → (back < ran maker) × (lacks_at u back r ≡ lacks_at maker back r)

-- Steadiness: of a true report that is refused as older than the newest, the newest tells all and more.
pub record Steady (players : ℕ) (history : List (ℕ → Node)) : Type 0 where
  pub gone : (r : ℕ) (old report : Node) → Was history r old → Was history r report
      → is_newer players (Some old) report ≡ false → Within report.gone old.gone
  pub got : (r p : ℕ) (old report : Node) → Was history r old → Was history r report
      → is_newer players (Some old) report ≡ false → report.got p ≤ old.got p
