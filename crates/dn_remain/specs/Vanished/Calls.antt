-- What a node does when it is told to give up somebody and when a report comes, and the tests that it makes.
-- Only players of the game are given up, so sets are compared below their number.
use Rattle.std.specs.Prelude.{ℕ, zero, suc, Bool, true, false, not, nat_lt, ◌&&◌, ◌||◌, ◌==◌, if◌then◌else◌, List, ◌++◌, ◌≡◌, Option, Some, None}
use Rattle.dn_machine.specs.Node.{put}
use Rattle.dn_remain.specs.Vanished.Node.{Node, fresh, now, Was, decided}
use Rattle.dn_remain.specs.Vanished.Steps.{IsRun}

-- each number below the bound passes
unfoldable pub every : ℕ → (ℕ → Bool) → Bool
every zero test = true
every (suc bound) test = every bound test && test bound

-- who has been given up in one is in the other
abbrev pub is_within_at : (ℕ → Bool) → (ℕ → Bool) → ℕ → Bool
is_within_at one other player = not (one player) || other player

-- a report stands for this set: it has exactly this set, or is the last of one who had given up no others
abbrev pub is_report : ℕ → (ℕ → Bool) → Node → Bool
is_report players gone report =
    every players (is_within_at report.gone gone) && (report.left || every players (is_within_at gone report.gone))

-- a report of a player came, and the newest stands for this set
abbrev pub is_report_in : ℕ → (ℕ → Bool) → Option Node → Bool
is_report_in players gone None = false
is_report_in players gone (Some report) = is_report players gone report

-- nothing is wanted of this player, or the report is there
abbrev pub is_heard : ℕ → ℕ → Node → (ℕ → Option Node) → ℕ → Bool
is_heard players q node newest r = (r == q) || (node.gone r || is_report_in players node.gone (newest r))

-- node `q` can decide by the newest reports that came
abbrev pub can_decide : ℕ → ℕ → Node → (ℕ → Option Node) → Bool
can_decide players q node newest = every players (is_heard players q node newest)

abbrev pub report_or : Option Node → Node
report_or None = fresh
report_or (Some report) = report

-- a node, and the newest report of each player that it heard
pub record Keeper : Type 0 where
  pub node : Node
  pub newest : ℕ → Option Node

-- it decides, if it can
abbrev pub after_news : ℕ → ℕ → Keeper → Keeper
after_news players q keeper =
    if can_decide players q keeper.node keeper.newest
    then record keeper { node = decided players q keeper.node (λ r. report_or (keeper.newest r)) }
    else keeper

-- it has not left, and this is another player of the game; one who is given up already is no other case
abbrev pub may_give_up : ℕ → ℕ → Node → ℕ → Bool
may_give_up players q node p = nat_lt p players && (not (p == q) && not node.left)

-- node `q` is told to give up a player
abbrev pub on_give_up : ℕ → ℕ → Keeper → ℕ → Keeper
on_give_up players q keeper p =
    if may_give_up players q keeper.node p
    then after_news players q
    (record keeper { node = record keeper.node { gone = put keeper.node.gone p true } })
    else keeper

-- a report is not older than the one before, as far as their sets and leaving tell: its sender has given up
-- everybody whom the one before names, and has left, if it had left before. Counts are not looked at: of two
-- reports for the same set either will do
abbrev pub is_newer : ℕ → Option Node → Node → Bool
is_newer players None report = true
is_newer players (Some old) report = every players (is_within_at old.gone report.gone) && not (old.left && not report.left)

-- node `q`, unless it has left, hears a report, and decides if it can. It takes none of one whom it has given
-- up or who has given it up, and none that is older than the newest
abbrev pub on_report : ℕ → ℕ → Keeper → ℕ → Node → Keeper
on_report players q keeper from report =
    if not keeper.node.left && (not (keeper.node.gone from)
    && (not (report.gone q) && is_newer players (keeper.newest from) report))
    then after_news players q (record keeper { newest = put keeper.newest from (Some report) })
    else keeper

-- the newest reports tell states that their senders are or were in
abbrev pub AreTrue : List (ℕ → Node) → (ℕ → Option Node) → Type 0
AreTrue history newest = (r : ℕ) (report : Node) → newest r ≡ Some report → Was history r report

-- steps come after a history, and lead to where node `q` is this keeper's, the others are as before, and the
-- keeper's newest reports are true
pub record LeadsTo (players ahead : ℕ) (history : List (ℕ → Node)) (q : ℕ) (keeper : Keeper) : Type 0 where
  pub steps : List (ℕ → Node)
  pub run : IsRun players ahead (steps ++ history)
  pub nodes : now (steps ++ history) ≡ put (now history) q keeper.node
  pub known : AreTrue (steps ++ history) keeper.newest
