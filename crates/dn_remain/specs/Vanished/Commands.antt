-- The commands themselves. Where nodes hold lists of commands whose counts step as in `Steps`, and each list is
-- a piece of one that somebody had, the tics that two nodes ran have the same commands. This is what a game
-- with commands, rings and packets has to show of itself.
use Rattle.std.specs.Prelude.{ℕ, zero, suc, Bool, false, not, List, [], ◌∷◌, ◌++◌, ◌≡◌, ◌⊎◌, nat_lt, if◌then◌else◌, Option, None, length, take, slice_get, ◌<◌, ◌≤◌, ◌+◌, ◌-◌, ◌==◌, Some, drop}
use Rattle.std.specs.List.{take_while}
use Rattle.dn_machine.specs.Node.{put}
use Rattle.dn_remain.specs.Vanished.Node.{Node, Stands}
use Rattle.dn_remain.specs.Vanished.Calls.{every}
use Rattle.dn_remain.specs.Vanished.Steps.{IsRun}

-- a node, with the commands themselves; all else is as in `Node`
pub record Holder (C : Type 0) : Type 0 where
  -- the commands that it has of each player, from tic 0 on
  pub held : ℕ → List C
  pub ends : ℕ → Option ℕ
  pub gone : ℕ → Bool
  pub left : Bool
  pub rows : List (ℕ → Bool)

-- nothing was done yet
abbrev pub fresh_holder : {C : Type 0} → Holder C
fresh_holder =
    record {
      held = λ player. [];
      ends = λ player. None;
      gone = λ player. false;
      left = false;
      rows = [];
    }

-- what is counted of it
abbrev pub seen : {C : Type 0} → Holder C → Node
seen holder =
    record {
      got = λ player. length (holder.held player);
      ends = holder.ends;
      gone = holder.gone;
      left = holder.left;
      rows = holder.rows;
    }

abbrev pub past_seen : {C : Type 0} → List (ℕ → Holder C) → List (ℕ → Node)
past_seen [] = []
past_seen (nodes ∷ older) = (λ x. seen (nodes x)) ∷ past_seen older

-- the nodes now
abbrev pub holders : {C : Type 0} → List (ℕ → Holder C) → ℕ → Holder C
holders [] = λ node. fresh_holder
holders (nodes ∷ older) = nodes

-- node `x` is or was in this state, with these lists
abbrev pub Had : {C : Type 0} → List (ℕ → Holder C) → ℕ → Holder C → Type 0
Had [] x state = ⊥
Had (nodes ∷ older) x state = (state ≡ nodes x) ⊎ Had older x state

-- one node changes its lists: its own by one command at most, another player's to a piece of a list of that
-- player's that somebody had
pub record Handed {C : Type 0} (nodes : ℕ → Holder C) (older : List (ℕ → Holder C)) (next : ℕ → Holder C) : Type 0 where
  pub q : ℕ
  pub new : Holder C
  pub next_is : next ≡ put nodes q new
  pub own : (new.held q ≡ (nodes q).held q) ⊎ ((command : C) × (new.held q ≡ (nodes q).held q ++ command ∷ []))
  pub others : (p : ℕ) → (p ≡ q → ⊥) → (new.held p ≡ (nodes q).held p)
      ⊎ ((r : ℕ) × (w : Holder C) × (end : ℕ) × Had (nodes ∷ older) r w × (new.held p ≡ take end (w.held p)))

-- a history in which lists are handed on so, from nothing
abbrev pub AreHanded : {C : Type 0} → List (ℕ → Holder C) → Type 0
AreHanded [] = ⊥
AreHanded (nodes ∷ []) = (x p : ℕ) → (nodes x).held p ≡ []
AreHanded (next ∷ (nodes ∷ older)) = Handed nodes older next × AreHanded (nodes ∷ older)

-- the row lacks no player of the game
abbrev pub is_whole : ℕ → (ℕ → Bool) → Bool
is_whole players row = every players (λ player. not (row player))

-- the commands that it has for a tic, one of each player of the game
abbrev pub commands_at : {C : Type 0} → ℕ → Holder C → ℕ → ℕ → Option C
commands_at players holder tic player = if nat_lt player players then slice_get (holder.held player) tic else None

-- those for the first tics
unfoldable pub commands_to : {C : Type 0} → ℕ → Holder C → ℕ → List (ℕ → Option C)
commands_to players holder zero = []
commands_to players holder (suc tic) = commands_to players holder tic ++ commands_at players holder tic ∷ []

-- its demo: the commands of the tics that it ran before the first row that lacks a player
abbrev pub demo : {C : Type 0} → ℕ → Holder C → List (ℕ → Option C)
demo players holder = commands_to players holder (length (take_while (is_whole players) holder.rows))

-- Decisions on lists, and how few of a list's commands a report has to carry for them.

-- node `q` has heard what it needs, lists and all: of each other player whom it has not given up a state that
-- the player was in, and that stands for its set
abbrev pub HasHeardLists : {C : Type 0} → ℕ → List (ℕ → Holder C) → ℕ → Holder C → (ℕ → Holder C) → Type 0
HasHeardLists players history q holder heard = (r : ℕ) → r < players → (r ≡ q → ⊥) → holder.gone r ≡ false
    → Had history r (heard r) × Stands holder.gone (seen (heard r))

-- the longer of two lists; the first of two that are as long
abbrev pub longer : {C : Type 0} → List C → List C → List C
longer xs ys = if nat_lt (length xs) (length ys) then ys else xs

-- the longest of the first lists, of as many as there are players
unfoldable pub longest : {C : Type 0} → ℕ → (ℕ → List C) → List C
longest zero lists = []
longest (suc players) lists = longer (longest players lists) (lists players)

-- the commands of a player that count for one, as in `share`
abbrev pub told : {C : Type 0} → ℕ → Holder C → (ℕ → Holder C) → ℕ → ℕ → List C
told q holder heard player r =
    if r == q then holder.held player else (if holder.gone r then [] else (heard r).held player)

-- node `q` after it decided: of each whom it has given up it has the longest list that was told
abbrev pub on_decision : {C : Type 0} → ℕ → ℕ → Holder C → (ℕ → Holder C) → Holder C
on_decision players q holder heard =
    record holder {
      held = λ p. if holder.gone p then longest players (told q holder heard p) else holder.held p;
      ends = λ p. if holder.gone p
          then Some (length (longest players (told q holder heard p)))
          else holder.ends p;
    }

-- what a node has that can decide on lists, where so many of the last commands of each player are kept
pub record IsReady {C : Type 0} (players ahead places : ℕ) (history : List (ℕ → Holder C)) (q : ℕ)
    (heard : ℕ → Holder C) : Type 0 where
  pub handed : AreHanded history
  pub run : IsRun players ahead (past_seen history)
  pub player : q < players
  pub here : (holders history q).left ≡ false
  pub heard_lists : HasHeardLists players history q (holders history q) heard
  -- twice the window is kept
  pub room : ahead + ahead ≤ places

-- the last of these commands, as many as are kept
abbrev pub last_of : {C : Type 0} → ℕ → List C → List C
last_of places commands = drop (length commands - places) commands

-- a list, and what it lacks of one that is told by its length and its last commands
abbrev pub caught_up : {C : Type 0} → ℕ → List C → List C → List C
caught_up places own told = own ++ drop (length own - (length told - places)) (last_of places told)
