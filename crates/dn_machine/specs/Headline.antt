-- The headline, a field for each phrase of it, by what each player's node shows of itself. What else holds of every
-- game stands in `Promise`.
use Rattle.std.specs.Prelude.{ℕ, ℤ, ◌+◌, ◌<◌, ◌≤◌, ◌≡◌, ◌≢◌, ◌⊎◌, false, List, Option, length, slice_get}
use Rattle.std.specs.List.{take_while}
use Rattle.dn_tic.specs.declared.command.Move.{Move}
use Rattle.dn_machine.specs.declared.answers.Cause.TheVariants as Cause
use Rattle.dn_machine.specs.declared.answers.Phase.{Phase}
use Rattle.dn_machine.specs.declared.answers.Phase.TheVariants.{Ended}
use Rattle.dn_machine.specs.Node.{Node, got, is_ended, is_whole}
use Rattle.dn_machine.specs.Promise.{IsPrefixOf}

-- What a node shows of itself: its phase; the rows that it ran, one for each tic; how many commands it has of each
-- player, and of its own player how many it made; and the commands of its demo in order, as rows or as bytes.
-- A row says what was used of the commands of one tic: for each of the four seats the move of that player's command
-- (forward, side, turn and buttons; not its mark, nor its letter of chat), or none, where nobody plays or where the
-- player had left
pub record Shown (C : Type 0) : Type 0 where
  pub phase : Phase
  pub rows : List (List (Option Move))
  pub got : ℕ → ℕ
  pub demo : List C

-- how many tics the node ran
abbrev pub ran_by : {C : Type 0} → Shown C → ℕ
ran_by shown = length shown.rows

-- the rows before the first that lacks a player: those that a demo has
abbrev pub whole_rows : ℕ → List (List (Option Move)) → List (List (Option Move))
whole_rows players rows = take_while (is_whole players) rows

-- What so many players agree on, where a player makes at most `window` commands more than its node ran tics, at most
-- `waiting` commands of a player are unread at a node, and a ring keeps the last `places` commands of each player.
-- `Together` says of which two players it is promised that they used the same commands and lack few of each other
pub record AgreeWithin {C : Type 0} (window waiting places players : ℕ) (Together : ℕ → ℕ → Type 0)
    (shown : ℕ → Shown C) : Type 0 where
  -- any two nodes that ran a tic used the same command of every player, or none of one who had left: both ran the
  -- same row for it
  pub same : (q r tic : ℕ) → Together q r → tic < ran_by (shown q) → tic < ran_by (shown r)
      → slice_get (shown q).rows tic ≡ slice_get (shown r).rows tic
  -- no ring overwrote an unread command, since a ring has a place for each that is unread:
  pub ring : waiting ≤ places
  -- each that a node has of a player and has not run,
  pub unread : (q p : ℕ) → q < players → p < players → (shown q).got p ≤ ran_by (shown q) + waiting
  -- and each that a player made and that another lacks whose node has not ended
  pub lacked : (q p : ℕ) → Together q p → is_ended (shown q).phase ≡ false
      → (shown p).got p ≤ (shown q).got p + waiting
  -- no player made more commands beyond the tics that its own node ran than the window
  pub ahead : (p : ℕ) → p < players → (shown p).got p ≤ ran_by (shown p) + window
  -- no consistency check failed: no node ended because the mark of a command was not that of its own world
  pub consistent : (q player : ℕ) (was should : ℤ) → q < players
      → (shown q).phase ≢ Ended (Cause.Inconsistent player was should)
  -- of any two demos one's commands are a prefix of the other's
  pub demos : (q r : ℕ) → q < players → r < players
      → IsPrefixOf (shown q).demo (shown r).demo ⊎ IsPrefixOf (shown r).demo (shown q).demo

-- any two players of a game of so many
abbrev pub AnyTwo : ℕ → ℕ → ℕ → Type 0
AnyTwo players q r = (q < players) × (r < players)

-- the headline, in the window of 1997: a player makes at most five commands ahead of the tics that its node ran, and
-- of the twelve of a player that a ring keeps at most ten are unread
abbrev pub Headline : {C : Type 0} → ℕ → (ℕ → Shown C) → Type 0
Headline players shown = AgreeWithin 5 10 12 players (AnyTwo players) shown

-- what a node of the machine shows: its demo is the rows that a demo has
abbrev pub shown_by : ℕ → Node → Shown (List (Option Move))
shown_by players node =
    record { phase = node.phase; rows = node.rows; got = got node; demo = whole_rows players node.rows }
