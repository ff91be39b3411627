-- What is kept of the others, in the words of `dn_remain::vanish`; and when it represents what a node knows
-- of them.
use Rattle.std.specs.Prelude.{ℕ, zero, suc, ◌-◌, ◌==◌, nat_lt, if◌then◌else◌, Bool, false, List, [], ◌∷◌, get_or, length, Option, Some, None, not, ◌||◌, slice_set, ◌≡◌, ◌≢◌, ◌<◌, ◌≤◌, ◌+◌}
use Rattle.std.specs.Option.{option_map}
use Rattle.std.specs.List.{list_any}
use Rattle.dn_tic.specs.declared.command.TicCmd.{TicCmd}
use Rattle.dn_machine.specs.Promise.{IsPrefixOf}
use Rattle.dn_remain.specs.Vanished.Node.{Node, fresh, share}
use Rattle.dn_remain.specs.Vanished.Calls.{report_or, is_newer}
use Rattle.dn_remain.specs.Vanished.Commands.{Holder, last_of}
use Rattle.dn_survivor.specs.declared.report.Report.{Report}
use Rattle.dn_survivor.specs.declared.report.Tail.{Tail}
use Rattle.dn_survivor.specs.declared.others.Others.{Others}
use Rattle.dn_survivor.specs.declared.others.hearing.Reported.{Reported}
use Rattle.dn_survivor.specs.declared.others.hearing.Reported.TheVariants.{Kept, GivenUp, Excluded, Improper, Stale}

-- What is kept of the others, in the words of `dn_remain::vanish`.

-- a set has this player
abbrev pub has : List Bool → ℕ → Bool
has set player = get_or set player false

-- nobody is given up, and nothing was told
abbrev pub nothing_kept : Others
nothing_kept =
    record { gone = false ∷ false ∷ false ∷ false ∷ []; newest = None ∷ None ∷ None ∷ None ∷ [] }

-- how many commands of a player are told, and 0 where the player is not told of
abbrev pub count_told : List Tail → ℕ → ℕ
count_told [] player = 0
count_told (tail ∷ told) player = if tail.player == player then tail.count else count_told told player

-- the last of them
abbrev pub last_told : List Tail → ℕ → List TicCmd
last_told [] player = []
last_told (tail ∷ told) player = if tail.player == player then tail.commands.items else last_told told player

-- what is counted of a report
abbrev pub node_of : Report → Node
node_of report =
    record fresh { got = count_told report.told.items; gone = has report.gone; left = report.left }

-- the newest report of a player, if one came
abbrev pub newest_of : Others → ℕ → Option Report
newest_of others player = get_or others.newest player None

abbrev pub nodes_of : Others → ℕ → Option Node
nodes_of others player = option_map node_of (newest_of others player)

-- the node itself, with so many commands of each player
abbrev pub own_of : Others → (ℕ → ℕ) → Node
own_of others got = record fresh { got = got; gone = has others.gone }

-- what each told, and nothing where no report came
abbrev pub told_of : Others → ℕ → Node
told_of others player = report_or (nodes_of others player)

-- the last commands that a report tells of a player, and none where no report came
abbrev pub last_in : Option Report → ℕ → List TicCmd
last_in None player = []
last_in (Some report) player = last_told report.told.items player

-- how many commands of a player another told, as in `share`: none, if it is given up or no report came; and
-- none of the node itself
abbrev pub count_by : ℕ → Others → ℕ → ℕ → ℕ
count_by me others player teller = share me (own_of others (λ player. 0)) (told_of others) player teller

-- and the last of them
abbrev pub last_by : ℕ → Others → ℕ → ℕ → List TicCmd
last_by me others player teller =
    if teller == me then [] else (
    if has others.gone teller then [] else last_in (newest_of others teller) player)

-- the number below a bound whose count is the largest, of several the lowest
unfoldable pub largest_at : ℕ → (ℕ → ℕ) → ℕ
largest_at zero count = 0
largest_at (suc bound) count =
    if nat_lt (count (largest_at bound count)) (count bound) then bound else largest_at bound count

-- who told of the most commands of a player, of the others who are not given up; 0 where nobody told of any
abbrev pub teller_of : ℕ → ℕ → Others → ℕ → ℕ
teller_of players me others player = largest_at players (count_by me others player)

-- the last commands of the player, as that one told them
abbrev pub commands_of : ℕ → ℕ → Others → ℕ → List TicCmd
commands_of players me others player = last_by me others player (teller_of players me others player)

-- and the tic of the first of these
abbrev pub first_of : ℕ → ℕ → Others → ℕ → ℕ
first_of players me others player =
    count_by me others player (teller_of players me others player)
    - length (commands_of players me others player)

-- A report comes.

-- it is told of one of these two players
abbrev pub tells_either : ℕ → ℕ → List Tail → Bool
tells_either one other told = list_any (λ (tail : Tail). tail.player == one || tail.player == other) told

-- what a node makes of it, in this order
abbrev pub reported_as : ℕ → ℕ → Others → ℕ → Report → Reported
reported_as players me others from report =
    if has others.gone from then GivenUp else (
    if has report.gone me then Excluded else (
    if tells_either me from report.told.items then Improper else (
    if not (is_newer players (nodes_of others from) (node_of report)) then Stale else Kept)))

-- it is kept as the newest of its sender
abbrev pub with_newest : Others → ℕ → Report → Others
with_newest others from report = record others { newest = slice_set others.newest from (Some report) }

-- What is kept of the others represents what a node knows of them: whom it has given up, and the newest report
-- of each.

-- a report to a node tells what its sender has: whom it has given up, whether it has left, and of each player
-- but these two how many commands, and the last of them, as many as are kept. Of these two it tells nothing
pub record Tells (players places me from : ℕ) (holder : Holder TicCmd) (report : Report) : Type 0 where
  pub gone : (player : ℕ) → player < players → has report.gone player ≡ holder.gone player
  pub left : report.left ≡ holder.left
  pub count : (player : ℕ) → player < players → player ≢ me → player ≢ from
      → count_told report.told.items player ≡ length (holder.held player)
  pub last : (player : ℕ) → player < players → player ≢ me → player ≢ from
      → last_told report.told.items player ≡ last_of places (holder.held player)
  pub neither : tells_either me from report.told.items ≡ false

-- a report is kept where one came, and tells what its sender had
abbrev pub AreTold : ℕ → ℕ → ℕ → ℕ → Option Report → Option (Holder TicCmd) → Type 0
AreTold players places me from None None = Unit {0}
AreTold players places me from (Some report) (Some holder) = Tells players places me from holder report
AreTold players places me from None (Some holder) = ⊥
AreTold players places me from (Some report) None = ⊥

-- a node has given up these, and these are the newest reports
pub record Represents (players places me : ℕ) (others : Others) (gone : ℕ → Bool)
    (newest : ℕ → Option (Holder TicCmd)) : Type 0 where
  pub four : (length others.gone ≡ 4) × (length others.newest ≡ 4)
  pub given_up : (player : ℕ) → player < players → has others.gone player ≡ gone player
  pub told : (player : ℕ) → player < players
      → AreTold players places me player (newest_of others player) (newest player)

-- what a node has of a player, and what the others told who are not given up, are prefixes of what the player
-- made; and nobody told of more than so many commands beyond those that the node has
pub record AreWithin (players places me player : ℕ) (holder : Holder TicCmd)
    (newest : ℕ → Option (Holder TicCmd)) (made : List TicCmd) : Type 0 where
  pub own : IsPrefixOf (holder.held player) made
  pub told : (other : ℕ) (report : Holder TicCmd) → other < players → other ≢ me → holder.gone other ≡ false
      → newest other ≡ Some report → IsPrefixOf (report.held player) made
      × (length (report.held player) ≤ length (holder.held player) + places)
