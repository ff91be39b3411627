-- How a game ends for a player, whom it gives up under a policy, and how it leaves.
use Rattle.std.specs.{Prelude.{ℕ, ◌-◌, ◌*◌, ◌==◌, ◌&&◌, ◌||◌, Bool, false, nat_le, if◌then◌else◌, Option, Some, None}, List.list_all, Option.option_map, Option.option_or}
use Rattle.dn_machine.specs.declared.answers.Phase.{Phase}
use Rattle.dn_link.specs.Linked.{Linked, needs_nothing}
use Rattle.dn_session.specs.{Cookies.is_one, Lead.highest, Lead.is_given_up, Lead.is_late, Lead.is_open, Lead.is_there, Lead.lead, Players.four, Players.has_gone, Players.is_abandoned, declared.{ending.Ending.Ending, ending.Progress.Progress, lead.View.View, terms.Policy.Policy}}
use Rattle.dn_machine.specs.declared.answers.Cause.TheVariants as cause
use Rattle.dn_machine.specs.declared.answers.Phase.TheVariants as phase
use Rattle.dn_session.specs.declared.ending.Ending.TheVariants as ending
use Rattle.dn_session.specs.declared.ending.Progress.TheVariants as progress
use Rattle.dn_session.specs.declared.terms.Policy.TheVariants as policy

-- for how long somebody is awaited before the session gives a player up by itself. Under any other policy so long that
-- nobody waits: silence for half of it is 24 days
abbrev pub patience : Policy → ℕ
patience (policy.GiveUp seconds) = seconds * 1000
patience policy = 4294967295

-- its player may give up others from three seconds on: one that leads any other, and one that follows the one that leads
abbrev pub is_leading : View → ℕ → Bool
is_leading view player = elim (lead view) [
  | None ↦ false
  | Some leader ↦ (leader == view.me) || (leader == player)
]

abbrev pub may_give_up : View → ℕ → Bool
may_give_up view player =
    is_open view view.me && (is_there view player && (nat_le 3000 view.stalled && is_leading view player))

-- under a policy by which the game ends: the highest of those for whom it waits too long is lost
abbrev pub lost_under : Policy → View → Option Ending
lost_under (policy.End seconds) view = option_map ending.Lost (highest (is_late (seconds * 1000) view))
lost_under policy view = None

-- its own demo is full, or it found that another's world differs
abbrev pub own_ending : Phase → Option Ending
own_ending (phase.Ended cause.Full) = Some ending.Full
own_ending (phase.Ended (cause.Inconsistent player was should)) = Some (ending.Inconsistent player)
own_ending phase = None

-- how the game of a player ends, if it does: the first of these that is so. It is left alone where it has given up
-- somebody, and nobody remains
abbrev pub ending_of : Policy → View → Linked → Option Ending
ending_of policy view link =
    option_or (own_ending link.node.phase)
    (if is_given_up view then Some ending.GivenUp else
    (if has_gone link && is_abandoned link then Some ending.Alone else lost_under policy view))

-- who is given up or alone has nobody to tell; any other says that it leaves, and leaves then
abbrev pub ended_by : Ending → ℕ → Progress
ended_by ending.GivenUp now = progress.Over ending.GivenUp
ended_by ending.Alone now = progress.Over ending.Alone
ended_by ending now = progress.Leaving ending now None

-- the game ends since this player is lost
abbrev pub has_lost : Ending → ℕ → Bool
has_lost (ending.Lost lost) player = player == lost
has_lost end player = false

-- nobody needs it any more; who is lost is not waited for
abbrev pub is_unneeded : Ending → Linked → Bool
is_unneeded end link = list_all (λ player. has_lost end player || needs_nothing link player) four

-- since when that is so, if it is
abbrev pub free_since : Bool → Option ℕ → ℕ → Option ℕ
free_since is_unneeded (Some free) now = Some free
free_since is_unneeded None now = if is_unneeded then Some now else None

-- who leaves goes on for two seconds once nobody needs it, and for ten at most
abbrev pub waits : Bool → Ending → ℕ → Option ℕ → ℕ → Progress
waits is_unneeded ending since free now =
    if is_one (λ free. nat_le 2000 (now - free)) (free_since is_unneeded free now) || nat_le 10000 (now - since)
    then progress.Over ending
    else progress.Leaving ending since (free_since is_unneeded free now)
