-- What a lockstep does with the end of a player who is given up, as it was agreed, and how it waits no longer
-- for one who is given up before the start.
use Rattle.std.specs.Prelude.{ℕ, ◌+◌, ◌-◌, Bool, true, false, not, ◌&&◌, ◌||◌, ◌==◌, List, ◌++◌, length, take, drop, nat_lt, nat_le, if◌then◌else◌, Option, Some, None}
use Rattle.std.specs.List.{list_any}
use Rattle.dn_tic.specs.declared.command.TicCmd.{TicCmd}
use Rattle.dn_machine.specs.declared.answers.Phase.{Phase}
use Rattle.dn_machine.specs.declared.answers.Phase.TheVariants.{Listening, Gathering, Playing, Ended}
use Rattle.dn_machine.specs.declared.answers.Heard.{Heard}
use Rattle.dn_machine.specs.Limits.{Limits}
use Rattle.dn_machine.specs.Node as machine
use Rattle.dn_machine.specs.Node.{ends_of, got, ran, is_ended}
use Rattle.dn_machine.specs.Hearing.{on_gathering}
use Rattle.dn_machine.specs.Settling.{settled_one}
use Rattle.dn_lockstep.specs.declared.lockstep.settling.Settled.{Settled}
use Rattle.dn_lockstep.specs.Phases.{is_listening}
use Rattle.dn_lockstep.specs.Tables.{is_stop}

-- no other player of the game has this number
abbrev pub is_no_peer : ℕ → ℕ → ℕ → Bool
is_no_peer players me player = not (nat_lt player players) || player == me

-- commands are missing up to the end, and some of them are not among these, which begin at this tic
abbrev pub has_gap : ℕ → ℕ → ℕ → List TicCmd → Bool
has_gap got end first commands = nat_lt got end && (nat_lt got first || nat_lt (first + length commands) end)

-- an end that is known stands against this one: it is earlier, or all tics before it were run, and this is
-- another. A later one, as an EXIT packet past a gap has told it, gives way: nobody who remains has all
-- commands before it
abbrev pub is_other_end : ℕ → Option ℕ → ℕ → Bool
is_other_end ran None end = false
is_other_end ran (Some known) end = nat_lt known end || (nat_le known ran && not (known == end))

-- those that are missing from a tic on, of commands that begin at this tic, up to the end
abbrev pub missing : ℕ → ℕ → ℕ → List TicCmd → List TicCmd
missing got end first commands = take (end - got) (drop (got - first) commands)

-- why an end is refused, if it is: the first reason counts
abbrev pub refused_end : Limits → ℕ → machine.Node → ℕ → ℕ → ℕ → List TicCmd → Option Settled
refused_end limits me m player end first commands =
    if is_no_peer limits.players me player then Some Settled.NotAPlayer else (
    if is_listening m.phase || is_ended m.phase then Some Settled.NotPlaying else (
    if has_gap (got m player) end first commands then Some Settled.Gap else (
    if nat_lt end (got m player) then Some Settled.Behind else (
    if nat_lt (ran m + limits.places) end then Some Settled.Overrun else (
    if list_any is_stop (missing (got m player) end first commands) then Some Settled.Stopper else (
    if is_other_end (ran m) (ends_of m player) end then Some Settled.OtherEnd else None))))))

-- what is refused changes nothing; else the missing commands are put behind those that are there
abbrev pub settled_unless : Option Settled → machine.Node → ℕ → ℕ → ℕ → List TicCmd → machine.Node × Settled
settled_unless (Some reason) m player end first commands = (m, reason)
settled_unless None m player end first commands = (
  settled_one m player (m.held player ++ missing (got m player) end first commands),
  Settled.Taken (end - got m player),
)

-- node `me` is told that a player's commands end here, and some of the last of them
unfoldable pub on_settle : Limits → ℕ → machine.Node → ℕ → ℕ → ℕ → List TicCmd → machine.Node × Settled
on_settle limits me m player end first commands =
    settled_unless (refused_end limits me m player end first commands) m player end first commands

-- the game starts
abbrev pub is_start : Heard → Bool
is_start Heard.Started = true
is_start _ = false

-- by the phase: only who gathers waits to hear players
abbrev pub on_excuse_in : Limits → machine.Node → ℕ → Phase → machine.Node × Bool
on_excuse_in limits m player Gathering =
    let after = on_gathering limits m player in (after.0, is_start after.1)
on_excuse_in limits m player Listening = (m, false)
on_excuse_in limits m player Playing = (m, false)
on_excuse_in limits m player (Ended cause) = (m, false)

-- node `me` is told to wait no longer to hear another player before the start, and answers whether it starts
unfoldable pub on_excuse : Limits → ℕ → machine.Node → ℕ → machine.Node × Bool
on_excuse limits me m player =
    if is_no_peer limits.players me player then (m, false) else on_excuse_in limits m player m.phase
