-- A node that may give up players: what `dn_remain::vanish` sees of it, and what it does.
use Rattle.std.specs.Prelude.{ℕ, Bool, true, false, not, ◌||◌, nat_lt, ◌==◌, if◌then◌else◌, Option, Some, None, zero, suc, List, [], ◌∷◌, ◌++◌, nat_le, get_or}
use Rattle.std.specs.Option.{option_map, is_some}
use Rattle.dn_tic.specs.declared.command.TicCmd.{TicCmd}
use Rattle.dn_tic.specs.declared.command.Move.{Move}
use Rattle.dn_machine.specs.declared.answers.Phase.{Phase}
use Rattle.dn_machine.specs.declared.answers.Phase.TheVariants.{Listening, Gathering, Playing, Ended}
use Rattle.dn_machine.specs.Drops as drops
use Rattle.dn_machine.specs.Limits.{Limits, row_of}
use Rattle.dn_machine.specs.Node.{Node, put, lowest, has_left, blank, ends_of, got, ran}
use Rattle.dn_machine.specs.Hearing.{on_gathering}
use Rattle.dn_machine.specs.Game.{Game}
use Rattle.dn_machine.specs.Running.{is_over}
use Rattle.dn_remain.specs.Vanished.Node as counted
use Rattle.dn_remain.specs.Vanished.Calls.{is_heard, can_decide, is_newer}
use Rattle.dn_remain.specs.Vanished.Commands.{Holder, fresh_holder, seen, on_decision}
use Rattle.dn_remain.specs.declared.events.GivenUp.{GivenUp}
use Rattle.dn_remain.specs.declared.events.Reported.{Reported}

-- What `dn_remain::vanish` sees of a node of the machine.

-- an end counts once all commands before it are there
abbrev pub reached : ℕ → Option ℕ → Option ℕ
reached got None = None
reached got (Some end) = if nat_le end got then Some end else None

abbrev pub end_seen : Node → ℕ → Option ℕ
end_seen node player = reached (got node player) (ends_of node player)

-- whom the rows lack, of the tics up to this one
unfoldable pub rows_to : (ℕ → Option ℕ) → ℕ → List (ℕ → Bool)
rows_to ends zero = []
rows_to ends (suc tic) = rows_to ends tic ++ (λ player. is_over (ends player) tic) ∷ []

-- what is seen of a node that has given up these
abbrev pub holder_of : Node → (ℕ → Bool) → Holder TicCmd
holder_of node gone =
    record {
      held = node.held;
      ends = end_seen node;
      gone = gone;
      left = has_left node;
      rows = rows_to (end_seen node) (ran node);
    }

-- the nodes of a game, as they are seen, by whom each has given up
abbrev pub now_of : Game → (ℕ → ℕ → Bool) → ℕ → Holder TicCmd
now_of game gone node = holder_of (game.nodes node) (gone node)

-- the row of what is seen for a tic: the moves of the players whose ends are not over
abbrev pub row_had : Limits → Holder TicCmd → ℕ → List (Option Move)
row_had limits holder tic =
    row_of limits.players
    (λ player. if is_over (holder.ends player) tic then None else Some (get_or (holder.held player) tic blank))

-- A node that may give up players: what it does when it is told to, and when a report comes.

-- what a node tells of itself in a report: all that it has when it tells it. A decision looks at its set, at
-- whether it has left, and at its commands
abbrev pub Report : Type 0
Report = Holder TicCmd

-- a node, whom it has given up, and the newest report of each player
pub record Wary : Type 0 where
  pub node : Node
  pub gone : ℕ → Bool
  pub newest : ℕ → Option Report

-- what it has
abbrev pub report_of : Wary → Report
report_of wary = holder_of wary.node wary.gone

-- what is counted of the newest reports
abbrev pub newest_seen : Wary → ℕ → Option counted.Node
newest_seen wary player = option_map seen (wary.newest player)

-- it can decide by the newest reports that came: each player whom it has not given up has told it of the same
-- players, or has left and given up no others
abbrev pub can_settle : Limits → ℕ → Wary → Bool
can_settle limits me wary = can_decide limits.players me (seen (report_of wary)) (newest_seen wary)

-- a report that never came tells nothing
abbrev pub or_fresh : Option Report → Report
or_fresh None = fresh_holder
or_fresh (Some report) = report

-- the commands and the ends that were decided are taken, of those whom it has given up, and no more is wanted
-- of them
abbrev pub settled : Node → (ℕ → Bool) → Report → Node
settled node gone decided =
    record node {
      held = decided.held;
      peers = λ player. if gone player
          then record (node.peers player) { end = decided.ends player; want = false }
          else node.peers player;
    }

-- it decides, if it can
abbrev pub after_news : Limits → ℕ → Wary → Wary
after_news limits me wary =
    if can_settle limits me wary
    then record wary {
      node = settled wary.node wary.gone
          (on_decision limits.players me (report_of wary) (λ player. or_fresh (wary.newest player)));
    }
    else wary

-- who gathers needs to hear no more of a player that is given up
abbrev pub noted_gone : Limits → Node → ℕ → Phase → Node
noted_gone limits node player Gathering = (on_gathering limits node player).0
noted_gone limits node player Listening = node
noted_gone limits node player Playing = node
noted_gone limits node player (Ended cause) = node

-- the node with one player more given up
abbrev pub with_gone : Limits → Wary → ℕ → Wary
with_gone limits wary player =
    record wary {
      node = noted_gone limits wary.node player wary.node.phase;
      gone = put wary.gone player true;
    }

-- it takes part in a game: it has the settings, and has not ended
abbrev pub is_in_game : Phase → Bool
is_in_game Listening = false
is_in_game Gathering = true
is_in_game Playing = true
is_in_game (Ended cause) = false

-- node `me` is told to give up a player: another of the game, while it is in a game itself, and for good. It
-- decides if the reports are there, and else when they come
unfoldable pub on_give_up : Limits → ℕ → Wary → ℕ → Wary × GivenUp
on_give_up limits me wary player =
    if not (nat_lt player limits.players) || player == me
    then (wary, GivenUp.NotAPlayer)
    else (
    if not (is_in_game wary.node.phase)
    then (wary, GivenUp.NotPlaying)
    else (
    if wary.gone player
    then (wary, GivenUp.Already)
    else (
      after_news limits me (with_gone limits wary player),
      if can_settle limits me (with_gone limits wary player) then GivenUp.Decided else GivenUp.Waiting,
    )))

-- the node with this report as the newest of a player
abbrev pub with_report : Wary → ℕ → Report → Wary
with_report wary from report = record wary { newest = put wary.newest from (Some report) }

-- node `me` hears a report: none of one whom it has given up, or who has given it up, and none that is older
-- than the newest of its sender. It decides if that was the last that it lacked
unfoldable pub on_report : Limits → ℕ → Wary → ℕ → Report → Wary × Reported
on_report limits me wary from report =
    if not (is_in_game wary.node.phase)
    then (wary, Reported.Dropped drops.not_playing)
    else (
    if wary.gone from
    then (wary, Reported.Dropped drops.given_up)
    else (
    if report.gone me
    then (wary, Reported.Excluded)
    else (
    if not (is_newer limits.players (newest_seen wary from) (seen report))
    then (wary, Reported.Stale)
    else (
      after_news limits me (with_report wary from report),
      if can_settle limits me (with_report wary from report) then Reported.Decided else Reported.Kept,
    ))))

-- it has given up somebody
abbrev pub has_gone : Limits → Wary → Bool
has_gone limits wary = is_some (lowest limits.players wary.gone)

-- the report that node `me` gives to another: none to one whom it has given up, and none while it has given up
-- nobody and has not left
abbrev pub report_to : Limits → ℕ → Wary → ℕ → Option Report
report_to limits me wary to =
    if me == to || (wary.gone to || not (has_left wary.node || has_gone limits wary))
    then None
    else Some (report_of wary)

-- whose report is missing, of several the lowest's
abbrev pub undecided : Limits → ℕ → Wary → Option ℕ
undecided limits me wary =
    lowest limits.players
    (λ player. not (is_heard limits.players me (seen (report_of wary)) (newest_seen wary) player))
