-- What a survivor gives to another: its report, and of third players the commands that it hands on.
use Rattle.std.specs.Prelude.{ℕ, ◌-◌, min, not, ◌||◌, ◌==◌, if◌then◌else◌, List, Option, Some, None, ◌≡◌, ◌<◌, Bool, true, false}
use Rattle.std.specs.List.{filter_map, range_with_len}
use Rattle.dn_tic.specs.declared.command.TicCmd.{TicCmd}
use Rattle.dn_lockstep.specs.Contents.{Contents}
use Rattle.dn_lockstep.specs.Tables.{count_of}
use Rattle.dn_lockstep.specs.Settling.{is_no_peer}
use Rattle.dn_lockstep.specs.Told.{command_told}
use Rattle.dn_survivor.specs.declared.report.Report.{Report}
use Rattle.dn_survivor.specs.declared.report.Tail.{Tail}
use Rattle.dn_survivor.specs.Surviving.{Surviving, has_given_up, has_gone, has_left}
use Rattle.dn_survivor.specs.OfOthers.{has, newest_of}

-- the last commands of a player: of the last twenty-four, for which a report has room, those that the lockstep
-- keeps
abbrev pub last_in : Contents → ℕ → List TicCmd
last_in n player =
    filter_map (command_told n player)
    (range_with_len (count_of n.rings player - 24) (min (count_of n.rings player) 24))

-- what is told of a player
abbrev pub tail_in : Contents → ℕ → Tail
tail_in n player =
    record { player = player; count = count_of n.rings player; commands = record { items = last_in n player } }

-- it is told of each player but the node's own, and the receiver
abbrev pub told_in : Contents → ℕ → ℕ → Option Tail
told_in n to player = if player == n.me || player == to then None else Some (tail_in n player)

abbrev pub tails_in : Contents → ℕ → List Tail
tails_in n to = filter_map (told_in n to) (range_with_len 0 n.players)

-- all that it has
abbrev pub report_in : Surviving → ℕ → Report
report_in now to =
    record {
      gone = now.others.gone;
      left = has_left now;
      told = record { items = tails_in now.lockstep to };
    }

-- none to a number that is no other player's, none to one whom it has given up, and none while it has given up
-- nobody and has not left
abbrev pub report_for : Surviving → ℕ → Option Report
report_for now to =
    if is_no_peer now.lockstep.players now.lockstep.me to
    || (has_given_up now to || not (has_left now || has_gone now))
    then None
    else Some (report_in now to)

-- When a survivor may hand on to another the commands that it has of third players.

-- whom another has given up, as far as its newest report tells
abbrev pub told_gone : Option Report → ℕ → Bool
told_gone None player = false
told_gone (Some report) player = has report.gone player

-- it has not given up the other, nor anybody whom it does not know the other to have given up
pub record MayRelay (now : Surviving) (to : ℕ) : Type 0 where
  pub stays : has_given_up now to ≡ false
  pub within : (player : ℕ) → player < 4 → has_given_up now player ≡ true → told_gone (newest_of now.others to) player ≡ true
