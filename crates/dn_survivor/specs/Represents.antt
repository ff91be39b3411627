-- When a survivor represents a node of `dn_remain`, and what it decides can be taken.
use Rattle.std.specs.Prelude.{◌≡◌, ◌<◌, ◌≤◌, ◌+◌, ℕ, true, false, List, None, length}
use Rattle.std.specs.List.{list_any}
use Rattle.dn_tic.specs.declared.command.TicCmd.{TicCmd}
use Rattle.dn_machine.specs.Limits.{Limits}
use Rattle.dn_machine.specs.Node.{Node, ends_of, ran}
use Rattle.dn_lockstep.specs.Represents as lockstep
use Rattle.dn_lockstep.specs.Tables.{is_stop}
use Rattle.dn_lockstep.specs.Settling.{is_no_peer, is_other_end}
use Rattle.dn_survivor.specs.OfOthers as others
use Rattle.dn_survivor.specs.OfOthers.{AreWithin}
use Rattle.dn_remain.specs.Promise.{commands_decided}
use Rattle.dn_remain.specs.Wary.{Wary, report_of}
use Rattle.dn_remain.specs.declared.events.GivenUp as remain_given
use Rattle.dn_remain.specs.declared.events.Reported as remain_reported
use Rattle.dn_survivor.specs.declared.answers.GivenUp.{GivenUp}
use Rattle.dn_survivor.specs.declared.answers.Reported.{Reported}
use Rattle.dn_survivor.specs.Surviving.{Surviving}

-- its lockstep represents the node; what it keeps represents whom the node has given up, and its newest
-- reports; only other players of the game are given up; and the game is one of four at most, of each of whom a
-- report has room for what is kept
pub record Represents (limits : Limits) (me : ℕ) (now : Surviving) (wary : Wary) : Type 0 where
  pub player : me < limits.players
  pub few : limits.players ≤ 4
  pub kept : limits.places ≤ 24
  pub node : lockstep.Represents limits me now.lockstep wary.node
  pub others : others.Represents limits.players limits.places me now.others wary.gone wary.newest
  pub peers : (player : ℕ) → wary.gone player ≡ true → is_no_peer limits.players me player ≡ false

-- what is decided of a player can be taken
pub record CanTake (limits : Limits) (me : ℕ) (wary : Wary) (player : ℕ) : Type 0 where
  pub made : List TicCmd
  pub within : AreWithin limits.players limits.places me player (report_of wary) wary.newest made
  -- there is room for the commands
  pub room : length (commands_decided limits me wary player) ≤ ran wary.node + limits.places
  -- none of them would end a demo
  pub fair : list_any is_stop (commands_decided limits me wary player) ≡ false
  -- and no end that is known stands against this one
  pub same_end : is_other_end (ran wary.node) (ends_of wary.node player)
      (length (commands_decided limits me wary player)) ≡ false

-- and of all players who are given up
abbrev pub CanTakeAll : Limits → ℕ → Wary → Type 0
CanTakeAll limits me wary = (player : ℕ) → player < limits.players → wary.gone player ≡ true
    → CanTake limits me wary player

-- the answers of the node, as a survivor gives them
abbrev pub given_up_is : remain_given.GivenUp → GivenUp
given_up_is remain_given.GivenUp.Waiting = GivenUp.Waiting
given_up_is remain_given.GivenUp.Decided = GivenUp.Decided
given_up_is remain_given.GivenUp.Already = GivenUp.Already
given_up_is remain_given.GivenUp.NotAPlayer = GivenUp.NotAPlayer
given_up_is remain_given.GivenUp.NotPlaying = GivenUp.NotPlaying

abbrev pub reported_is : remain_reported.Reported → Reported
reported_is remain_reported.Reported.Kept = Reported.Kept
reported_is remain_reported.Reported.Decided = Reported.Decided
reported_is remain_reported.Reported.Excluded = Reported.Excluded
reported_is remain_reported.Reported.Stale = Reported.Stale
reported_is (remain_reported.Reported.Dropped number) = Reported.Dropped number

-- a node that has given up nobody and heard no report
abbrev pub nobody_gone : Node → Wary
nobody_gone node = record { node = node; gone = λ player. false; newest = λ player. None }
