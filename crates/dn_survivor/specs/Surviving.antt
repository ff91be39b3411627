-- What a survivor holds: its lockstep, and what it keeps of the others.
use Rattle.std.specs.Prelude.{ℕ, Bool, ◌&&◌, not, Option}
use Rattle.std.specs.Option.{is_some}
use Rattle.dn_machine.specs.Node.{is_ended, lowest}
use Rattle.dn_lockstep.specs.Contents.{Contents, contents, end_in}
use Rattle.dn_lockstep.specs.Told.{got}
use Rattle.dn_survivor.specs.OfOthers.{has}
use Rattle.dn_survivor.specs.declared.others.Others.{Others}
use Rattle.dn_remain.specs.Wary.{reached}
use Rattle.dn_survivor.specs.declared.survivor.Survivor.{Survivor}

pub record Surviving : Type 0 where
  pub lockstep : Contents
  pub others : Others

abbrev pub surviving : Survivor → Surviving
surviving survivor = record { lockstep = contents survivor.lockstep; others = survivor.others }

-- it has given up this player
abbrev pub has_given_up : Surviving → ℕ → Bool
has_given_up now player = has now.others.gone player

-- it has given up somebody
abbrev pub has_gone : Surviving → Bool
has_gone now = is_some (lowest now.lockstep.players (has_given_up now))

-- its player has left: the lockstep has played and ended
abbrev pub has_left : Surviving → Bool
has_left now = now.lockstep.played && is_ended now.lockstep.phase

-- a player's end, as its lockstep knows it; it counts once all commands before it are there
abbrev pub end_settled : Surviving → ℕ → Option ℕ
end_settled now player = reached (got now.lockstep player) (end_in now.lockstep player)

-- the end of this player is settled
abbrev pub has_settled : Surviving → ℕ → Bool
has_settled now player = is_some (end_settled now player)

-- it has given up this player, and the end is not settled
abbrev pub is_unsettled : Surviving → ℕ → Bool
is_unsettled now player = has_given_up now player && not (has_settled now player)
