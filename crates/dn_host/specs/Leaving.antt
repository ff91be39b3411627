-- When a session's player leaves, and how its game ends.
use Rattle.std.specs.{Prelude.◌≡◌, Prelude.ℕ, Prelude.◌==◌, Prelude.◌||◌, Prelude.not, Prelude.nat_le, Prelude.if◌then◌else◌, Prelude.Bool, Prelude.true, Prelude.false, Prelude.position, Prelude.Option, Prelude.Some, Prelude.None, Prelude.is_some, Prelude.unwrap_or, List.list_all, Option.option_map, Option.option_or}
use Rattle.dn_link.specs.{Linked.Linked, Linked.end_known, Linked.is_peer, Linking.linked}
use Rattle.dn_measure.specs.declared.end.End.{End}
use Rattle.dn_measure.specs.declared.end.End.TheVariants as end
use Rattle.dn_session.specs.{declared.ending.Ending.Ending, declared.part.Part.Part, Players.four, Playing.is_giving, Playing.playing, Session.link_in, Session.Meeting, Session.QuitsPart}
use Rattle.dn_session.specs.declared.ending.Ending.TheVariants as ending
use Rattle.dn_host.specs.{declared.game.Game.Game, Playing.millis}

-- where all players run this program nobody is given up, and the last two do not occur
abbrev pub end_of : Ending → End
end_of ending.Left = end.Left
end_of ending.Full = end.Full
end_of (ending.Inconsistent player) = end.Inconsistent player
end_of (ending.Lost player) = end.Lost player
end_of ending.GivenUp = end.OthersLeft
end_of ending.Alone = end.OthersLeft

-- for which cause a player left, if it said so
abbrev pub cause_of : Linked → ℕ → Option ℕ
cause_of link player = if is_peer link.node player then (link.peers player).left else None

-- no other player has that number, or it has left: it said so, or its last command is known
abbrev pub is_gone : Linked → ℕ → Bool
is_gone link player =
    not (is_peer link.node player) || (is_some (end_known link.node player) || is_some (cause_of link player))

-- all others have left
abbrev pub have_all_left : Linked → Bool
have_all_left link = list_all (is_gone link) four

-- this cause was told
abbrev pub is_told : ℕ → Option ℕ → Bool
is_told cause None = false
is_told cause (Some told) = told == cause

-- the lowest player who left for this cause
abbrev pub left_for : ℕ → Linked → Option ℕ
left_for cause link = position (λ player. is_told cause (cause_of link player)) four

-- first counts who found a world to be another, which is the cause 3, then whose demo was full, the cause 2
abbrev pub others_end : Linked → End
others_end link = unwrap_or (option_or (option_map end.InconsistentAt (left_for 3 link))
    (option_map end.FullAt (left_for 2 link))) end.OthersLeft

abbrev pub is_playing : Option Part → Bool
is_playing None = false
is_playing (Some part) = is_giving (playing part).progress

-- how a game that is played until some time ends for its player, if that is to leave now
abbrev pub end_by : Option Linked → (until now : ℕ) → Option End
end_by None until now = None
end_by (Some link) until now =
    if nat_le until now then Some end.Left else (if have_all_left link then Some (others_end link) else None)

-- who has left has left; who plays leaves now, if there is a reason, and else goes on; who plays no more has begun to
-- leave
abbrev pub LeavesFor : (left : Option ℕ) → (plays : Bool) → (why : Option End) → (now : ℕ) → Game → Meeting → Game → Meeting
    → Type 0
LeavesFor None true (Some why) now old from new to = (new ≡ record old { left = Some now; end = Some why })
    × QuitsPart (millis now) from.part to.part × (to ≡ record from { part = to.part })
LeavesFor None false why now old from new to = (new ≡ record old { left = Some now }) × (to ≡ from)
LeavesFor left plays why now old from new to = (new ≡ old) × (to ≡ from)

abbrev pub Leaves : (now : ℕ) → Game → Meeting → Game → Meeting → Type 0
Leaves now old from new to = LeavesFor old.left (is_playing from.part)
    (end_by (option_map linked (link_in from.part)) old.until now) now old from new to
