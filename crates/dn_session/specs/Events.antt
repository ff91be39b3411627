-- What has happened in a session, told in order; how it is over; and when it wants to be called.
use Rattle.std.specs.{Prelude.{ℕ, ◌+◌, ◌==◌, ◌&&◌, Bool, not, true, false, min, if◌then◌else◌, List, slice_index_or, slice_set, replicate, Option, Some, None, is_some}, Option.{option_map, option_or}}
use Rattle.dn_link.specs.{Linked.Linked, Linked.is_peer, Linking.linked}
use Rattle.dn_session.specs.{Joining.acts, Joining.has_come, Joining.joining, Players.standing_beside, Playing.Playing, Playing.ended_as, Playing.playing, Ticks.next, declared.{ending.Over.Over, event.Announced.Announced, event.Event.Event, greeting.Seating.Seating, joiner.Stage.Stage, lead.Standing.Standing}, declared.{lead.Standing.TheVariants.Closed, lead.Standing.TheVariants.Gone, lead.Standing.TheVariants.Open, part.Part.Part, side.Side.Side}}
use Rattle.dn_session.specs.declared.ending.Over.TheVariants as over
use Rattle.dn_session.specs.declared.ending.Progress.TheVariants as progress
use Rattle.dn_session.specs.declared.event.Event.TheVariants as event
use Rattle.dn_session.specs.declared.joiner.Stage.TheVariants as stage
use Rattle.dn_session.specs.declared.side.Side.TheVariants as side

-- How it is over: in its lobby, as a joiner that was refused or read a hint; and in its game, as that ended.

abbrev pub over_by : Stage → Option Over
over_by (stage.Refused refusal) = Some (over.Refused refusal)
over_by (stage.Hinted hint) = Some (over.Hinted hint)
over_by stage = None

abbrev pub over_side : Side → Option Over
over_side (side.Host host) = None
over_side (side.Joiner joiner) = over_by (joining joiner).stage

abbrev pub over_part : Option Part → Option Over
over_part None = None
over_part (Some part) = option_map over.Ended (ended_as (playing part).progress)

abbrev pub over_in : Side → Option Part → Option Over
over_in side part = option_or (over_side side) (over_part part)

-- What has happened, and was not told.

-- the seat of a joiner
abbrev pub seat_by : Stage → Option Seating → Option ℕ
seat_by stage.Seated (Some seating) = Some seating.seat
seat_by stage.Playing (Some seating) = Some seating.seat
seat_by stage seating = None

abbrev pub seat_in : Side → Option ℕ
seat_in (side.Host host) = None
seat_in (side.Joiner joiner) = seat_by (joining joiner).stage (joining joiner).seating

-- it got a seat, another one, or lost the one that it had
abbrev pub seat_event : (told seat : Option ℕ) → Option Event
seat_event None None = None
seat_event (Some told) None = Some event.Unseated
seat_event None (Some seat) = Some (event.Seated seat)
seat_event (Some told) (Some seat) = if told == seat then None else Some (event.Seated seat)

abbrev pub began_event : Bool → Option Part → Option Event
began_event began part = if is_some part && not began then Some event.Began else None

-- a player left, or was given up
abbrev pub news_of : (told standing : Standing) → ℕ → Option Event
news_of Open Closed player = Some (event.Left player)
news_of Open Gone player = Some (event.GivenUp player)
news_of Closed Gone player = Some (event.GivenUp player)
news_of told standing player = None

abbrev pub news_in : List Standing → Linked → ℕ → Option Event
news_in told link player =
    if is_peer link.node player
    then news_of (slice_index_or told player Open) (standing_beside link player) player
    else None

-- of the lowest of whom there is any
abbrev pub first_news : List Standing → Linked → Option Event
first_news told link =
    option_or (news_in told link 0) (option_or (news_in told link 1)
    (option_or (news_in told link 2) (news_in told link 3)))

abbrev pub player_event : List Standing → Option Part → Option Event
player_event told None = None
player_event told (Some part) = first_news told (linked (playing part).link)

abbrev pub over_event : Bool → Option Over → Option Event
over_event told None = None
over_event told (Some over) = if told then None else Some (event.Over over)

-- what has happened first: to its seat, then the beginning, then what became of others, and then its end
abbrev pub next_event : Announced → Side → Option Part → Option Event
next_event told side part =
    option_or (seat_event told.seat (seat_in side)) (option_or (began_event told.began part)
    (option_or (player_event told.standings part) (over_event told.over (over_in side part))))

-- nothing was told
abbrev pub none_announced : Announced
none_announced = record { seat = None; began = false; standings = replicate 4 Open; over = false }

-- what is told is not told again
abbrev pub announced_after : Option Event → Announced → Announced
announced_after None told = told
announced_after (Some (event.Seated seat)) told = record told { seat = Some seat }
announced_after (Some event.Unseated) told = record told { seat = None }
announced_after (Some event.Began) told = record told { began = true }
announced_after (Some (event.Left player)) told = record told { standings = slice_set told.standings player Closed }
announced_after (Some (event.GivenUp player)) told = record told { standings = slice_set told.standings player Gone }
announced_after (Some (event.Over over)) told = record told { over = true }

-- When it wants to be called.

-- a part at its next tick or at the datagrams half a tick later, and once a second while it plays
abbrev pub part_due : Playing → Option ℕ
part_due p = elim p.progress [
  | progress.Playing ↦ Some (min (next p.ticks) (p.watch.looked + 1000))
  | progress.Leaving end since free ↦ Some (next p.ticks)
  | progress.Over end ↦ None
]

abbrev pub wants_in : ℕ → Option Part → Bool
wants_in now None = false
wants_in now (Some part) = has_come now (part_due (playing part))

-- a joiner where it acts
abbrev pub acts_in : ℕ → Side → Bool
acts_in now (side.Host host) = false
acts_in now (side.Joiner joiner) = acts now (joining joiner)
