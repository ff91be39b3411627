-- How many datagrams go to the peers, by the round trips: where the player's own line is full, most are longer.
use Rattle.std.specs.Prelude.{◌≡◌, ℕ, ◌+◌, ◌-◌, ◌*◌, ◌/◌, ◌%◌, ◌==◌, ◌&&◌, ◌||◌, Bool, true, false, not, if◌then◌else◌, nat_lt, nat_le, min, max, List, [], ◌∷◌, length, take, get_or, slice_set}
use Rattle.dn_link.specs.{declared.trip.Trip.Trip, declared.level.Level.Level, declared.congestion.Congestion.Congestion}

-- The round trips of a peer.

-- at so many of the last ticks, the newest first, this many commands had been made
abbrev pub ticks_since : ℕ → List ℕ → ℕ
ticks_since count [] = 0
ticks_since count (made ∷ earlier) = if nat_le count made then 1 + ticks_since count earlier else 0

-- so many ticks ago the newest of these commands was made: one at least
abbrev pub round_trip : ℕ → List ℕ → ℕ
round_trip count made = max 1 (ticks_since count made)

-- the shortest of them
abbrev pub least : List ℕ → ℕ
least [] = 32
least (ticks ∷ trips) = min ticks (least trips)

-- the shortest but one of them
abbrev pub second_least : List ℕ → ℕ
second_least [] = 32
second_least (ticks ∷ trips) = max (least trips) (min ticks (second_least trips))

-- that of an empty line, in 72nds of a tick, which one of ten is no longer than: up by one for a longer round trip, and
-- down by nine for a shorter one
abbrev pub moved_base : ℕ → ℕ → ℕ
moved_base ticks base =
    if nat_lt (base / 72) ticks then min (base + 1) 2304 else (if nat_lt ticks (base / 72) then base - 9 else base)

-- of the first eight it is the shortest but one: while a player stands still no ticks count, so the round trip that
-- lasts meanwhile seems too short
abbrev pub base_after : ℕ → Trip → ℕ
base_after ticks trip =
    if nat_lt (length trip.last.items) 8 then 72 * second_least (ticks ∷ trip.last.items) else moved_base ticks trip.base

-- a round trip; the last eight are known
abbrev pub timed : ℕ → Trip → Trip
timed ticks trip =
    record trip { last = record { items = ticks ∷ take 7 trip.last.items }; base = base_after ticks trip }

-- at a tick a peer has reported so many commands of the player
abbrev pub acknowledged : ℕ → List ℕ → Trip → Trip
acknowledged count made trip =
    if nat_le count trip.told then trip else record (timed (round_trip count made) trip) { told = count }

-- eight are known
abbrev pub is_known : Trip → Bool
is_known trip = length trip.last.items == 8

-- each of these is so many ticks longer than on an empty line, or more
abbrev pub is_above : ℕ → Trip → Bool
is_above ticks trip = nat_le (trip.base / 72 + ticks) (least trip.last.items)

-- that on an empty line is below ten ticks
abbrev pub is_short : Trip → Bool
is_short trip = nat_lt (trip.base / 72) 10

abbrev pub new_trip : Trip
new_trip = record { told = 0; last = record { items = [] }; base = 0 }

abbrev pub trip_at : List Trip → ℕ → Trip
trip_at trips player = get_or trips player new_trip

-- a player plays, and eight of its round trips are known
abbrev pub knows : (ℕ → Bool) → List Trip → ℕ → Bool
knows plays trips player = plays player && is_known (trip_at trips player)

-- and that on an empty line is a short one
abbrev pub is_near : (ℕ → Bool) → List Trip → ℕ → Bool
is_near plays trips player = knows plays trips player && is_short (trip_at trips player)

-- some player is near
abbrev pub some_are_near : (ℕ → Bool) → List Trip → Bool
some_are_near plays trips =
    is_near plays trips 0 || (is_near plays trips 1 || (is_near plays trips 2 || is_near plays trips 3))

-- where some are near, these count, and else all whose round trips are known
abbrev pub counts : (ℕ → Bool) → List Trip → ℕ → Bool
counts plays trips player =
    if some_are_near plays trips then is_near plays trips player else knows plays trips player

-- one counts, and all of its round trips are so much longer
abbrev pub agrees : ℕ → (ℕ → Bool) → List Trip → ℕ → Bool
agrees ticks plays trips player = counts plays trips player && is_above ticks (trip_at trips player)

-- of so many of the four players this is so
abbrev pub how_many : (ℕ → Bool) → ℕ
how_many are =
    (if are 0 then 1 else 0) + ((if are 1 then 1 else 0) + ((if are 2 then 1 else 0) + (if are 3 then 1 else 0)))

-- of those who count, more than half agree
abbrev pub are_above : ℕ → (ℕ → Bool) → List Trip → Bool
are_above ticks plays trips = nat_lt (how_many (counts plays trips)) (2 * how_many (agrees ticks plays trips))

-- The level, of which 0 is an empty line, and 5 one that stays full.

abbrev pub new_level : Level
new_level = record { level = 4; floor = 0; wait = 0; since = 256; full_ticks = 0; clear_ticks = 0; tight = false }

-- time goes by at a level: where a wait ends there is no floor any more, and ticks in a row at which the line is full
-- are counted up to twelve
abbrev pub aged : Bool → Level → Level
aged full l = record l {
  since = if nat_lt l.since 256 then l.since + 1 else l.since;
  wait = l.wait - 1;
  floor = if l.wait == 1 then 0 else l.floor;
  full_ticks = if full then min (l.full_ticks + 1) 12 else 0;
}

-- it comes soon after a step down
abbrev pub is_soon : Level → Bool
is_soon l = nat_lt l.since 256

-- a level up. If that comes soon, the level that it was taken from is not tried for 4,096 ticks
abbrev pub stepped_up : Level → Level
stepped_up l =
    record {
      level = l.level + 1;
      floor = if is_soon l then l.level + 1 else l.floor;
      wait = if is_soon l then 4096 else l.wait;
      since = 256;
      full_ticks = 0;
      clear_ticks = 0;
      tight = true;
    }

-- where the line is full: a level up after twelve ticks in a row, but not from the last
abbrev pub may_step_up : Level → Bool
may_step_up l = nat_lt l.level 5 && nat_le 12 l.full_ticks

abbrev pub filled : Level → Level
filled l = if may_step_up l then stepped_up l else record l { clear_ticks = 0 }

-- where it is not: a level down after 32 ticks in a row at which it was not nearly full, or 20 while the level has not
-- gone up since it was 0 or since the first tick
abbrev pub patience : Level → ℕ
patience l = if l.tight then 32 else 20

abbrev pub eased : Bool → Level → Level
eased nearly l = record l { clear_ticks = if nearly then 0 else min (l.clear_ticks + 1) 32 }

abbrev pub stepped_down : Level → Level
stepped_down l =
    record l { level = l.level - 1; since = 0; clear_ticks = 0; tight = l.tight && not (l.level == 1) }

abbrev pub emptied : Level → Level
emptied l = if nat_le (patience l) l.clear_ticks && nat_lt l.floor l.level then stepped_down l else l

-- a tick
abbrev pub levelled : (full nearly : Bool) → Level → Level
levelled full nearly l = if full then filled (aged full l) else emptied (eased nearly (aged full l))

-- What goes at a tick to a player.

-- the number of the tick for a peer, so that not all peers have theirs at the same ticks
abbrev pub turn : Congestion → (me player : ℕ) → ℕ
turn c me player = c.tick + player + me

-- no datagram goes: at level 3 at one of three ticks, at level 4 at one of two, and at level 5 at two of three
abbrev pub rests : Congestion → (me player : ℕ) → Bool
rests c me player =
    (c.level.level == 3 && turn c me player % 3 == 2)
    || ((c.level.level == 4 && turn c me player % 2 == 1) || (c.level.level == 5 && not (turn c me player % 3 == 0)))

-- a second one may go: at level 0, and at level 1 at one of two ticks
abbrev pub allows_second : Congestion → (me player : ℕ) → Bool
allows_second c me player =
    c.level.level == 0 || (c.level.level == 1 && turn c me player % 2 == 0)

-- between two datagrams that are not brief go so many brief ones: from level 3 on one, and at level 5 two
abbrev pub between : Congestion → ℕ
between c = if nat_lt c.level.level 3 then 0 else (if c.level.level == 5 then 2 else 1)

-- The state at first, and after a tick.

abbrev pub new_congestion : Congestion
new_congestion =
    record {
      made = record { items = [] };
      trips = new_trip ∷ new_trip ∷ new_trip ∷ new_trip ∷ [];
      level = new_level;
      tick = 0;
    }

-- a player has reported so many
abbrev pub timed_to : (player count : ℕ) → List ℕ → List Trip → List Trip
timed_to player count made trips = slice_set trips player (acknowledged count made (trip_at trips player))

-- each has
abbrev pub trips_after : (ℕ → ℕ) → List ℕ → List Trip → List Trip
trips_after reported made trips =
    timed_to 3 (reported 3) made (timed_to 2 (reported 2) made (timed_to 1 (reported 1) made
    (timed_to 0 (reported 0) made trips)))

-- at a tick so many commands were made, these peers play, and each player has reported so many
abbrev pub ticked : (made : ℕ) → (plays : ℕ → Bool) → (reported : ℕ → ℕ) → Congestion → Congestion
ticked made plays reported c =
    let trips = trips_after reported c.made.items c.trips in
    record {
      made = record { items = made ∷ take 31 c.made.items };
      trips = trips;
      level = levelled (are_above 3 plays trips) (are_above 2 plays trips) c.level;
      tick = c.tick % 6 + 1;
    }

-- a tick goes by
abbrev pub GoesBy : Congestion → Congestion → Type 0
GoesBy old new = (made : ℕ) × (plays : ℕ → Bool) × (reported : ℕ → ℕ) × (new ≡ ticked made plays reported old)
