-- The seats 1 to 3, as the host keeps them.
use Rattle.std.specs.{Prelude.{ℕ, ◌&&◌, ◌||◌, Bool, not, true, false, max, nat_le, nat_lt, if◌then◌else◌, List, position, replicate, slice_index_or, Option, Some, None, ◌-◌}, Option.option_or, Str.bytes_eq}
use Rattle.dn_session.specs.{Cookies.is_recent, declared.greeting.Address.Address, declared.greeting.Call.Call, declared.greeting.Shown.Shown, declared.seats.Held.Held, declared.seats.Seat.Seat}
use Rattle.dn_session.specs.declared.seats.Seat.TheVariants as seat

-- a game of so many has the seat
abbrev pub seat_for : ℕ → ℕ → Seat
seat_for players n = if nat_lt n players then seat.Free else seat.Absent

abbrev pub is_free : Seat → Bool
is_free seat.Free = true
is_free seat = false

-- its holder's session has this number
abbrev pub is_of : List ℕ → Seat → Bool
is_of number (seat.Taken held) = bytes_eq held.holder.number number
is_of number seat = false

-- it is held, and its holder was not heard in the last two seconds. That is all it takes for a newcomer to get it,
-- so no longer silence frees a seat
abbrev pub is_silent : ℕ → Seat → Bool
is_silent now (seat.Taken held) = not (is_recent now held.heard)
is_silent now seat = false

-- the game can begin as far as this seat goes: there is none, or its holder was heard recently, and called with a cookie
-- that is no older than that of any newcomer. So a session that ended before another came does not count
abbrev pub is_ready : ℕ → ℕ → Seat → Bool
is_ready now filled seat.Absent = true
is_ready now filled seat.Free = false
is_ready now filled (seat.Taken held) = is_recent now held.heard && nat_le filled held.heard

-- which seat a newcomer gets, counted from 0: the one that it wants, or the lowest that is free, or the lowest whose
-- holder is silent
abbrev pub seat_of : Option ℕ → ℕ → List Seat → Option ℕ
seat_of None now seats = option_or (position is_free seats) (position (is_silent now) seats)
seat_of (Some wish) now seats =
    let wanted = slice_index_or seats (wish - 1) seat.Absent in
    if is_free wanted || is_silent now wanted then Some (wish - 1) else None

-- it is held by who makes this call from this address, with a cookie of this time
abbrev pub taken_by : Address → Call → ℕ → Seat
taken_by from call time =
    seat.Taken (record {
      holder = record { number = call.number; address = from; name = call.name };
      heard = time;
      heard_here = time;
    })

-- its holder called again from this address: it was heard, and is followed to another address once nothing came from
-- the old one for two seconds
abbrev pub is_here : Address → Held → Bool
is_here from held = bytes_eq held.holder.address.bytes from.bytes

abbrev pub held_again : Address → ℕ → ℕ → Held → Held
held_again from now time held =
    if is_here from held
    then record held { heard = max held.heard time; heard_here = max held.heard_here time }
    else (if is_recent now held.heard_here
    then record held { heard = max held.heard time }
    else record held {
      holder = record held.holder { address = from };
      heard = max held.heard time;
      heard_here = time;
    })

abbrev pub taken_again : Address → ℕ → ℕ → Seat → Seat
taken_again from now time (seat.Taken held) = seat.Taken (held_again from now time held)
taken_again from now time seat = seat

-- what others are told of it
abbrev pub shown_at : ℕ → Seat → Option Shown
shown_at now (seat.Taken held) = Some (record { holder = held.holder; heard = is_recent now held.heard })
shown_at now seat = None

-- the number of who holds it, and zeros
abbrev pub number_in : Seat → List ℕ
number_in (seat.Taken held) = held.holder.number
number_in seat = replicate 16 0
