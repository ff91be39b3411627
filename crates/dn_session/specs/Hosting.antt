-- The host's lobby: who gets which seat, and when the game begins.
use Rattle.std.specs.{Prelude.{◌≡◌, ◌≤◌, ◌<◌, ◌⊎◌, ℕ, ◌+◌, ◌-◌, ◌==◌, ◌||◌, Bool, not, false, nat_le, if◌then◌else◌, List, [], ◌∷◌, length, map, max, position, slice_index_or, slice_set, Option, Some, None, option_map, Result, Ok, Err}, List.list_all, List.list_any, Str.bytes_eq}
use Rattle.dn_seal.specs.declared.seal.Seal.{Seal}
use Rattle.dn_session.specs.{Cookies.cookie_of, Cookies.game_of, Cookies.is_good, Cookies.is_one, Cookies.session_number, Cookies.time_of, Reading.IsCallIn, Reading.IsRefusedIn, Reading.IsSeatingIn, Seats.is_of, Seats.is_ready, Seats.number_in, Seats.seat_for, Seats.seat_of, Seats.shown_at, Seats.taken_again, Seats.taken_by, Terms.IsTerms, Terms.terms_fault, Text.IsHolder, Text.greeting_bytes, Text.greeting_seal, Text.hinted_bytes, Text.refused_rest, Text.seating_rest, Text.told_number, declared.{greeting.Seating.Seating, host.Host.Host, host.HostConfig.HostConfig, seats.Seat.Seat, terms.LobbyFault.LobbyFault, terms.Terms.Terms}, declared.{greeting.Address.Address, greeting.Call.Call, greeting.GreetingFault.GreetingFault, greeting.Hint.Hint, greeting.Refusal.Refusal, greeting.Refused.Refused}}
use Rattle.dn_session.specs.declared.greeting.GreetingFault.TheVariants as fault
use Rattle.dn_session.specs.declared.greeting.Hint.TheVariants as hint
use Rattle.dn_session.specs.declared.greeting.Refusal.TheVariants as refusal
use Rattle.dn_session.specs.declared.seats.Seat.TheVariants as seat

-- the random bytes under which its cookies are made, the number of its session, the name of its player, the terms,
-- the seats 1 to 3, the newest cookie with which anybody got one, the last session that was turned away from each, and
-- whether the game has begun
pub record Lobby : Type 0 where
  pub seal : Seal
  pub random : List ℕ
  pub number : List ℕ
  pub name : List ℕ
  pub terms : Terms
  pub seats : List Seat
  pub filled : ℕ
  pub kicked : List (Option (List ℕ))
  pub begun : Bool

abbrev pub lobby : Host → Lobby
lobby host = record {
  seal = host.sealer.seal;
  random = host.random;
  number = host.number;
  name = host.name;
  terms = host.terms;
  seats = host.seats;
  filled = host.filled;
  kicked = host.kicked;
  begun = host.begun;
}

-- each seat of the game is free, and nobody was turned away
abbrev pub new_lobby : HostConfig → Lobby
new_lobby config = record {
  seal = greeting_seal config.secret;
  random = config.random;
  number = session_number config.random;
  name = config.name;
  terms = config.terms;
  seats = map (seat_for config.terms.players) (1 ∷ 2 ∷ 3 ∷ []);
  filled = 0;
  kicked = None ∷ None ∷ None ∷ [];
  begun = false;
}

-- a host is made with terms that a game may have, and else refused for the first that it may not have
abbrev pub IsHostOf : HostConfig → Result Host LobbyFault → Type 0
IsHostOf config (Ok host) = (terms_fault config.terms ≡ None) × (lobby host ≡ new_lobby config)
IsHostOf config (Err fault) = terms_fault config.terms ≡ Some fault

-- a seat that the game has is free or held, and any other absent
abbrev pub IsSeat : ℕ → ℕ → Seat → Type 0
IsSeat players n seat.Absent = players ≤ n
IsSeat players n seat.Free = n < players
IsSeat players n (seat.Taken held) = (n < players) × IsHolder held.holder

-- all of its fields fit: what each host's lobby is
pub record IsLobby (l : Lobby) : Type 0 where
  pub number : length l.number ≡ 16
  pub name : length l.name ≡ 16
  pub terms : IsTerms l.terms
  pub three : length l.seats ≡ 3
  pub seats : (n : ℕ) → n < 3 → IsSeat l.terms.players (n + 1) (slice_index_or l.seats n seat.Absent)

-- who holds the seats 1 to 3, by the numbers of their sessions
abbrev pub roster : Lobby → List (List ℕ)
roster l = map number_in l.seats

-- the session that holds the seat of this number, from 1 on
abbrev pub number_held : Seat → Option (List ℕ)
number_held (seat.Taken held) = Some held.holder.number
number_held seat = None

abbrev pub holder_of : Lobby → ℕ → Option (List ℕ)
holder_of l player =
    if nat_le 1 player then number_held (slice_index_or l.seats (player - 1) seat.Absent) else None

-- the number of its game
abbrev pub game : Lobby → List ℕ
game l = game_of l.seal.key l.number l.terms (roster l)

-- once that has begun
abbrev pub game_told : Lobby → Option (List ℕ)
game_told l = if l.begun then Some (game l) else None

-- what one who has a seat is told
abbrev pub seating_to : Address → Call → ℕ → ℕ → Lobby → Seating
seating_to from call now n l = record {
  number = call.number;
  count = call.count;
  cookie = cookie_of l.random from now;
  host = l.number;
  name = l.name;
  seat = n + 1;
  begun = l.begun;
  terms = l.terms;
  seats = map (shown_at now) l.seats;
}

-- the bytes of that
abbrev pub seating : Address → Call → ℕ → ℕ → Lobby → List ℕ
seating from call now n l = greeting_bytes l.seal 2 (seating_rest (seating_to from call now n l))

-- and what one who has none is told
abbrev pub refused_to : Address → Call → ℕ → Refusal → Lobby → Refused
refused_to from call now why l = record {
  number = call.number;
  count = call.count;
  cookie = cookie_of l.random from now;
  refusal = why;
}

abbrev pub refused : Address → Call → ℕ → Refusal → Lobby → List ℕ
refused from call now why l = greeting_bytes l.seal 3 (refused_rest (refused_to from call now why l))

-- a change of a seat, after which the game begins if each player was heard recently, and since the last newcomer came.
-- The seats are then as they are for good
abbrev pub with_seat : ℕ → ℕ → Seat → Lobby → Lobby
with_seat now n changed l =
    let seats = slice_set l.seats n changed in
    record l { seats = seats; begun = list_all (is_ready now l.filled) seats }

abbrev pub seated : Address → Call → ℕ → ℕ → Seat → Lobby → Lobby × List ℕ
seated from call now n changed l =
    let next = with_seat now n changed l in (next, seating from call now n next)

-- a newcomer came with a cookie of this time
abbrev pub filled_by : Call → Lobby → Lobby
filled_by call l = record l { filled = max l.filled (time_of call.cookie) }

-- a newcomer gets a seat, or there is none for it
abbrev pub on_newcomer : Address → Call → ℕ → Option ℕ → Lobby → Lobby × List ℕ
on_newcomer from call now (Some n) l =
    seated from call now n (taken_by from call (time_of call.cookie)) (filled_by call l)
on_newcomer from call now None l = (l, refused from call now refusal.Full l)

-- a session that has a seat keeps it
abbrev pub on_player : Address → Call → ℕ → Option ℕ → Lobby → Lobby × List ℕ
on_player from call now (Some n) l =
    seated from call now n (taken_again from now (time_of call.cookie) (slice_index_or l.seats n seat.Absent)) l
on_player from call now None l = on_newcomer from call now (seat_of call.seat now l.seats) l

-- why nobody who makes this call may play, if there is a reason: another number of players is asked for or a seat
-- that the game does not have, the identity is another, or the session was turned away
abbrev pub bar : Call → Lobby → Option Refusal
bar call l =
    if is_one (λ asked. not (asked == l.terms.players)) call.players || is_one (nat_le l.terms.players) call.seat
    then Some (refusal.Players l.terms.players) else (
    if not (bytes_eq call.identity l.terms.identity) then Some refusal.Identity else (
    if list_any (is_one (bytes_eq call.number)) l.kicked then Some refusal.Kicked else None))

abbrev pub unless_barred : Address → Call → ℕ → Option Refusal → Lobby → Lobby × List ℕ
unless_barred from call now (Some why) l = (l, refused from call now why l)
unless_barred from call now None l = on_player from call now (position (is_of call.number) l.seats) l

-- in the lobby: without a good cookie a call changes nothing
abbrev pub in_lobby : Address → Call → ℕ → Lobby → Lobby × List ℕ
in_lobby from call now l =
    if is_good l.random from now call.cookie
    then unless_barred from call now (bar call l) l
    else (l, refused from call now refusal.Cookie l)

-- in the game: who plays is told so as often as it calls, whatever its cookie. Nobody else plays, which is told only
-- to a good cookie: a copy of a call from elsewhere is not told that
abbrev pub in_game : Address → Call → ℕ → Option ℕ → Lobby → Lobby × List ℕ
in_game from call now (Some n) l = (l, seating from call now n l)
in_game from call now None l =
    (l, refused from call now (if is_good l.random from now call.cookie then refusal.Begun else refusal.Cookie) l)

abbrev pub on_opened : Address → Call → ℕ → Lobby → Lobby × List ℕ
on_opened from call now l =
    if l.begun
    then in_game from call now (position (is_of call.number) l.seats) l
    else in_lobby from call now l

-- bytes that may be a call of another version or under another key get a hint; others nothing
abbrev pub hint_for : GreetingFault → Option Hint
hint_for fault.Version = Some (hint.Version 2)
hint_for fault.Suite = Some hint.Key
hint_for fault.Tag = Some hint.Key
hint_for fault = None

abbrev pub hint_to : List ℕ → Hint → List ℕ
hint_to bytes hint = hinted_bytes (record { number = told_number bytes; hint = hint })

-- the lobby after bytes that were read so, and the bytes that are sent back
abbrev pub on_call : Address → List ℕ → ℕ → Lobby → Result Call GreetingFault → Lobby × Option (List ℕ)
on_call from bytes now l (Ok call) = let after = on_opened from call now l in (after.0, Some after.1)
on_call from bytes now l (Err fault) = (l, option_map (hint_to bytes) (hint_for fault))

-- any bytes from any address, at a time
abbrev pub HearsCall : Address → List ℕ → ℕ → Lobby → Lobby → Option (List ℕ) → Type 0
HearsCall from bytes now old new reply =
    (read : Result Call GreetingFault) × IsCallIn old.seal bytes read
    × (new ≡ (on_call from bytes now old read).0) × (reply ≡ (on_call from bytes now old read).1)

-- it is held, and was heard at this time
abbrev pub WasHeard : ℕ → Seat → Type 0
WasHeard time (seat.Taken held) = held.heard ≡ time
WasHeard time seat = ⊥

-- bytes are read as what a caller is told by this lobby: its seating, or why it has none
abbrev pub IsReadReply : Address → Call → ℕ → Lobby → List ℕ → Type 0
IsReadReply from call now l bytes =
    ((n : ℕ) × IsSeatingIn l.seal bytes (Ok (seating_to from call now n l)))
    ⊎ ((why : Refusal) × IsRefusedIn l.seal bytes (Ok (refused_to from call now why l)))

-- a session that holds a seat is turned away
abbrev pub kicked_from : Option ℕ → List ℕ → Lobby → Lobby
kicked_from None number l = l
kicked_from (Some n) number l = record l {
  seats = slice_set l.seats n seat.Free;
  kicked = slice_set l.kicked n (Some number);
}

-- but not from a game that has begun
abbrev pub kicked : List ℕ → Lobby → Lobby
kicked number l = if l.begun then l else kicked_from (position (is_of number) l.seats) number l
