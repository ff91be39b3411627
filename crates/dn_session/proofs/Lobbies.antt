-- What a call can make of a lobby: four cases, and what follows from them.
use Rattle.std.proofs.Common.{◌≡◌, ◌<◌, ◌+◌, ◌-◌, ℕ, List, [], ◌∷◌, length, get_or, refl, ◌∙◌, arith, Option, Some, None, inl, inr, Bool, true, false}
use Rattle.std.proofs.lemmas.Bool.{and_from, cases_lt, le-leb, le-ltb, lt-ltb}
use Rattle.std.proofs.lemmas.List.{get_or-set_other, get_or-set_same, length-append, length-map, length-set, length-take, length-take-le}
use Rattle.std.proofs.{Math.ListN.get_or-eq_default, lemmas.List.Elements.All-cons, lemmas.List.Elements.All-nil, lemmas.List.Sums.fails_before_first}
use Rattle.std.proofs.{lemmas.List.Sums.passes_at_first, lemmas.Option.none-some, lemmas.Option.same_Some}
use Rattle.std.specs.Prelude.{All, IfSome, map, position, slice_index_or, if◌then◌else◌, ◌||◌, nat_lt, nat_le}
use Rattle.std.specs.{Option.option_or}
use Rattle.dn_seal.proofs.Envelopes.{length-tag}
use Rattle.dn_session.specs.Hosting.{IsLobby, IsReadReply, IsSeat, Lobby, bar, filled_by, in_game, in_lobby, on_newcomer, on_opened, on_player, refused, seated, seating, seating_to, unless_barred, with_seat}
use Rattle.dn_session.specs.Seats.{held_again, is_free, is_of, is_silent, seat_for, seat_of, shown_at, taken_again, taken_by}
use Rattle.dn_session.specs.{Cookies.cookie_of, Cookies.is_good, Cookies.time_of, Text.IsCall, Text.IsHolder, Text.IsSeating, Text.is_wish}
use Rattle.dn_session.specs.{declared.greeting.Address.Address, declared.greeting.Call.Call, declared.greeting.Refusal.Refusal, declared.greeting.Shown.Shown}
use Rattle.dn_session.specs.{declared.seats.Held.Held, declared.seats.Seat.Seat}
use Rattle.dn_session.specs.declared.greeting.Refusal.TheVariants as refusal
use Rattle.dn_session.specs.declared.seats.Seat.TheVariants as seat

-- a call changes nothing, or is a player's in the game, or gives a newcomer a seat, or is a player's in the lobby
module _ (from : Address) (call : Call) (now : ℕ) (l : Lobby) (P : Lobby × List ℕ → Type 0)
    (stays : (why : Refusal) → P (l, refused from call now why l))
    (plays : (n : ℕ) → l.begun ≡ true → position (is_of call.number) l.seats ≡ Some n
    → P (l, seating from call now n l))
    (newcomer : (n : ℕ) → l.begun ≡ false → is_good l.random from now call.cookie ≡ true
    → position (is_of call.number) l.seats ≡ None → seat_of call.seat now l.seats ≡ Some n
    → P (seated from call now n (taken_by from call (time_of call.cookie)) (filled_by call l)))
    (player : (n : ℕ) → l.begun ≡ false → is_good l.random from now call.cookie ≡ true
    → position (is_of call.number) l.seats ≡ Some n
    → P (seated from call now n (taken_again from now (time_of call.cookie) (slice_index_or l.seats n seat.Absent)) l))
  where
    at_new : l.begun ≡ false → is_good l.random from now call.cookie ≡ true
        → position (is_of call.number) l.seats ≡ None → (place : Option ℕ) → seat_of call.seat now l.seats ≡ place
        → P (on_newcomer from call now place l)
    at_new lobby good none None is = stays refusal.Full
    at_new lobby good none (Some n) is = newcomer n lobby good none is

    at_player : l.begun ≡ false → is_good l.random from now call.cookie ≡ true
        → (place : Option ℕ) → position (is_of call.number) l.seats ≡ place → P (on_player from call now place l)
    at_player lobby good None is = at_new lobby good is (seat_of call.seat now l.seats) refl
    at_player lobby good (Some n) is = player n lobby good is

    at_bar : l.begun ≡ false → is_good l.random from now call.cookie ≡ true
        → (why : Option Refusal) → P (unless_barred from call now why l)
    at_bar lobby good (Some why) = stays why
    at_bar lobby good None = at_player lobby good (position (is_of call.number) l.seats) refl

    at_good : l.begun ≡ false → (test : Bool) → is_good l.random from now call.cookie ≡ test
        → P (if test then unless_barred from call now (bar call l) l else (l, refused from call now refusal.Cookie l))
    at_good lobby true good = at_bar lobby good (bar call l)
    at_good lobby false good = stays refusal.Cookie

    at_game : l.begun ≡ true → (place : Option ℕ) → position (is_of call.number) l.seats ≡ place
        → P (in_game from call now place l)
    at_game game None is = stays (if is_good l.random from now call.cookie then refusal.Begun else refusal.Cookie)
    at_game game (Some n) is = plays n game is

    at_begun : (test : Bool) → l.begun ≡ test
        → P (if test then in_game from call now (position (is_of call.number) l.seats) l else in_lobby from call now l)
    at_begun true game = at_game game (position (is_of call.number) l.seats) refl
    at_begun false lobby = at_good lobby (is_good l.random from now call.cookie) refl

    pub each_call : P (on_opened from call now l)
    each_call = at_begun l.begun refl

-- the seat that is found is one of them, and passes
found : (p : Seat → Bool) (seats : List Seat) (n : ℕ) → position p seats ≡ Some n
    → (n < length seats) × (p (get_or seats n seat.Absent) ≡ true)
found p seats n is = grind (arith, cases_lt, lt-ltb, same_Some, passes_at_first, le-ltb, none-some)

-- if none is found none passes
pub none_passes : (p : Seat → Bool) (seats : List Seat) (n : ℕ) → p seat.Absent ≡ false → position p seats ≡ None
    → p (get_or seats n seat.Absent) ≡ false
none_passes p seats n absent is =
    grind (arith, cases_lt, lt-ltb, none-some, fails_before_first, get_or-eq_default)

-- what passes is a seat of the game
present : (p : Seat → Bool) (players n : ℕ) (s : Seat) → p seat.Absent ≡ false → p s ≡ true → IsSeat players n s
    → n < players
present p players n s never is there = grind arith

-- a newcomer's seat is one of the game
module _ (l : Lobby) (fits : IsLobby l) where
  passes : (p : Seat → Bool) (n : ℕ) → p seat.Absent ≡ false → position p l.seats ≡ Some n
      → (n < 3) × (n + 1 < l.terms.players)
  passes p n never is = grind (arith, found, present)

  lowest : (now n : ℕ) (free : Option ℕ) → position is_free l.seats ≡ free
      → option_or free (position (is_silent now) l.seats) ≡ Some n → (n < 3) × (n + 1 < l.terms.players)
  lowest now n None none is = passes (is_silent now) n refl is
  lowest now n (Some k) some is = passes is_free n refl (some ∙ is)

  wished : (now wish n : ℕ) → is_wish (Some wish) ≡ true → (test : Bool)
      → (is_free (get_or l.seats (wish - 1) seat.Absent) || is_silent now (get_or l.seats (wish - 1) seat.Absent)) ≡ test
      → (if test then Some (wish - 1) else None) ≡ Some n → (n < 3) × (n + 1 < l.terms.players)
  wished now wish n is test passed some = grind (arith, present)

  pub place : (now n : ℕ) (wish : Option ℕ) → is_wish wish ≡ true → seat_of wish now l.seats ≡ Some n
      → (n < 3) × (n + 1 < l.terms.players)
  place now n None is some = lowest now n (position is_free l.seats) refl some
  place now n (Some wish) is some = wished now wish n is _ refl some

  -- with one changed it is still a lobby
  pub put : (now n : ℕ) (s : Seat) → n < 3 → IsSeat l.terms.players (n + 1) s → IsLobby (with_seat now n s l)
  put now n s few there = grind (arith, length-set, get_or-set_same, get_or-set_other)

-- who calls again is who it was, at its address or at this one
again : (from : Address) (now time : ℕ) (held : Held) → length from.bytes ≡ 32 → IsHolder held.holder
    → IsHolder (held_again from now time held).holder
again from now time held a is = grind arith

pub taken_fits : (from : Address) (now time players n : ℕ) (s : Seat) → length from.bytes ≡ 32
    → IsSeat players n s → IsSeat players n (taken_again from now time s)
taken_fits from now time players n s a is = grind (arith, again)

-- what is told of the seats fits
abbrev IsShown : Option Shown → Type 0
IsShown s = IfSome s (λ shown. IsHolder shown.holder)

shown_fits : (now players n : ℕ) (s : Seat) → IsSeat players n s → IsShown (shown_at now s)
shown_fits now players n s is = grind arith

all_shown : (now players : ℕ) (seats : List Seat) → length seats ≡ 3
    → ((n : ℕ) → n < 3 → IsSeat players (n + 1) (get_or seats n seat.Absent))
    → All IsShown (map (shown_at now) seats)
all_shown now players (one ∷ two ∷ three ∷ []) long is =
    let a = shown_at now one in
    let b = shown_at now two in
    let c = shown_at now three in
    All-cons IsShown a (b ∷ c ∷ []) (shown_fits now players 1 one (is 0 (omega arith)))
    (All-cons IsShown b (c ∷ []) (shown_fits now players 2 two (is 1 (omega arith)))
    (All-cons IsShown c [] (shown_fits now players 3 three (is 2 (omega arith))) (All-nil IsShown)))
all_shown now players _ long is = absurd (omega (arith, long))

length-cookie : (random : List ℕ) (from : Address) (now : ℕ) → length (cookie_of random from now) ≡ 16
length-cookie random from now = grind (arith, length-take, length-tag, length-append, length-take-le)

-- a call leaves a lobby, and its reply is read back
module _ (from : Address) (call : Call) (now : ℕ) (l : Lobby) (a : length from.bytes ≡ 32) (is : IsCall call)
    (fits : IsLobby l)
  where
    abbrev Good : Lobby × List ℕ → Type 0
    Good after = IsLobby after.0 × IsReadReply from call now after.0 after.1

    refusing : (why : Refusal) → Good (l, refused from call now why l)
    refusing why = (
      fits,
      inr (why, (record { number = is.number; count = is.count; cookie = length-cookie l.random from now }, refl)),
    )

    telling : (m : Lobby) → IsLobby m → (n : ℕ) → n + 1 < m.terms.players
        → IsReadReply from call now m (seating from call now n m)
    telling m good n there =
        let fields : IsSeating (seating_to from call now n m) = record {
          number = is.number;
          count = is.count;
          cookie = length-cookie m.random from now;
          host = good.number;
          name = good.name;
          seat = and_from (nat_le 1 (n + 1)) (nat_lt (n + 1) m.terms.players) (le-leb 1 (n + 1) (omega arith))
              (lt-ltb (n + 1) m.terms.players there);
          terms = good.terms;
          three = length-map m.seats (shown_at now) ∙ good.three;
          seats = all_shown now m.terms.players m.seats good.three good.seats;
        } in
        inl (n, (fields, refl))

    sitting : (m : Lobby) → IsLobby m → (n : ℕ) (s : Seat) → n < 3 → n + 1 < m.terms.players
        → IsSeat m.terms.players (n + 1) s → Good (seated from call now n s m)
    sitting m good n s few there there_too =
        let kept = put m good now n s few there_too in (kept, telling (with_seat now n s m) kept n there)

    playing : (n : ℕ) → l.begun ≡ true → position (is_of call.number) l.seats ≡ Some n
        → Good (l, seating from call now n l)
    playing n game some =
        let there = passes l fits (is_of call.number) n refl some in (fits, telling l fits n there.1)

    joining_it : (n : ℕ) → l.begun ≡ false → is_good l.random from now call.cookie ≡ true
        → position (is_of call.number) l.seats ≡ None → seat_of call.seat now l.seats ≡ Some n
        → Good (seated from call now n (taken_by from call (time_of call.cookie)) (filled_by call l))
    joining_it n lobby good none some =
        let there = place l fits now n call.seat is.seat some in
        let still : IsLobby (filled_by call l) = record {
          number = fits.number;
          name = fits.name;
          terms = fits.terms;
          three = fits.three;
          seats = fits.seats;
        } in
        sitting (filled_by call l) still n (taken_by from call (time_of call.cookie)) there.0 there.1
        (there.1, record { number = is.number; address = a; name = is.name })

    calling_it : (n : ℕ) → l.begun ≡ false → is_good l.random from now call.cookie ≡ true
        → position (is_of call.number) l.seats ≡ Some n
        → Good (seated from call now n (taken_again from now (time_of call.cookie) (slice_index_or l.seats n seat.Absent)) l)
    calling_it n lobby good some =
        let there = passes l fits (is_of call.number) n refl some in
        sitting l fits n (taken_again from now (time_of call.cookie) (slice_index_or l.seats n seat.Absent)) there.0 there.1
        (taken_fits from now (time_of call.cookie) l.terms.players (n + 1) (slice_index_or l.seats n seat.Absent) a
        (fits.seats n there.0))

    pub good_call : Good (on_opened from call now l)
    good_call = each_call from call now l Good refusing playing joining_it calling_it

-- a new one has the seats of its game
new_seat : (players n : ℕ) → IsSeat players n (seat_for players n)
new_seat players n = grind (arith, cases_lt, lt-ltb, le-ltb)

pub new_seats : (players : ℕ) (one two three : Seat) → one ≡ seat_for players 1 → two ≡ seat_for players 2
    → three ≡ seat_for players 3 → (n : ℕ) → n < 3
    → IsSeat players (n + 1) (get_or (one ∷ two ∷ three ∷ []) n seat.Absent)
new_seats players one two three a b c n few = grind (arith, new_seat)
