-- A joiner: when it calls, and what it makes of replies.
use Rattle.std.specs.{Prelude.{◌≡◌, ℕ, ◌+◌, ◌-◌, min, ◌==◌, ◌&&◌, ◌||◌, Bool, not, true, false, nat_le, nat_lt, if◌then◌else◌, List, map, slice_index_or, Option, Some, None, Result, Ok, Err, replicate}, Option.option_or, Str.bytes_eq}
use Rattle.dn_seal.specs.declared.seal.Seal.{Seal}
use Rattle.dn_session.specs.{Cookies.game_of, Cookies.is_recent, Cookies.session_number, Reading.IsHintedIn, Reading.IsRefusedIn, Reading.IsSeatingIn, Text.call_rest, Text.greeting_bytes, Text.greeting_seal, Text.join_fault, declared.greeting.Address.Address, declared.greeting.Call.Call, declared.greeting.GreetingFault.GreetingFault, declared.greeting.Hint.Hint, declared.greeting.Hinted.Hinted, declared.greeting.Refusal.Refusal, declared.greeting.Refused.Refused, declared.greeting.Seating.Seating, declared.greeting.Shown.Shown, declared.joiner.JoinConfig.JoinConfig, declared.joiner.Joiner.Joiner, declared.joiner.Stage.Stage, declared.terms.LobbyFault.LobbyFault}
use Rattle.dn_session.specs.declared.greeting.Refusal.TheVariants as refusal
use Rattle.dn_session.specs.declared.joiner.Stage.TheVariants as stage

-- its number; whom it calls, and as whom; how many calls it has made, which of them was the newest that the host answered, and
-- the newest cookie; the last seating; where it stands; and by its own clock, in milliseconds: when it called last,
-- when an answer came last, when it called last without waiting, whether it is to do so, and a hint since when
pub record Joining : Type 0 where
  pub seal : Seal
  pub number : List ℕ
  pub config : JoinConfig
  pub calls : ℕ
  pub answered : ℕ
  pub cookie : List ℕ
  pub seating : Option Seating
  pub stage : Stage
  pub called : ℕ
  pub heard : ℕ
  pub retried : Option ℕ
  pub retry_now : Bool
  pub hinted : Option (Hint × ℕ)

abbrev pub joining : Joiner → Joining
joining joiner = record {
  seal = joiner.sealer.seal;
  number = joiner.number;
  config = joiner.config;
  calls = joiner.calls;
  answered = joiner.answered;
  cookie = joiner.cookie;
  seating = joiner.seating;
  stage = joiner.stage;
  called = joiner.called;
  heard = joiner.heard;
  retried = joiner.retried;
  retry_now = joiner.retry_now;
  hinted = joiner.hinted;
}

abbrev pub new_joining : JoinConfig → ℕ → Joining
new_joining config now = record {
  seal = greeting_seal config.secret;
  number = session_number config.random;
  config = config;
  calls = 0;
  answered = 0;
  cookie = replicate 16 0;
  seating = None;
  stage = stage.Calling;
  called = now;
  heard = now;
  retried = None;
  retry_now = false;
  hinted = None;
}

-- a joiner is made of a configuration without a fault, and else refused for the first
abbrev pub IsJoinerOf : JoinConfig → ℕ → Result Joiner LobbyFault → Type 0
IsJoinerOf config now (Ok joiner) = (join_fault config ≡ None) × (joining joiner ≡ new_joining config now)
IsJoinerOf config now (Err fault) = join_fault config ≡ Some fault

-- it goes on calling
abbrev pub calls_on : Stage → Bool
calls_on stage.Calling = true
calls_on stage.Waiting = true
calls_on stage.Seated = true
calls_on s = false

-- so much time has passed since another
abbrev pub has_passed : ℕ → ℕ → ℕ → Bool
has_passed now since time = nat_le (since + time) now

-- it calls, and nothing was answered for ten seconds
abbrev pub is_unanswered : ℕ → Joining → Bool
is_unanswered now j = calls_on j.stage && has_passed now j.heard 10000

-- it waits a quarter of a second after a call, and a second after one up to which nothing was answered for ten
abbrev pub interval : Joining → ℕ
interval j = if has_passed j.called j.heard 10000 then 1000 else 250

-- it did not call at once in the last half second
abbrev pub may_retry : ℕ → Option ℕ → Bool
may_retry now None = true
may_retry now (Some time) = has_passed now time 500

-- the first call is made at once. Who was refused for its cookie calls again at once too, but twice a second at
-- most
abbrev pub is_due : ℕ → Joining → Bool
is_due now j =
    calls_on j.stage && (j.calls == 0 || (has_passed now j.called (interval j)
    || (j.retry_now && may_retry now j.retried)))

-- the call of that number
abbrev pub call_of : Joining → Call
call_of j = record {
  number = j.number;
  count = j.calls;
  cookie = j.cookie;
  seat = j.config.seat;
  players = j.config.players;
  identity = j.config.identity;
  name = j.config.name;
}

-- one more call; the count stops at the largest number of 32 bits
abbrev pub called : ℕ → Joining → Joining
called now j = record j {
  calls = min (j.calls + 1) 4294967295;
  called = now;
  retried = if j.retry_now then Some now else j.retried;
  retry_now = false;
}

-- a hint after which nothing was answered for three seconds ends it
abbrev pub given_up_by : ℕ → Option (Hint × ℕ) → Joining → Joining
given_up_by now None j = j
given_up_by now (Some hinted) j =
    if calls_on j.stage && has_passed now hinted.1 3000
    then record j { stage = stage.Hinted hinted.0 } else j

-- whatever it was told of a seat is over once nothing was answered for ten seconds
abbrev pub calling_again : ℕ → Joining → Joining
calling_again now j = if is_unanswered now j then record j { stage = stage.Calling } else j

-- a call, if one is due
abbrev pub calls_if_due : ℕ → Joining → Joining × Option (List ℕ)
calls_if_due now j =
    if is_due now j
    then (let next = called now j in (next, Some (greeting_bytes next.seal 1 (call_rest (call_of next)))))
    else (j, None)

-- as time goes: it ends, or is calling again, or calls, or does nothing
abbrev pub on_time : ℕ → Joining → Joining × Option (List ℕ)
on_time now j = calls_if_due now (calling_again now (given_up_by now j.hinted j))

-- a hint ends it now
abbrev pub is_hint_over : ℕ → Option (Hint × ℕ) → Bool
is_hint_over now None = false
is_hint_over now (Some hinted) = has_passed now hinted.1 3000

-- it was told of a seat, or to wait for one
abbrev pub counts_on_host : Stage → Bool
counts_on_host stage.Waiting = true
counts_on_host stage.Seated = true
counts_on_host s = false

-- something changes now as time goes, or is sent
abbrev pub acts : ℕ → Joining → Bool
acts now j =
    is_due now j || ((calls_on j.stage && is_hint_over now j.hinted)
    || (counts_on_host j.stage && has_passed now j.heard 10000))

-- a time has come
abbrev pub has_come : ℕ → Option ℕ → Bool
has_come now None = false
has_come now (Some time) = nat_le time now

-- a reply to a call that it has made, and to a later one than that of the newest answer
abbrev pub is_answer : List ℕ → ℕ → Joining → Bool
is_answer number count j =
    bytes_eq number j.number && (nat_lt j.answered count && nat_le count j.calls)

-- it was answered
abbrev pub answered : ℕ → List ℕ → ℕ → Joining → Joining
answered count cookie now j =
    record j { answered = count; cookie = cookie; heard = now; hinted = None }

-- the seat is held by the session of this number
abbrev pub holds : List ℕ → Option Shown → Bool
holds number (Some shown) = bytes_eq shown.holder.number number
holds number None = false

-- it has the seat that the seating tells it, as that says itself
abbrev pub is_own : Seating → Joining → Bool
is_own s j = holds j.number (slice_index_or s.seats (s.seat - 1) None)

-- the game has begun with it, where the seating says so
abbrev pub on_seating : Seating → ℕ → Joining → Joining
on_seating s now j =
    if is_answer s.number s.count j && is_own s j
    then record (answered s.count s.cookie now j) {
      seating = Some s;
      stage = if s.begun then stage.Playing else stage.Seated;
      retry_now = false;
    }
    else j

-- with the new cookie it calls again at once
abbrev pub retries_for : Refusal → Bool
retries_for refusal.Cookie = true
retries_for why = false

-- what it is refused for want of a seat it waits for; any other reason ends it
abbrev pub stage_after : Refusal → Stage
stage_after refusal.Cookie = stage.Calling
stage_after refusal.Full = stage.Waiting
stage_after why = stage.Refused why

-- it has a seat, and its newest answer, which is then a seating, came in the last two seconds
abbrev pub is_seated : Stage → Bool
is_seated stage.Seated = true
is_seated s = false

abbrev pub is_sure : ℕ → Joining → Bool
is_sure now j = is_seated j.stage && is_recent now j.heard

-- who is sure of its seat heeds no refusal: it may be the reply to a copy of its call, from another address or to
-- another host under the same secret. It does not count as an answer either, so the seating for that call still does
abbrev pub on_refused : Refused → ℕ → Joining → Joining
on_refused r now j =
    if is_answer r.number r.count j && not (is_sure now j)
    then record (answered r.count r.cookie now j) {
      stage = stage_after r.refusal;
      retry_now = retries_for r.refusal;
    }
    else j

-- a hint, for which nobody vouches, is noted where it is the first since the newest answer
abbrev pub on_hinted : Hinted → ℕ → Joining → Joining
on_hinted h now j =
    if bytes_eq h.number j.number then record j { hinted = option_or j.hinted (Some (h.hint, now)) } else j

-- bytes are at most one of the three
abbrev pub on_reply : Result Seating GreetingFault → Result Refused GreetingFault → Result Hinted GreetingFault
    → ℕ → Joining → Joining
on_reply (Ok s) r h now j = on_seating s now j
on_reply (Err fault) (Ok r) h now j = on_refused r now j
on_reply (Err fault) (Err other) (Ok h) now j = on_hinted h now j
on_reply (Err fault) (Err other) (Err third) now j = j

-- what is read as one of the three
abbrev pub HearsHost : List ℕ → ℕ → Joining → Joining → Type 0
HearsHost bytes now old new =
    (s : Result Seating GreetingFault) × (r : Result Refused GreetingFault) × (h : Result Hinted GreetingFault)
    × IsSeatingIn old.seal bytes s × IsRefusedIn old.seal bytes r × IsHintedIn bytes h
    × (new ≡ on_reply s r h now old)

-- only its host is heard, and only while it calls
abbrev pub is_heard : Address → Joining → Bool
is_heard from j = bytes_eq from.bytes j.config.host.bytes && calls_on j.stage

-- who plays its game: the numbers of the sessions in the seats 1 to 3
abbrev pub number_of : Option Shown → List ℕ
number_of (Some shown) = shown.holder.number
number_of None = replicate 16 0

abbrev pub roster_in : Seating → List (List ℕ)
roster_in s = map number_of s.seats

-- the number of the game that a seating tells of
abbrev pub game_in : Seal → Seating → List ℕ
game_in seal s = game_of seal.key s.host s.terms (roster_in s)

-- and of its game, once that has begun
abbrev pub game_by : Stage → Option Seating → Joining → Option (List ℕ)
game_by stage.Playing (Some s) j = Some (game_in j.seal s)
game_by stage seating j = None

abbrev pub game_now : Joining → Option (List ℕ)
game_now j = game_by j.stage j.seating j
