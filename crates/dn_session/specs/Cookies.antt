-- The number of a session, the cookies of a host, and the number of its game.
use Rattle.std.specs.{Prelude.{ℕ, ◌+◌, ◌&&◌, ◌++◌, Bool, false, nat_le, List, take, codes, Option, Some, None}, List.concat, Int.w32, Int.to_le_bytes, Int.from_le_bytes, Str.bytes_eq}
use Rattle.dn_seal.specs.Hmac.{hmac, tag_of}
use Rattle.dn_session.specs.{Terms.terms_bytes, declared.greeting.Address.Address, declared.terms.Terms.Terms}

unfoldable pub number_label : List ℕ
number_label = codes "zirmegat number"

-- the number of a session, of the random bytes that it tells to nobody
abbrev pub session_number : List ℕ → List ℕ
session_number random = tag_of random number_label

-- what the host gives to whoever calls from an address at a time: the time, and twelve bytes of the code of address
-- and time under its random bytes. So only who is reached there can learn it. No number of a session is such a code:
-- its text is shorter
abbrev pub cookie_of : List ℕ → Address → ℕ → List ℕ
cookie_of random address time =
    to_le_bytes w32 time ++ take 12 (hmac random (address.bytes ++ to_le_bytes w32 time))

-- the time that a cookie tells
abbrev pub time_of : List ℕ → ℕ
time_of cookie = from_le_bytes w32 (take 4 cookie)

-- there is one, and this is so of it
abbrev pub is_one : {T : Type 0} → (T → Bool) → Option T → Bool
is_one is None = false
is_one is (Some x) = is x

-- a sign of life is two seconds old at most
abbrev pub fresh_for : ℕ
fresh_for = 2000

-- what was said at a time is of the last two seconds
abbrev pub is_recent : ℕ → ℕ → Bool
is_recent now time = nat_le time now && nat_le now (time + fresh_for)

-- the host gave this cookie to this address, in the last two seconds
abbrev pub is_good : List ℕ → Address → ℕ → List ℕ → Bool
is_good random address now cookie =
    bytes_eq cookie (cookie_of random address (time_of cookie)) && is_recent now (time_of cookie)

unfoldable pub game_label : List ℕ
game_label = codes "zirmegat game"

-- what a game's number is made of: the session of the host, the terms, and the sessions in the seats 1 to 3
abbrev pub game_text : List ℕ → Terms → List (List ℕ) → List ℕ
game_text host terms roster = game_label ++ (host ++ (terms_bytes terms ++ concat roster))

-- the number, under the key of greetings. Another host, other terms or other players make another game
abbrev pub game_of : List ℕ → List ℕ → Terms → List (List ℕ) → List ℕ
game_of key host terms roster = tag_of key (game_text host terms roster)
