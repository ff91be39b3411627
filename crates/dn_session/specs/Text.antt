-- The bytes of greetings.
use Rattle.std.specs.{Prelude.{◌≡◌, ℕ, ◌+◌, ◌^◌, ◌<◌, ◌++◌, ◌&&◌, Bool, not, true, nat_le, nat_lt, if◌then◌else◌, List, [], ◌∷◌, All, IfSome, length, take, drop, replicate, codes, Option, Some, None, unwrap_or}, Int.w32, Int.to_le_bytes, List.flat_map}
use Rattle.dn_seal.specs.{Hmac.no_secret, Hmac.suite_byte, Hmac.tag_of, Sealing.sealed_with, declared.seal.Seal.Seal, declared.seal.Suite.TheVariants.Open, declared.seal.Suite.TheVariants.Secret}
use Rattle.dn_session.specs.{Terms.IsTerms, Terms.bit, Terms.is_count, Terms.terms_bytes, declared.greeting.Call.Call, declared.greeting.Hint.Hint, declared.greeting.Hinted.Hinted, declared.greeting.Holder.Holder, declared.{greeting.Refusal.Refusal, greeting.Refused.Refused, greeting.Seating.Seating, greeting.Shown.Shown, joiner.JoinConfig.JoinConfig, terms.LobbyFault.LobbyFault}}
use Rattle.dn_session.specs.declared.greeting.Hint.TheVariants as hint
use Rattle.dn_session.specs.declared.greeting.Refusal.TheVariants as refusal
use Rattle.dn_session.specs.declared.terms.LobbyFault.TheVariants as fault

-- the number from which the key of greetings is derived: no game's
unfoldable pub greeting_number : List ℕ
greeting_number = codes "zirmegat greeter"

-- a game of this number: under the secret that the players share, and openly if they share none
abbrev pub game_seal : Option (List ℕ) → List ℕ → Seal
game_seal None game = sealed_with Open no_secret game
game_seal (Some secret) game = sealed_with Secret secret game

-- and greetings, as a game of that number
abbrev pub greeting_seal : Option (List ℕ) → Seal
greeting_seal secret = game_seal secret greeting_number

-- what stands behind the first byte of every greeting: kind 4, which no envelope and no datagram of a link has,
-- and a name
abbrev pub kind_bytes : List ℕ
kind_bytes = 4 ∷ 122 ∷ 105 ∷ 114 ∷ 109 ∷ 101 ∷ 103 ∷ 97 ∷ 116 ∷ []

-- the first twelve bytes of a greeting that has a tag: the suite, the kind, version 2, and what it is: 1 a call,
-- 2 a seating, 3 a refusal
abbrev pub head_bytes : Seal → ℕ → List ℕ
head_bytes seal what = suite_byte seal.suite ∷ (kind_bytes ++ 2 ∷ what ∷ [])

-- what the tag is over
abbrev pub body_bytes : Seal → ℕ → List ℕ → List ℕ
body_bytes seal what rest = head_bytes seal what ++ rest

-- the bytes that are sent
abbrev pub greeting_bytes : Seal → ℕ → List ℕ → List ℕ
greeting_bytes seal what rest = body_bytes seal what rest ++ tag_of seal.key (body_bytes seal what rest)

-- a call is as long as a seating
unfoldable pub padding : List ℕ
padding = replicate 483 0

-- of a call: the caller's number, the count of the call, the cookie that the host gave, the seat that is wanted and
-- the number of players, each 0 for none, the identity, and the name of the player
abbrev pub call_rest : Call → List ℕ
call_rest call =
    call.number ++ (to_le_bytes w32 call.count ++ (call.cookie
    ++ (unwrap_or call.seat 0 ∷ unwrap_or call.players 0 ∷ (call.identity ++ (call.name ++ padding)))))

-- the 65 bytes of a seat: whether it is held and was not heard recently (1) or was (2), who holds it, where, and
-- what its player is called
abbrev pub shown_bytes : Option Shown → List ℕ
shown_bytes None = replicate 65 0
shown_bytes (Some shown) =
    (1 + bit shown.heard) ∷ (shown.holder.number ++ (shown.holder.address.bytes ++ shown.holder.name))

-- of a seating: the caller's number, the count of the call, a new cookie, the host's number, the name of its player,
-- the caller's seat, whether the game has begun, the terms, and the seats 1 to 3
abbrev pub seating_rest : Seating → List ℕ
seating_rest s =
    s.number ++ (to_le_bytes w32 s.count ++ (s.cookie ++ (s.host ++ (s.name
    ++ (s.seat ∷ bit s.begun ∷ (terms_bytes s.terms ++ flat_map shown_bytes s.seats))))))

abbrev pub reason_bytes : Refusal → List ℕ
reason_bytes refusal.Cookie = 1 ∷ 0 ∷ []
reason_bytes refusal.Full = 2 ∷ 0 ∷ []
reason_bytes refusal.Begun = 3 ∷ 0 ∷ []
reason_bytes (refusal.Players players) = 4 ∷ players ∷ []
reason_bytes refusal.Identity = 5 ∷ 0 ∷ []
reason_bytes refusal.Kicked = 6 ∷ 0 ∷ []

-- of a refusal: the caller's number, the count of the call, a new cookie, and the reason
abbrev pub refused_rest : Refused → List ℕ
refused_rest r = r.number ++ (to_le_bytes w32 r.count ++ (r.cookie ++ reason_bytes r.refusal))

-- the number of whoever sent a greeting, or to whom it is sent, in all versions
abbrev pub told_number : List ℕ → List ℕ
told_number bytes = take 16 (drop 12 bytes)

-- the version of the host
abbrev pub version_of : Hint → ℕ
version_of hint.Key = 2
version_of (hint.Version version) = version

abbrev pub hint_byte : Hint → ℕ
hint_byte hint.Key = 1
hint_byte (hint.Version version) = 2

-- a hint has no tag: its first byte is no suite's. The host's version stands where a greeting's own does, and
-- hints have these bytes in all versions
abbrev pub hinted_bytes : Hinted → List ℕ
hinted_bytes hinted =
    0 ∷ (kind_bytes ++ (version_of hinted.hint ∷ 4 ∷ (hinted.number ++ hint_byte hinted.hint ∷ [])))

-- a seat other than the host's may be wanted
abbrev pub is_wish : Option ℕ → Bool
is_wish None = true
is_wish (Some seat) = nat_le 1 seat && nat_le seat 3

abbrev pub is_count_or_none : Option ℕ → Bool
is_count_or_none None = true
is_count_or_none (Some players) = is_count players

-- the first field that no joiner may have
abbrev pub join_fault : JoinConfig → Option LobbyFault
join_fault config =
    if not (is_count_or_none config.players) then Some fault.Players else (
    if not (is_wish config.seat) then Some fault.Seat else None)

-- the fields fit
pub record IsCall (call : Call) : Type 0 where
  pub number : length call.number ≡ 16
  pub count : call.count < 2 ^ 32
  pub cookie : length call.cookie ≡ 16
  pub seat : is_wish call.seat ≡ true
  pub players : is_count_or_none call.players ≡ true
  pub identity : length call.identity ≡ 16
  pub name : length call.name ≡ 16

pub record IsHolder (holder : Holder) : Type 0 where
  pub number : length holder.number ≡ 16
  pub address : length holder.address.bytes ≡ 32
  pub name : length holder.name ≡ 16

-- a game of so many has the seat, and it is not the host's
abbrev pub is_joiners_seat : ℕ → ℕ → Bool
is_joiners_seat players seat = nat_le 1 seat && nat_lt seat players

pub record IsSeating (s : Seating) : Type 0 where
  pub number : length s.number ≡ 16
  pub count : s.count < 2 ^ 32
  pub cookie : length s.cookie ≡ 16
  pub host : length s.host ≡ 16
  pub name : length s.name ≡ 16
  pub seat : is_joiners_seat s.terms.players s.seat ≡ true
  pub terms : IsTerms s.terms
  pub three : length s.seats ≡ 3
  pub seats : All (λ seat. IfSome seat (λ shown. IsHolder shown.holder)) s.seats

pub record IsRefused (r : Refused) : Type 0 where
  pub number : length r.number ≡ 16
  pub count : r.count < 2 ^ 32
  pub cookie : length r.cookie ≡ 16

pub record IsHinted (hinted : Hinted) : Type 0 where
  pub number : length hinted.number ≡ 16
