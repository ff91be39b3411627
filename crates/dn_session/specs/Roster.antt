-- Which session plays which place of which game.
use Rattle.std.specs.Prelude.{◌≡◌, ℕ, ◌-◌, ◌==◌, true, if◌then◌else◌, List, length, replicate, slice_index_or, Option, Some, None, IfSome}
use Rattle.dn_session.specs.{Cookies.game_of, Cookies.game_text, Hosting.IsLobby, Hosting.Lobby, Hosting.lobby, Hosting.roster, Joining.Joining, Joining.is_own, Joining.joining, Joining.roster_in, Text.IsSeating, declared.greeting.Seating.Seating, declared.joiner.Stage.Stage, declared.side.Side.Side, declared.terms.Terms.Terms}
use Rattle.dn_session.specs.declared.joiner.Stage.TheVariants as stage
use Rattle.dn_session.specs.declared.side.Side.TheVariants as side

-- whatever a joiner was told of a seat can be read, and gives the seat to its own session
pub record IsJoining (j : Joining) : Type 0 where
  pub number : length j.number ≡ 16
  pub seating : IfSome j.seating IsSeating
  pub own : IfSome j.seating (λ s. is_own s j ≡ true)

-- what each session's lobby is
abbrev pub IsSide : Side → Type 0
IsSide (side.Host host) = IsLobby (lobby host)
IsSide (side.Joiner joiner) = IsJoining (joining joiner)

-- the number of a session
abbrev pub own_number : Side → List ℕ
own_number (side.Host host) = (lobby host).number
own_number (side.Joiner joiner) = (joining joiner).number

-- the key of its greetings
abbrev pub key_of : Side → List ℕ
key_of (side.Host host) = (lobby host).seal.key
key_of (side.Joiner joiner) = (joining joiner).seal.key

-- a game as it was fixed: the number of its host's session, its terms, and those of the sessions in the seats 1 to 3
pub record Fixed : Type 0 where
  pub host : List ℕ
  pub terms : Terms
  pub roster : List (List ℕ)

-- a place in it: the number of a player
pub record Place : Type 0 where
  pub game : Fixed
  pub me : ℕ

abbrev pub place_here : Lobby → Place
place_here l = record { game = record { host = l.number; terms = l.terms; roster = roster l }; me = 0 }

abbrev pub place_told : Seating → Place
place_told s = record { game = record { host = s.host; terms = s.terms; roster = roster_in s }; me = s.seat }

abbrev pub place_by : Stage → Option Seating → Option Place
place_by stage.Playing (Some s) = Some (place_told s)
place_by stage seating = None

-- the place of a session, once its game has begun
abbrev pub place_in : Side → Option Place
place_in (side.Host host) = if (lobby host).begun then Some (place_here (lobby host)) else None
place_in (side.Joiner joiner) = place_by (joining joiner).stage (joining joiner).seating

-- the number of a game, under a key, and what it is made of
abbrev pub number_of_game : List ℕ → Fixed → List ℕ
number_of_game key game = game_of key game.host game.terms game.roster

abbrev pub text_of_game : Fixed → List ℕ
text_of_game game = game_text game.host game.terms game.roster

-- the session that the game gives a place to
abbrev pub session_at : Place → List ℕ
session_at place =
    if place.me == 0 then place.game.host else slice_index_or place.game.roster (place.me - 1) (replicate 16 0)
