-- What is made of the options of a command line: each number and each flag is that of its own option.
use Rattle.std.specs.Prelude.{◌≡◌, ◌<◌, ◌^◌, ℕ, Bool, true, List, Option, Some, None, codes, ◌⊎◌}
use Rattle.std.specs.Str.Parse.{IsNumeral, digits_value, without_leading_plus}
use Rattle.clap.specs.Matches.{found_of, one_text}
use Rattle.clap.specs.declared.parser.matches.ArgMatches.{ArgMatches}
use Rattle.dn_setup.specs.Settings.{Settings, IsSettings}
use Rattle.dn_demo.specs.Recorded.{IsLimit}
use Rattle.dn_netgame.specs.Lines.Udp.{IsBase}
use Rattle.dn_lockstep.specs.Opening.{IsGame}
use Rattle.dn_game.specs.declared.config.GameConfig.{GameConfig}
use Rattle.dn_program.specs.declared.options.Pace.{Pace}
use Rattle.dn_session.specs.declared.greeting.Address.{Address}
use Rattle.dn_host.specs.declared.guest.Guest.{Guest}

-- a value that is found is right; and where none is found, no value is right
abbrev pub Finds : {A : Type 0} → (A → Type 0) → Option A → Type 0
Finds IsRight (Some found) = IsRight found
Finds {A} IsRight None = (a : A) → ¬ IsRight a

-- a text is a number of 32 bits: its decimal digits, and perhaps a plus before them
abbrev pub IsOptionNumber : List ℕ → ℕ → Type 0
IsOptionNumber text number = IsNumeral 10 (without_leading_plus text) × (number < 2 ^ 32)
    × (number ≡ digits_value 10 (without_leading_plus text))

-- the number of an option: of the text that clap reads for it, given or by default
abbrev pub IsNumberOf : ArgMatches → List ℕ → ℕ → Type 0
IsNumberOf matches name number = (text : List ℕ)
    × (one_text (found_of matches) name ≡ Some text) × IsOptionNumber text number

-- the number of an option, where it fits into a byte
abbrev pub IsByteOf : ArgMatches → List ℕ → ℕ → Type 0
IsByteOf matches name number = IsNumberOf matches name number × (number < 2 ^ 8)

-- whether a flag was given: clap keeps the text `true` for one that was, and for no other
pub record IsFlagOf (matches : ArgMatches) (name : List ℕ) (flag : Bool) : Type 0 where
  pub given : one_text (found_of matches) name ≡ Some (codes "true") → flag ≡ true
  pub only : flag ≡ true → one_text (found_of matches) name ≡ Some (codes "true")

-- a choice of game, each field by its own option
pub record IsSettingsOf (matches : ArgMatches) (settings : Settings) : Type 0 where
  pub skill : IsNumberOf matches (codes "skill") settings.skill
  pub episode : IsNumberOf matches (codes "episode") settings.episode
  pub map : IsNumberOf matches (codes "map") settings.map
  pub deathmatch : IsNumberOf matches (codes "deathmatch") settings.deathmatch
  pub respawn : IsFlagOf matches (codes "respawn") settings.respawn
  pub no_monsters : IsFlagOf matches (codes "nomonsters") settings.no_monsters
  pub in_range : IsSettings settings

-- the most bytes of a demo
pub record IsLimitOf (matches : ArgMatches) (limit : ℕ) : Type 0 where
  pub number : IsNumberOf matches (codes "limit") limit
  pub in_range : IsLimit limit

-- the rules of a game and its number of players, each by its own option
pub record IsGameOf (matches : ArgMatches) (game : GameConfig × ℕ) : Type 0 where
  pub players : IsNumberOf matches (codes "players") game.1
  pub choice : IsSettingsOf matches game.0.settings
  pub extra : IsFlagOf matches (codes "extra") game.0.extra
  pub limit : IsLimitOf matches game.0.limit
  pub in_range : IsGame game.1

-- the seed of a storm, how many events it has, and how many rounds without losses come after it
pub record IsStormOf (matches : ArgMatches) (storm : ℕ × ℕ × ℕ) : Type 0 where
  pub seed : IsNumberOf matches (codes "seed") storm.0
  pub count : IsNumberOf matches (codes "count") storm.1
  pub calm : IsNumberOf matches (codes "calm") storm.2

-- the seed of the keys, how many rounds there are, and the port of player 0
pub record IsRoundsOf (matches : ArgMatches) (rounds : ℕ × ℕ × ℕ) : Type 0 where
  pub seed : IsNumberOf matches (codes "seed") rounds.0
  pub count : IsNumberOf matches (codes "rounds") rounds.1
  pub base : IsNumberOf matches (codes "base") rounds.2
  pub in_range : IsBase rounds.2

-- how a session goes, each number by its own option
pub record IsPaceOf (matches : ArgMatches) (pace : Pace) : Type 0 where
  pub seed : IsNumberOf matches (codes "seed") pace.seed
  pub seconds : IsNumberOf matches (codes "seconds") pace.seconds

-- the number of an option, where it is a port's
abbrev pub IsPortOf : ArgMatches → ℕ → Type 0
IsPortOf matches port = IsNumberOf matches (codes "port") port × (port < 2 ^ 16)

-- whom a joiner calls, and which seat and how many players it wants, where its options say so
pub record IsGuestOf (host : Address) (matches : ArgMatches) (guest : Guest) : Type 0 where
  pub host_is : guest.host ≡ host
  pub seat : Finds (IsByteOf matches (codes "me")) guest.seat
  pub players : Finds (IsByteOf matches (codes "players")) guest.players

-- the port of a joiner: that of its options; else 0, for any that is free
abbrev pub IsOwnPort : ArgMatches → ℕ → Type 0
IsOwnPort matches port =
    IsPortOf matches port ⊎ (((given : ℕ) → ¬ IsPortOf matches given) × (port ≡ 0))
