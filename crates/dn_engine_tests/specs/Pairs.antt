-- The two locksteps of a game, and the packets that come late.
use Rattle.std.specs.Prelude.{◌≡◌, ◌⊎◌, ℕ, Bool, false, List, [], ◌∷◌, Option, Some, None, slice_get}
use Rattle.dn_tic.specs.declared.command.Move.{Move}
use Rattle.dn_tic.specs.declared.command.TicCmd.{TicCmd}
use Rattle.dn_tic.specs.declared.input.Command.{Command}
use Rattle.dn_setup.specs.Settings.{Settings}
use Rattle.dn_machine.specs.declared.answers.Made.{Made}
use Rattle.dn_machine.specs.declared.answers.Ran.{Ran}
use Rattle.dn_machine.specs.Game.{fresh}
use Rattle.dn_machine.specs.Limits.{Limits}
use Rattle.dn_machine.specs.Promise.{IsPrefixOf}
use Rattle.dn_lockstep.specs.declared.config.Config.{Config}
use Rattle.dn_lockstep.specs.Contents.{Contents, contents, whose}
use Rattle.dn_lockstep.specs.Agreed.{recorded}
use Rattle.dn_lockstep.specs.OneGame.{AreOneGame}
use Rattle.dn_lockstep.specs.Opening.{limits_within, whose_within}
use Rattle.dn_lockstep.specs.Represents.{Represents}
use Rattle.dn_lockstep.specs.OneGame.{Session}
use Rattle.dn_lockstep.specs.Told.{command_told}
use Rattle.dn_engine_tests.specs.Calls.{counting, AreFor, Takes, RunsOn, Leaves, Passes}
use Rattle.dn_engine_tests.specs.declared.pairs.Pair.{Pair}

-- they are those of one game of two, and the parcels have packets of it
pub record IsOneGame (settings : Settings) (pair : Pair) : Type 0 where
  pub limits : Limits
  pub session : Session
  pub game : AreOneGame counting limits settings session
  pub two : limits.players ≡ 2
  pub first : session.locksteps 0 ≡ contents pair.first
  pub second : session.locksteps 1 ≡ contents pair.second
  pub first_late : AreFor session.given 1 pair.from_first
  pub second_late : AreFor session.given 0 pair.from_second

-- and so they stay
abbrev pub Stays : Pair → Pair → Type 0
Stays old new = (settings : Settings) → IsOneGame settings old → IsOneGame settings new

-- how the two are opened: player 0's with the settings, and player 1's without
abbrev pub host : Settings → ℕ → Config
host settings limit =
    record { players = 2; me = 0; extra = false; limit = limit; settings = Some settings }

abbrev pub guest : ℕ → Config
guest limit = record { players = 2; me = 1; extra = false; limit = limit; settings = None }

-- a lockstep with no history of this configuration, in this window
pub record IsFresh (config : Config) (ahead : ℕ) (settings : Settings) (n : Contents) : Type 0 where
  pub node : Represents (limits_within config ahead) config.me n (fresh settings config.me)
  pub same : whose n ≡ whose_within config ahead

-- a pair that nothing was done with
pub record IsOpened (settings : Settings) (limit ahead : ℕ) (pair : Pair) : Type 0 where
  pub first : IsFresh (host settings limit) ahead settings (contents pair.first)
  pub second : IsFresh (guest limit) ahead settings (contents pair.second)
  pub first_late : pair.from_first ≡ None
  pub second_late : pair.from_second ≡ None

-- what is late stays
abbrev pub KeepsLate : Pair → Pair → Type 0
KeepsLate old new = (new.from_first ≡ old.from_first) × (new.from_second ≡ old.from_second)

-- each takes its command
pub record TakeBoth (commands : List Command) (old new : Pair) : Type 0 where
  pub first : (command : Command) × (made : Made) × (slice_get commands 0 ≡ Some command)
      × Takes command (contents old.first) (contents new.first) made
  pub second : (command : Command) × (made : Made) × (slice_get commands 1 ≡ Some command)
      × Takes command (contents old.second) (contents new.second) made
  pub late : KeepsLate old new

-- the first's packets go to the second, and then the second's to the first
pub record Exchange (old new : Pair) : Type 0 where
  pub heard : Contents
  pub sent : Contents
  pub there : Passes 0 1 (contents old.first) sent (contents old.second) heard old.from_first new.from_first
  pub back : Passes 1 0 heard (contents new.second) sent (contents new.first) old.from_second new.from_second

-- one of them runs a tic if it can
abbrev pub RunsOne : Contents → Contents → Type 0
RunsOne old new = (ran : Ran) × (row : Option (List (Option Move))) × RunsOn old new ran row

pub record RunBoth (old new : Pair) : Type 0 where
  pub first : RunsOne (contents old.first) (contents new.first)
  pub second : RunsOne (contents old.second) (contents new.second)
  pub late : KeepsLate old new

-- a round: their commands, their packets, and a tic of each
abbrev pub Round : List Command → Pair → Pair → Type 0
Round commands old new =
    (taken : Pair) × (heard : Pair) × TakeBoth commands old taken × Exchange taken heard × RunBoth heard new

-- a round for each two commands
abbrev pub Rounds : List (List Command) → Pair → Pair → Type 0
Rounds [] old new = new ≡ old
Rounds (commands ∷ more) old new = (next : Pair) × Round commands old next × Rounds more next new

-- the second leaves, and the first hears of it and runs a tic if it can
pub record SecondLeaves (old new : Pair) : Type 0 where
  pub answer : Bool
  pub left : Pair
  pub heard : Pair
  pub leaves : Leaves (contents old.second) (contents left.second) answer
  pub first_stays : left.first ≡ old.first
  pub still_late : KeepsLate old left
  pub tells : Exchange left heard
  pub runs : RunsOne (contents heard.first) (contents new.first)
  pub second_stays : new.second ≡ heard.second
  pub late : KeepsLate heard new

-- a whole game
abbrev pub IsPlayed : Settings → (limit ahead : ℕ) → List (List Command) → Pair → Type 0
IsPlayed settings limit ahead commands pair =
    (opened : Pair) × (last : Pair) × IsOpened settings limit ahead opened × Rounds commands opened last
    × SecondLeaves last pair

-- of their demos one's commands are a prefix of the other's, and a player's command for a tic that both tell is
-- the same, with its mark and its letter of chat
abbrev pub HaveAgreed : (first second : Contents) → Type 0
HaveAgreed first second =
    (IsPrefixOf (recorded first) (recorded second) ⊎ IsPrefixOf (recorded second) (recorded first))
    × ((player tic : ℕ) (one other : TicCmd) → command_told first player tic ≡ Some one
    → command_told second player tic ≡ Some other → one ≡ other)
