-- A game in which everybody plays from the beginning on: who is in it was agreed on elsewhere, and each node is given
-- the settings where it is made. It is one of the games of 1997, some events after its opening.
use Rattle.std.specs.Prelude.{◌≡◌, ℕ, zero, suc, ◌+◌, ◌*◌, ◌-◌, ◌<◌, ◌≤◌, ◌==◌, ◌&&◌, nat_lt, nat_le, if◌then◌else◌, Bool, false, true, List, [], ◌∷◌, ◌++◌, Some, None}
use Rattle.dn_setup.specs.Settings.{Settings}
use Rattle.dn_setup.specs.Gathered.{is_peer}
use Rattle.dn_machine.specs.declared.answers.Phase.TheVariants.{Playing}
use Rattle.dn_machine.specs.declared.events.Event.{Event}
use Rattle.dn_machine.specs.declared.events.Event.TheVariants.{Send, Deliver}
use Rattle.dn_machine.specs.Flight.{SetUp, Play, Flight}
use Rattle.dn_machine.specs.Game.{Game, fresh}
use Rattle.dn_machine.specs.Node.{Node}

-- node `me` of so many, before anybody made a command: it plays, and player 0 has heard all others
abbrev pub started_node : ℕ → Settings → ℕ → Node
started_node players settings me =
    record (fresh settings me) {
      phase = Playing;
      played = true;
      settings = Some settings;
      noted = if me == 0 then is_peer players else (λ player. false);
    }

-- player 0 once so many others have answered, the lowest first: it gathers on until all have
abbrev pub heard_by : ℕ → ℕ → Bool
heard_by others player = nat_lt 0 player && nat_le player others

abbrev pub key_node : ℕ → Settings → ℕ → Node
key_node players settings others =
    if nat_lt (others + 1) players
    then record (fresh settings 0) { noted = heard_by others }
    else started_node players settings 0

-- what player 0 sends a player before, and what that one answers
abbrev pub set_up_of : Settings → ℕ → Flight
set_up_of settings player =
    record { from = 0; to = player; kind = SetUp settings; start = 0; request = None; commands = [] }

abbrev pub answer_of : ℕ → Flight
answer_of player = record { from = player; to = 0; kind = Play; start = 0; request = None; commands = [] }

-- all that so many others were sent and answered, one player after another
unfoldable pub start_flights : Settings → ℕ → List Flight
start_flights settings zero = []
start_flights settings (suc others) =
    start_flights settings others ++ set_up_of settings (others + 1) ∷ answer_of (others + 1) ∷ []

-- by these events
abbrev pub joining : ℕ → List Event
joining others = Send 0 (others + 1) ∷ Deliver (2 * others) ∷ Send (others + 1) 0 ∷ Deliver (2 * others + 1) ∷ []

unfoldable pub start_events : ℕ → List Event
start_events zero = []
start_events (suc others) = start_events others ++ joining others

-- the game then
pub record IsStarted (players : ℕ) (settings : Settings) (game : Game) : Type 0 where
  pub nodes : (player : ℕ) → player < players → game.nodes player ≡ started_node players settings player
  pub others : (player : ℕ) → players ≤ player → game.nodes player ≡ fresh settings player
  pub flights : game.flights ≡ start_flights settings (players - 1)
  pub going : (player : ℕ) → game.stopped player ≡ false
