-- What a game is made as, and the nodes of a game that opens.
use Rattle.std.specs.Prelude.{ℕ, ◌==◌, if◌then◌else◌, Some, None, Result, Ok, Err, ◌≡◌, List, All, map, slice_get}
use Rattle.dn_setup.specs.Settings.{Settings}
use Rattle.dn_demo.specs.Recorded.{IsLimit, capacity}
use Rattle.dn_world.specs.Physics.{Physics}
use Rattle.dn_machine.specs.Worlds.{Rules, rules_of}
use Rattle.dn_machine.specs.Game.{fresh}
use Rattle.dn_lockstep.specs.declared.config.Config.{Config}
use Rattle.dn_lockstep.specs.Opening.{IsGame}
use Rattle.dn_node.specs.Kept.{Kept}
use Rattle.dn_node.specs.Contents.{contents, Represents}
use Rattle.dn_game.specs.declared.config.GameConfig.{GameConfig}
use Rattle.dn_game.specs.declared.config.GameFault.{GameFault}
use Rattle.dn_game.specs.declared.config.GameFault.TheVariants.{Players, Limit, Memory}
use Rattle.dn_game.specs.declared.going_on.PlayOnFault.{PlayOnFault}
use Rattle.dn_game.specs.declared.going_on.PlayOnFault.TheVariants.{Game, Round}

-- a game of this many worlds is made where nothing is wrong, and else refused for the first thing that is
-- wrong; `Memory` is answered only where nothing else is
abbrev pub IsAdmitted : {A : Type 0} → GameConfig → ℕ → Result A GameFault → Type 0
IsAdmitted config worlds (Ok game) = IsGame worlds × IsLimit config.limit
IsAdmitted config worlds (Err Players) = ¬ IsGame worlds
IsAdmitted config worlds (Err Limit) = IsGame worlds × ¬ IsLimit config.limit
IsAdmitted config worlds (Err Memory) = IsGame worlds × IsLimit config.limit

-- a game is made as above; only then can a round stop
abbrev pub IsAdmittedOn : {A : Type 0} → GameConfig → ℕ → Result A PlayOnFault → Type 0
IsAdmittedOn config worlds (Ok game) = IsGame worlds × IsLimit config.limit
IsAdmittedOn {A} config worlds (Err (Game fault)) = IsAdmitted {A = A} config worlds (Err fault)
IsAdmittedOn config worlds (Err (Round fault)) = IsGame worlds × IsLimit config.limit

-- what never changes in a game of this many worlds
abbrev pub rules_in : {S : Type 0} → Physics S → GameConfig → ℕ → Rules S
rules_in physics config worlds = rules_of physics worlds config.extra (capacity config.limit worlds)

-- the configuration of a player's node: player 0 has the settings
abbrev pub config_of : GameConfig → ℕ → ℕ → Config
config_of config players me =
    record {
      players = players;
      me = me;
      extra = config.extra;
      limit = config.limit;
      settings = if me == 0 then Some config.settings else None;
    }

-- this holds of each, by its number
abbrev pub EachIs : {N : Type 0} → (ℕ → N → Type 0) → List N → Type 0
EachIs {N} Is nodes = (i : ℕ) (n : N) → slice_get nodes i ≡ Some n → Is i n

-- each represents a node of no history
abbrev pub AreFresh : {W S : Type 0} → (W → S) → Rules S → Settings → List (Kept W) → Type 0
AreFresh state rules settings =
    EachIs (λ i n. Represents state rules i (contents n) (fresh settings i))

-- each node's demo has memory for this many bytes
abbrev pub AreLimited : {W : Type 0} → ℕ → List (Kept W) → Type 0
AreLimited limit nodes = All (λ n. n.demo.limit ≡ limit) nodes

-- the worlds of nodes, in order
abbrev pub worlds_of : {W : Type 0} → List (Kept W) → List W
worlds_of nodes = map (λ n. n.world) nodes
