-- What is printed of nodes that played over UDP: of one, and of all the nodes of a game.
use Rattle.std.specs.Prelude.{◌≡◌, ◌⊎◌, ℕ, Bool, false, List, codes, Some, if◌then◌else◌, ◌-◌, [], length}
use Rattle.dn_setup.specs.Settings.{Settings}
use Rattle.dn_world.specs.Physics.{Physics}
use Rattle.dn_world.specs.Plane.{Spots, walking}
use Rattle.dn_netgame.specs.Lines.Udp.{Ports, UdpSends, UdpPolls}
use Rattle.dn_machine.specs.Game.{fresh}
use Rattle.dn_machine.specs.Node.{put}
use Rattle.dn_machine.specs.Running.{on_quit}
use Rattle.dn_lockstep.specs.declared.config.Config.{Config}
use Rattle.dn_lockstep.specs.Opening.{limits_in}
use Rattle.dn_node.specs.Contents.{Contents}
use Rattle.dn_node.specs.Contents.{Represents}
use Rattle.dn_netgame.specs.Turning.{Sends, Polls, Seat, Table, TakeRounds, rules_at, AreSeated}
use Rattle.dn_netgame.specs.Texts.{node_line, node_lines}
use Rattle.dn_node.specs.declared.node.Node.{Node}
use Rattle.dn_game.specs.declared.config.GameConfig.{GameConfig}
use Rattle.dn_game.specs.Opening.{config_of}

-- ports of players that are bound here, and no call has failed
abbrev pub new_ports : (base first last players : ℕ) → Ports
new_ports base first last players =
    record { base = base; first = first; last = last; players = players; failed = 0 }

-- how many calls on them failed
abbrev pub failures : Ports → ℕ
failures ports = ports.failed

-- the seat of a new node
abbrev pub new_seat : Config → Settings → Seat
new_seat config settings =
    record { limits = limits_in config; me = config.me; node = fresh settings config.me }

-- the node at a place quits
abbrev pub with_quit : {L : Type 0} → ℕ → Table L → Table L
with_quit place table =
    (put table.0 place (record (table.0 place) { node = (on_quit (table.0 place).node).0 }), table.1)

-- `count` rounds of one node, which then quits, and four rounds more
pub record PlaysOut {S L : Type 0} (sends : Sends L) (polls : Polls L) (failed : L → ℕ) (physics : Physics S)
    (seed count : ℕ) (old new : Table L) : Type 0 where
  pub mid : Table L
  pub rounds : TakeRounds sends polls failed physics seed 1 count old mid
  pub farewells : TakeRounds sends polls failed physics seed 1 4 (with_quit 0 mid) new

-- a node has played so since it was new
pub record HasPlayed (config : Config) (settings : Settings) (base seed count : ℕ)
    (n : Contents Spots) : Type 0 where
  pub last : Table Ports
  pub plays : PlaysOut UdpSends UdpPolls failures walking seed count
      (λ place. new_seat config settings, new_ports base config.me config.me config.players) last
  pub node : Represents (λ spots. spots) (rules_at walking (last.0 0)) (last.0 0).me n (last.0 0).node

-- player 0 has played so from the settings of its configuration; another player has none there, and has
-- played so from any settings
abbrev pub HasEverPlayed : Config → (base seed count : ℕ) → Contents Spots → Type 0
HasEverPlayed config base seed count n =
    (settings : Settings) → (config.me ≡ 0 → config.settings ≡ Some settings)
    → HasPlayed config settings base seed count n

-- the output and the exit status are those of such a node, or of a socket that cannot be bound
abbrev pub IsPlay : Config → (base seed count : ℕ) → Bool → List ℕ → ℕ → Type 0
IsPlay config base seed count raw lines status =
    ((lines ≡ codes "socket fault\n") × (status ≡ 3))
    ⊎ ((n : Contents Spots) × HasEverPlayed config base seed count n
    × (lines ≡ (if raw then n.demo.bytes else node_line n false)) × (status ≡ 0))

-- the seats of a game's new nodes
abbrev pub new_seats : GameConfig → ℕ → ℕ → Seat
new_seats config players place = new_seat (config_of config players place) config.settings

-- these nodes have played `count` rounds with each other since they were new, over ports that are all bound
-- here
pub record HavePlayed (config : GameConfig) (players base seed count : ℕ) (nodes : List (Node Spots)) : Type 0
  where
    pub last : Table Ports
    pub rounds : TakeRounds UdpSends UdpPolls failures walking seed players count
        (new_seats config players, new_ports base 0 (players - 1) players) last
    pub seated : AreSeated (λ spots. spots) walking nodes last.0
    pub each : length nodes ≡ players

-- the output and the exit status are those of such nodes, or of a socket that cannot be bound
abbrev pub IsLoop : GameConfig → (players base seed count : ℕ) → List ℕ → ℕ → Type 0
IsLoop config players base seed count lines status =
    ((lines ≡ codes "socket fault\n") × (status ≡ 3))
    ⊎ ((nodes : List (Node Spots)) × HavePlayed config players base seed count nodes
    × (lines ≡ node_lines [] 0 nodes) × (status ≡ 0))
