-- Of what nodes are made, and what making one returns.
use Rattle.std.specs.Prelude.{◌≡◌, ◌≢◌, ℕ, Option, Some, None, Result, Ok, Err}
use Rattle.dn_setup.specs.Settings.{Settings, IsCheckedAs}
use Rattle.dn_setup.specs.declared.settings.SettingsFault.{SettingsFault}
use Rattle.dn_machine.specs.Game.{fresh}
use Rattle.dn_machine.specs.Started.{started_node}
use Rattle.dn_lockstep.specs.declared.config.Config.{Config}
use Rattle.dn_lockstep.specs.declared.config.NodeFault.{NodeFault}
use Rattle.dn_lockstep.specs.declared.lockstep.Lockstep.{Lockstep}
use Rattle.dn_lockstep.specs.Contents.{Contents, contents, whose}
use Rattle.dn_lockstep.specs.Opening.{IsAdmittedWithin, keyed, limits_within, whose_within}
use Rattle.dn_lockstep.specs.Represents.{Represents}
use Rattle.dn_seal.specs.Sealing.{sealed_with}
use Rattle.dn_seal.specs.declared.seal.Suite.TheVariants.{Secret}
use Rattle.dn_survivor.specs.OfOthers.{nothing_kept}
use Rattle.dn_link.specs.declared.link.Link.{Link}
use Rattle.dn_link.specs.Linking.{new_peer}
use Rattle.dn_link.specs.Pacing.{new_pace}
use Rattle.zirmegat.specs.declared.fault.Fault.{Fault}
use Rattle.zirmegat.specs.declared.held.Held.{Held}
use Rattle.zirmegat.specs.declared.held.Held.TheVariants as kind
use Rattle.zirmegat.specs.declared.nodes.NodeFields.{NodeFields}
use Rattle.zirmegat.specs.{Calls.IsKept, Choice.choice_in, Choice.is_set, Joined.Joined, Joined.joined_of}

-- player 0 has the settings asked for, if they are in range, and no other player has any
abbrev pub IsChosen : NodeFields → Result (Option Settings) SettingsFault → Type 0
IsChosen config (Ok None) = config.me ≢ 0
IsChosen config (Ok (Some settings)) = (config.me ≡ 0) × IsCheckedAs (choice_in config.settings) (Ok settings)
IsChosen config (Err fault) = (config.me ≡ 0) × IsCheckedAs (choice_in config.settings) (Err fault)

abbrev pub config_of : NodeFields → Option Settings → Config
config_of c settings =
    record { players = c.players; me = c.me; extra = is_set c.extra; limit = c.limit; settings = settings }

-- a node with no history
abbrev pub IsFresh : Config → ℕ → Contents → Type 0
IsFresh config ahead n = (settings : Settings) → (config.me ≡ 0 → config.settings ≡ Some settings)
    → Represents (limits_within config ahead) config.me n (fresh settings config.me)

-- by its settings, or why there are none, the lockstep that is made, or why there is none
abbrev pub IsLockstepBy : NodeFields → Result (Option Settings) SettingsFault → Result Lockstep Fault → Type 0
IsLockstepBy config (Err why) made = made ≡ Err (Fault.Settings why)
IsLockstepBy config (Ok settings) (Ok lockstep) =
    IsAdmittedWithin (config_of config settings) config.window (Ok lockstep)
    × IsFresh (config_of config settings) config.window (contents lockstep)
    × (whose (contents lockstep) ≡ whose_within (config_of config settings) config.window)
IsLockstepBy config (Ok settings) (Err fault) =
    (why : NodeFault) × (fault ≡ Fault.Node why)
    × IsAdmittedWithin {A = Lockstep} (config_of config settings) config.window (Err why)

-- the settings are looked at first, then the window, and then the rest
abbrev pub IsLockstep : NodeFields → Result Lockstep Fault → Type 0
IsLockstep config made =
    (chosen : Result (Option Settings) SettingsFault) × IsChosen config chosen × IsLockstepBy config chosen made

abbrev pub OpensLockstep : NodeFields → ℕ → Option Held → Type 0
OpensLockstep config code kept =
    (made : Result Lockstep Fault) × IsLockstep config made × IsKept kind.Lockstep made code kept

-- its lockstep plays with these settings from the beginning on, nobody is given up, nothing is known of its
-- peers, nor of its pace, and it has the seal of its secret and game
abbrev pub IsNew : NodeFields → Settings → Joined → Type 0
IsNew config settings n =
    Represents (limits_within (config_of config None) config.window) config.me n.link.node
    (started_node config.players settings config.me)
    × (whose n.link.node ≡ whose_within (config_of config None) config.window)
    × (n.link.others ≡ nothing_kept) × ((player : ℕ) → n.link.peers player ≡ new_peer) × (n.pace ≡ new_pace) × (n.seal ≡ sealed_with Secret config.secret config.game)

abbrev pub IsLinkBy : NodeFields → Result Settings SettingsFault → Result Link Fault → Type 0
IsLinkBy config (Err why) made = made ≡ Err (Fault.Settings why)
IsLinkBy config (Ok settings) (Ok link) =
    IsAdmittedWithin (keyed (config_of config None) settings) config.window (Ok link)
    × IsNew config settings (joined_of link)
IsLinkBy config (Ok settings) (Err fault) =
    (why : NodeFault) × (fault ≡ Fault.Node why)
    × IsAdmittedWithin {A = Link} (keyed (config_of config None) settings) config.window (Err why)

-- the settings are looked at first here too
abbrev pub IsLink : NodeFields → Result Link Fault → Type 0
IsLink config made =
    (checked : Result Settings SettingsFault) × IsCheckedAs (choice_in config.settings) checked
    × IsLinkBy config checked made

abbrev pub OpensLink : NodeFields → ℕ → Option Held → Type 0
OpensLink config code kept = (made : Result Link Fault) × IsLink config made × IsKept kind.Link made code kept
