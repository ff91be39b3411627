-- Why calls fail, as plain numbers.
use Rattle.std.specs.Prelude.{ℕ, Bool, if◌then◌else◌}
use Rattle.dn_setup.specs.declared.settings.SettingsFault.{SettingsFault}
use Rattle.dn_demo.specs.declared.demo.DemoFault.{DemoFault}
use Rattle.dn_lockstep.specs.declared.config.NodeFault.{NodeFault}
use Rattle.dn_session.specs.declared.terms.LobbyFault.{LobbyFault}
use Rattle.zirmegat.specs.declared.fault.Fault.{Fault}

-- why settings are refused
abbrev pub settings_code : SettingsFault → ℕ
settings_code SettingsFault.Skill = 14
settings_code SettingsFault.Deathmatch = 15
settings_code SettingsFault.Episode = 16
settings_code SettingsFault.Map = 17

-- why the other terms of a session are
abbrev pub lobby_code : LobbyFault → ℕ
lobby_code LobbyFault.Players = 8
lobby_code LobbyFault.Ahead = 9
lobby_code LobbyFault.Rate = 10
lobby_code LobbyFault.Limit = 11
lobby_code LobbyFault.Policy = 12
lobby_code LobbyFault.Seat = 13

-- why no node is made; 5 is never answered: player 0 always has settings here, and no other player has
abbrev pub node_code : NodeFault → ℕ
node_code NodeFault.Memory = 3
node_code NodeFault.Key = 5
node_code NodeFault.Players = 8
node_code NodeFault.Ahead = 9
node_code NodeFault.Limit = 11
node_code NodeFault.Me = 24

-- why bytes are no demo
abbrev pub demo_code : DemoFault → ℕ
demo_code DemoFault.Memory = 3
demo_code DemoFault.Short = 19
demo_code DemoFault.Version = 20
demo_code DemoFault.NoPlayers = 21
demo_code DemoFault.NoMarker = 22

-- 0 is for a call that did what it is for
abbrev pub fault_code : Fault → ℕ
fault_code Fault.Handle = 1
fault_code Fault.Size = 2
fault_code Fault.Memory = 3
fault_code Fault.Room = 4
fault_code Fault.NotNow = 5
fault_code Fault.Key = 6
fault_code Fault.Random = 7
fault_code (Fault.Settings fault) = settings_code fault
fault_code (Fault.Lobby fault) = lobby_code fault
fault_code (Fault.Node fault) = node_code fault
fault_code Fault.Text = 18
fault_code (Fault.Demo fault) = demo_code fault
fault_code Fault.Tic = 23
fault_code Fault.Full = 25

-- it did, or it is not possible now
abbrev pub done_code : Bool → ℕ
done_code done = if done then 0 else 5
