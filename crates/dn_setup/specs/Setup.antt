-- The packet by which the key player tells the others what was chosen (d_net.c).
use Rattle.std.specs.Prelude.{◌≡◌, ◌≢◌, ℕ, ◌+◌, ◌*◌, [], Result, Ok, Err, IsBitSet}
use Rattle.dn_packet.specs.declared.packet.Packet.{Packet}
use Rattle.dn_packet.specs.Flags as flag
use Rattle.dn_setup.specs.Settings.{Settings, IsSettings, bit}
use Rattle.dn_setup.specs.declared.setup.SetupFault.{SetupFault}
use Rattle.dn_setup.specs.declared.setup.SetupFault.TheVariants.{NotSetup, Version, Range}

-- four bits of skill, one for respawn, one for no monsters, and two of deathmatch, the lowest first
abbrev pub ask_byte : Settings → ℕ
ask_byte s = s.skill + 16 * bit s.respawn + 32 * bit s.no_monsters + 64 * s.deathmatch

-- six bits of map and two of episode, the lowest first
abbrev pub start_byte : Settings → ℕ
start_byte s = s.map + 64 * s.episode

-- the version of the game, which its set-up packets and the demos that it records carry
abbrev pub version : ℕ
version = 111

-- the packet of settings: flag SETUP alone, the version in the player's place, and no commands
abbrev pub setup_packet : Settings → Packet
setup_packet s = record {
  flags = flag.set_up;
  ask = ask_byte s;
  start = start_byte s;
  player = version;
  cmds = record { items = [] };
}

-- the flag SETUP, the second lowest, is set
abbrev pub HasSetup : Packet → Type 0
HasSetup p = IsBitSet p.flags 1

-- the packet's ask and start bytes are those of these settings
pub record Carries (p : Packet) (s : Settings) : Type 0 where
  pub in_range : IsSettings s
  pub ask : p.ask ≡ ask_byte s
  pub start : p.start ≡ start_byte s

-- What a packet says as a set-up packet: settings, or the first fault that it has.
-- Its other flags and its commands say nothing; out of range is what carries no settings at all.
abbrev pub IsSetupReadAs : Packet → Result Settings SetupFault → Type 0
IsSetupReadAs p (Ok s) = HasSetup p × (p.player ≡ version) × Carries p s
IsSetupReadAs p (Err NotSetup) = ¬ HasSetup p
IsSetupReadAs p (Err Version) = HasSetup p × (p.player ≢ version)
IsSetupReadAs p (Err Range) = HasSetup p × (p.player ≡ version) × ((s : Settings) → ¬ Carries p s)

-- settings or a fault that the packet says as a set-up packet
pub record Told (p : Packet) : Type 0 where
  pub told : Result Settings SetupFault
  pub is_told : IsSetupReadAs p told
