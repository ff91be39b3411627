-- A choice of game, and what a game of some settings starts from.
use Rattle.std.specs.Prelude.{◌≡◌, ◌≤◌, ℕ, Bool, Result, Ok, Err, if◌then◌else◌}
use Rattle.dn_setup.specs.declared.settings.SettingsFault.{SettingsFault}
use Rattle.dn_setup.specs.declared.settings.SettingsFault.TheVariants.{Skill, Deathmatch, Episode, Map}
use Rattle.dn_setup.specs.declared.settings.Start.{Start}

-- a choice of game
pub record Settings : Type 0 where
  pub skill : ℕ
  pub deathmatch : ℕ
  pub no_monsters : Bool
  pub respawn : Bool
  pub episode : ℕ
  pub map : ℕ

-- the choice of these
abbrev pub choice : ℕ → ℕ → Bool → Bool → ℕ → ℕ → Settings
choice skill deathmatch no_monsters respawn episode map =
    record {
      skill = skill;
      deathmatch = deathmatch;
      no_monsters = no_monsters;
      respawn = respawn;
      episode = episode;
      map = map;
    }

-- five skills, the easiest is 0 (doomdef.h)
abbrev pub IsSkill : ℕ → Type 0
IsSkill skill = skill ≤ 4

-- 0 for none, and its two kinds (d_main.c)
abbrev pub IsDeathmatch : ℕ → Type 0
IsDeathmatch deathmatch = deathmatch ≤ 2

-- three episodes, since a packet has two bits for them
abbrev pub IsEpisode : ℕ → Type 0
IsEpisode episode = (1 ≤ episode) × (episode ≤ 3)

-- maps up to the last of Doom II, the first is 1
abbrev pub IsMap : ℕ → Type 0
IsMap map = (1 ≤ map) × (map ≤ 32)

-- every field is in range
pub record IsSettings (s : Settings) : Type 0 where
  pub skill : IsSkill s.skill
  pub deathmatch : IsDeathmatch s.deathmatch
  pub episode : IsEpisode s.episode
  pub map : IsMap s.map

-- what a choice is answered with: itself where every field is in range, and else the first field that is not
abbrev pub IsCheckedAs : Settings → Result Settings SettingsFault → Type 0
IsCheckedAs s (Ok settings) = IsSettings s × (settings ≡ s)
IsCheckedAs s (Err Skill) = ¬ IsSkill s.skill
IsCheckedAs s (Err Deathmatch) = IsSkill s.skill × ¬ IsDeathmatch s.deathmatch
IsCheckedAs s (Err Episode) = IsSkill s.skill × IsDeathmatch s.deathmatch × ¬ IsEpisode s.episode
IsCheckedAs s (Err Map) = IsSkill s.skill × IsDeathmatch s.deathmatch × IsEpisode s.episode × ¬ IsMap s.map

-- 1 for true and 0 for false
abbrev pub bit : Bool → ℕ
bit b = if b then 1 else 0

-- the seven bytes of a demo's header; no choice has fast monsters
abbrev pub start_of : Settings → Start
start_of s =
    record {
      skill = s.skill;
      episode = s.episode;
      map = s.map;
      deathmatch = s.deathmatch;
      respawn = bit s.respawn;
      fast = 0;
      no_monsters = bit s.no_monsters;
    }
