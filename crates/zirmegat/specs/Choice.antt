-- The choice of game as plain numbers.
use Rattle.std.specs.Prelude.{ℕ, ◌==◌, Bool, not, Option, Some, None}
use Rattle.dn_setup.specs.Settings.{Settings, bit, choice}
use Rattle.zirmegat.specs.declared.settings.GameSettings.{GameSettings}

-- flags of C: 0 is no
abbrev pub is_set : ℕ → Bool
is_set flag = not (flag == 0)

abbrev pub choice_in : GameSettings → Settings
choice_in s = choice s.skill s.deathmatch (is_set s.no_monsters) (is_set s.respawn) s.episode s.map

abbrev pub choice_told : Settings → GameSettings
choice_told s =
    record {
      skill = s.skill;
      deathmatch = s.deathmatch;
      no_monsters = bit s.no_monsters;
      respawn = bit s.respawn;
      episode = s.episode;
      map = s.map;
    }

abbrev pub no_choice : GameSettings
no_choice = record { skill = 0; deathmatch = 0; no_monsters = 0; respawn = 0; episode = 0; map = 0 }

-- all 0 where they are not known
abbrev pub settings_told : Option Settings → GameSettings
settings_told (Some settings) = choice_told settings
settings_told None = no_choice
