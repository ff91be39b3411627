-- The terms of a game.
use Rattle.std.specs.{Prelude.{◌≡◌, ℕ, ◌^◌, ◌<◌, ◌&&◌, ◌++◌, Bool, not, true, false, nat_le, if◌then◌else◌, List, [], ◌∷◌, length, Option, Some, None}, Int.{w32, to_le_bytes}}
use Rattle.dn_setup.specs.Settings.{IsSettings, Settings}
use Rattle.dn_session.specs.declared.{terms.LobbyFault.LobbyFault, terms.Policy.Policy, terms.Terms.Terms, terms.Policy.TheVariants.End, terms.Policy.TheVariants.GiveUp, terms.Policy.TheVariants.Wait}
use Rattle.dn_session.specs.declared.terms.LobbyFault.TheVariants as fault

abbrev pub bit : Bool → ℕ
bit true = 1
bit false = 0

abbrev pub settings_bytes : Settings → List ℕ
settings_bytes s =
    s.skill ∷ s.deathmatch ∷ bit s.no_monsters ∷ bit s.respawn ∷ s.episode ∷ s.map ∷ []

abbrev pub policy_bytes : Policy → List ℕ
policy_bytes Wait = 1 ∷ 0 ∷ []
policy_bytes (GiveUp seconds) = 2 ∷ seconds ∷ []
policy_bytes (End seconds) = 3 ∷ seconds ∷ []

-- the 288 bytes of the terms
abbrev pub terms_bytes : Terms → List ℕ
terms_bytes terms =
    terms.players ∷ bit terms.extra ∷ terms.ahead ∷ terms.rate ∷ (to_le_bytes w32 terms.limit
    ++ (settings_bytes terms.settings ++ (policy_bytes terms.policy ++ (terms.identity ++ terms.own))))

-- two to four play
abbrev pub is_count : ℕ → Bool
is_count players = nat_le 2 players && nat_le players 4

-- a player makes one to twelve commands ahead
abbrev pub is_ahead : ℕ → Bool
is_ahead ahead = nat_le 1 ahead && nat_le ahead 12

-- nobody is given up, and no game ends, for a silence of less than three seconds: a sign of life counts for two
abbrev pub is_policy : Policy → Bool
is_policy Wait = true
is_policy (GiveUp seconds) = nat_le 3 seconds
is_policy (End seconds) = nat_le 3 seconds

-- the first of the terms that no game may have: one to 35 tics are played a second, and a demo has 1,024 to 16,777,216
-- bytes, as a recorder has it (`IsLimit` of `dn_demo`). A link of terms without one can be refused for want of memory
-- alone
abbrev pub terms_fault : Terms → Option LobbyFault
terms_fault terms =
    if not (is_count terms.players) then Some fault.Players else (
    if not (is_ahead terms.ahead) then Some fault.Ahead else (
    if not (nat_le 1 terms.rate && nat_le terms.rate 35) then Some fault.Rate else (
    if not (nat_le 1024 terms.limit && nat_le terms.limit 16777216) then Some fault.Limit else (
    if not (is_policy terms.policy) then Some fault.Policy else None))))

-- there is none, and the other fields fit
pub record IsTerms (terms : Terms) : Type 0 where
  pub fits : terms_fault terms ≡ None
  pub limit : terms.limit < 2 ^ 32
  pub settings : IsSettings terms.settings
  pub identity : length terms.identity ≡ 16
  pub own : length terms.own ≡ 256
