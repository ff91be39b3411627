-- What a game of links is made as.
use Rattle.std.specs.Prelude.{◌≡◌, ℕ, None, Some, List, length, slice_get, Result}
use Rattle.dn_world.specs.Physics.{Physics}
use Rattle.dn_machine.specs.Limits.{Limits}
use Rattle.dn_lockstep.specs.{Opening.{IsAdmittedWithin, keyed, limits_within}, declared.config.{Config.Config, NodeFault.NodeFault}}
use Rattle.dn_link_game.specs.{Games.IsNew, declared.config.LinkGameConfig.LinkGameConfig, declared.player.Player.Player}

-- the configuration of a player's link
abbrev pub config_of : LinkGameConfig → (players me : ℕ) → Config
config_of config players me =
    record { players = players; me = me; extra = config.extra; limit = config.limit; settings = None }

-- the limits of each
abbrev pub limits_of : LinkGameConfig → ℕ → Limits
limits_of config players = limits_within (config_of config players 0) config.ahead

-- a link is made where nothing is wrong, and else refused for the first thing that is: that the window is none, that
-- there are not two to four players, and that the demos' limit is out of range. `Memory` is answered only where
-- nothing is
abbrev pub IsAdmittedAs : {A : Type 0} → LinkGameConfig → (players me : ℕ) → Result A NodeFault → Type 0
IsAdmittedAs config players me = IsAdmittedWithin (keyed (config_of config players me) config.settings) config.ahead

-- and so is a game
abbrev pub IsAdmitted : {A : Type 0} → LinkGameConfig → ℕ → Result A NodeFault → Type 0
IsAdmitted config worlds = IsAdmittedAs config worlds 0

-- each of these players of a game of so many is new
abbrev pub EachIsNew : {W S : Type 0} → (W → S) → Physics S → LinkGameConfig → ℕ → List (Player W) → Type 0
EachIsNew {W} state physics config count players = (i : ℕ) (player : Player W) → slice_get players i ≡ Some player
    → IsNew state physics (limits_of config count) config.settings config.seal i player

-- and they are so many
abbrev pub AreNew : {W S : Type 0} → (W → S) → Physics S → LinkGameConfig → ℕ → List (Player W) → Type 0
AreNew state physics config count players =
    (length players ≡ count) × EachIsNew state physics config count players
