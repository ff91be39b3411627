-- What is shown of a storm, and of the calm after it: rounds in which every packet arrives.
use Rattle.std.specs.Prelude.{◌≡◌, ℕ, Bool, true, false, List, [], ◌∷◌, Option, Some, None, codes, ◌⊎◌}
use Rattle.dn_world.specs.Plane.{Spots, walking}
use Rattle.dn_machine.specs.Game as machine
use Rattle.dn_machine.specs.Worlds.{Rules}
use Rattle.dn_game.specs.declared.config.GameConfig.{GameConfig}
use Rattle.dn_game.specs.declared.played.Played.{Played}
use Rattle.dn_game.specs.Applied.{Tells}
use Rattle.dn_game.specs.Contents.{Contents, contents}
use Rattle.dn_game.specs.GoingOn.{IsCalmed}
use Rattle.dn_game.specs.Opening.{rules_in}
use Rattle.dn_game.specs.Rounds.{rounds_events}
use Rattle.dn_game.specs.Rounds.{pressed_by, IsUnsent, IsCutShort}
use Rattle.dn_game.specs.declared.rounds.RoundFault.TheVariants.{Packets}
use Rattle.dn_game.specs.Stormed.{IsStormed}
use Rattle.dn_netgame.specs.Told.{Account}

-- nobody presses a key
abbrev pub no_keys : List ℕ
no_keys = 0 ∷ 0 ∷ 0 ∷ 0 ∷ []

-- `calm` good rounds of `before`, in which nobody presses a key, were cut short at the game that is left, since
-- 2^32 packets were sent
pub record AreCutShort (rules : Rules Spots) (calm : ℕ) (m : machine.Game) (before left : Contents Spots)
    : Type 0 where
  pub cut : IsCutShort (λ spots. spots) rules (rounds_events rules (λ round. pressed_by no_keys) calm m) m
      before left
  pub unsent : IsUnsent left Packets

-- whether `played` is `before` after `calm` more good rounds in which nobody presses a key, for each game of
-- the machine that `before` represents; else these were cut short
abbrev pub Calms : ℕ → Played Spots → Played Spots → Bool → Type 0
Calms calm before played true =
    Tells (λ spots. spots) walking (contents before.game)
    (λ rules m. IsCalmed (λ spots. spots) rules (pressed_by no_keys) calm m before played)
Calms calm before played false =
    Tells (λ spots. spots) walking (contents before.game)
    (λ rules m. AreCutShort rules calm m (contents before.game) (contents played.game))

-- where a calm follows a storm; where none does, `played` is `before`
abbrev pub CalmsAfter : Option ℕ → Played Spots → Played Spots → Bool → Type 0
CalmsAfter (Some calm) before played calmed = Calms calm before played calmed
CalmsAfter None before played calmed = (played ≡ before) × (calmed ≡ true)

-- after this many events of the seed's schedule such rounds were cut short
abbrev pub Overflows : GameConfig → ℕ → (seed count calm : ℕ) → Type 0
Overflows config players seed count calm =
    (before : Played Spots)
    × (s : IsStormed (λ spots. spots) (rules_in walking config players) config.settings seed count before)
    × ((left : Contents Spots)
    × AreCutShort (rules_in walking config players) calm s.last (contents before.game) left)

-- the line and the exit status where the rounds were cut short
abbrev pub too_many : List ℕ
too_many = codes "too many packets\n"

-- a game of this many walkers has played this many events of the seed's schedule
abbrev pub WalksUnder : GameConfig → ℕ → (seed count : ℕ) → Played Spots → Type 0
WalksUnder config players seed count played =
    IsStormed (λ spots. spots) (rules_in walking config players) config.settings seed count played

-- the lines and the exit status are those of such a game, told in this way; or, where a calm follows, those of
-- a game that has then played so many good rounds in which nobody presses a key, or of such rounds that were
-- cut short
abbrev pub IsStorm : Account → GameConfig → ℕ → (seed count : ℕ) → (calm : Option ℕ) → List ℕ → ℕ → Type 0
IsStorm IsText config players seed count None lines status =
    (played : Played Spots) × (s : WalksUnder config players seed count played)
    × IsText s.events s.answers played lines × (status ≡ 0)
IsStorm IsText config players seed count (Some calm) lines status =
    ((before : Played Spots) × (s : WalksUnder config players seed count before)
    × ((played : Played Spots) × IsCalmed (λ spots. spots) (rules_in walking config players) (pressed_by no_keys)
    calm s.last before played
    × IsText s.events s.answers played lines × (status ≡ 0)))
    ⊎ (Overflows config players seed count calm × (lines ≡ too_many) × (status ≡ 3))
