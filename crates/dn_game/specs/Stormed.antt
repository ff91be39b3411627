-- A game that has played the events of a schedule.
use Rattle.std.specs.Prelude.{◌≡◌, ℕ, List, [], ◌∷◌, length, count_by, Some, Result, is_ok, is_err}
use Rattle.rand_pcg.specs.Lcg.{Lcg}
use Rattle.dn_setup.specs.Settings.{Settings}
use Rattle.dn_machine.specs.declared.events.Done.{Done}
use Rattle.dn_machine.specs.declared.events.Event.{Event}
use Rattle.dn_machine.specs.declared.events.Refusal.{Refusal}
use Rattle.dn_machine.specs.Game as machine
use Rattle.dn_machine.specs.Game.{opening_game}
use Rattle.dn_machine.specs.Worlds.{Rules}
use Rattle.dn_game.specs.declared.played.Played.{Played}
use Rattle.dn_game.specs.Contents.{contents, Represents}
use Rattle.dn_game.specs.Frame.{KeepsGiven}
use Rattle.dn_game.specs.Played.{Answers}
use Rattle.dn_game.specs.Schedule.{generator_of, behind_three, scheduled}

-- events that lead from a game to another, each with its answer, and each the one that the generator gives
-- for the game so far; the generator that is left
abbrev pub Follows : {S : Type 0} → Rules S → Lcg → machine.Game → List Event → List (Result Done Refusal)
    → Lcg → machine.Game → Type 0
Follows rules generator game [] [] rest last = (rest ≡ generator) × (last ≡ game)
Follows rules generator game (event ∷ events) (answer ∷ answers) rest last =
    (scheduled rules.players game generator ≡ Some event)
    × ((next : machine.Game) × Answers rules game event answer next
    × Follows rules (behind_three generator) next events answers rest last)
Follows rules generator game [] (answer ∷ answers) rest last = ⊥
Follows rules generator game (event ∷ events) [] rest last = ⊥

-- the game that is left represents one that `count` events of the seed's schedule lead to, and the answers
-- are counted
pub record IsStormed {W S : Type 0} (state : W → S) (rules : Rules S) (settings : Settings) (seed count : ℕ)
    (played : Played W) : Type 0 where
  pub events : List Event
  pub answers : List (Result Done Refusal)
  pub rest : Lcg
  pub last : machine.Game
  pub follows : Follows rules (generator_of seed) (opening_game settings) events answers rest last
  pub counted : length events ≡ count
  pub game : Represents state rules (contents played.game) last
  pub done : played.done ≡ count_by is_ok answers
  pub refused : played.refused ≡ count_by is_err answers

-- and a node has the world that was given for it, as after `IsPlayedFrom`
abbrev pub IsStormedFrom : {W S : Type 0} → (W → S) → Rules S → Settings → List W → (seed count : ℕ) → Played W
    → Type 0
IsStormedFrom state rules settings worlds seed count played =
    (run : IsStormed state rules settings seed count played)
    × KeepsGiven worlds run.events run.answers (contents played.game)
