-- What an observer was told of the events of a game.
use Rattle.std.specs.Prelude.{◌≡◌, ℕ, ◌+◌, List, [], ◌∷◌, Result}
use Rattle.dn_setup.specs.Settings.{Settings}
use Rattle.dn_machine.specs.declared.events.Done.{Done}
use Rattle.dn_machine.specs.declared.events.Event.{Event}
use Rattle.dn_machine.specs.declared.events.Refusal.{Refusal}
use Rattle.dn_machine.specs.Worlds.{Rules}
use Rattle.dn_world.specs.Physics.{Physics}
use Rattle.dn_game.specs.declared.played.Played.{Played}
use Rattle.dn_game.specs.Played.{AppliesOne, IsPlayedFrom}
use Rattle.dn_game.specs.Stormed.{IsStormedFrom}

-- what an observer says of one event: before, the event's number, the event, its answer, after
abbrev pub Observing : Type 0 → Type 1
Observing L = L → ℕ → Event → Result Done Refusal → L → Type 0

-- it was told of these events with their answers, in order, of which the first has this number
abbrev pub ObservesAll : {L : Type 0} → Observing L → L → ℕ → List Event → List (Result Done Refusal) → L
    → Type 0
ObservesAll observes old number [] [] new = new ≡ old
ObservesAll {L} observes old number (event ∷ events) (answer ∷ answers) new =
    (next : L) × observes old number event answer next
    × ObservesAll observes next (number + 1) events answers new
ObservesAll observes old number [] (answer ∷ answers) new = ⊥
ObservesAll observes old number (event ∷ events) [] new = ⊥

-- one more event was applied, counted by its answer, and told to an observer
pub record ObservesOne {W S L : Type 0} (state : W → S) (physics : Physics S) (observes : Observing L)
    (before after : L) (old new : Played W) (event : Event) : Type 0 where
  pub answer : Result Done Refusal
  pub applied : AppliesOne state physics old new event answer
  pub observed : observes before (old.done + old.refused) event answer after

-- the events were played, as `IsPlayedFrom` says, and an observer was told of each
pub record IsPlayedObserved {W S L : Type 0} (state : W → S) (rules : Rules S) (observes : Observing L)
    (settings : Settings) (worlds : List W) (events : List Event) (old new : L) (played : Played W) : Type 0 where
  pub run : IsPlayedFrom state rules settings worlds events played
  pub observed : ObservesAll observes old 0 events run.0.answers new

-- events of a schedule were played, and an observer was told of each
pub record IsStormedObserved {W S L : Type 0} (state : W → S) (rules : Rules S) (observes : Observing L)
    (settings : Settings) (worlds : List W) (seed count : ℕ) (old new : L) (played : Played W) : Type 0 where
  pub run : IsStormedFrom state rules settings worlds seed count played
  pub observed : ObservesAll observes old 0 run.0.events run.0.answers new
