-- What is promised of a game after a list of events, by the game of the machine that it represents, and the
-- inputs that count.
use Rattle.std.specs.Prelude.{◌==◌, List, [], ◌∷◌, ◌++◌, if◌then◌else◌, Result, Ok, ◌≡◌, ◌≢◌, ◌⊎◌, ℕ, ℤ, Bool, All}
use Rattle.dn_machine.specs.Worlds.{Inputs, Rules, rules_of}
use Rattle.dn_tic.specs.declared.input.Input.TheVariants.{Pressed, Given}
use Rattle.dn_setup.specs.Settings.{Settings}
use Rattle.dn_world.specs.Physics.{Physics}
use Rattle.dn_machine.specs.declared.answers.Made.{Made}
use Rattle.dn_machine.specs.declared.events.Done.{Done}
use Rattle.dn_machine.specs.declared.events.Event.{Event}
use Rattle.dn_machine.specs.declared.events.Event.TheVariants.{Build, Give}
use Rattle.dn_machine.specs.declared.events.Refusal.{Refusal}
use Rattle.dn_machine.specs.declared.answers.Heard.{Heard}
use Rattle.dn_machine.specs.declared.answers.Ran.{Ran}
use Rattle.dn_machine.specs.Drops as drops
use Rattle.dn_machine.specs.Game as machine
use Rattle.dn_machine.specs.Game.{opening_game}
use Rattle.dn_machine.specs.Runs.{Runs}
use Rattle.dn_machine.specs.Promise.{Agree, Fits, Steady}
use Rattle.dn_game.specs.Agreed.{AreAgreed}
use Rattle.dn_game.specs.Applied.{IsApplied, Tells}
use Rattle.dn_game.specs.Contents.{Contents, Represents}
use Rattle.dn_game.specs.Played.{Plays, IsReachedWith}

-- the input of a player's build, if that is the event and it made a command
abbrev pub inputs_by : Event → Result Done Refusal → Inputs
inputs_by (Build node keys) (Ok (Done.Built (Made.Made tic))) player =
    if player == node then Pressed keys ∷ [] else []
inputs_by (Give node command) (Ok (Done.Built (Made.Made tic))) player =
    if player == node then Given command ∷ [] else []
inputs_by _ _ player = []

-- the inputs of events and their answers, in order, by those of one
abbrev pub inputs_of_all : {E A : Type 0} → (E → A → Inputs) → List E → List A → Inputs
inputs_of_all by (event ∷ events) (answer ∷ answers) player =
    by event answer player ++ inputs_of_all by events answers player
inputs_of_all by _ _ player = []

-- the inputs of each player's builds that made a command, in order
abbrev pub inputs_made : List Event → List (Result Done Refusal) → Inputs
inputs_made = inputs_of_all inputs_by

-- it represents a game that the events may lead to
pub record IsReached {W S : Type 0} (state : W → S) (rules : Rules S) (settings : Settings)
    (events : List Event) (g : Contents W) : Type 0 where
  pub last : machine.Game
  pub run : Runs rules settings events last
  pub game : Represents state rules g last

-- whatever events led to a game, they and this one lead to the next, with its answer
pub record IsCarriedOn {W S : Type 0} (state : W → S) (physics : Physics S) (old new : Contents W)
    (event : Event) (answer : Result Done Refusal) : Type 0 where
  pub reached : (players : ℕ) (extra : Bool) (capacity : ℕ) (settings : Settings) (events : List Event)
      → IsReached state (rules_of physics players extra capacity) settings events old
      → IsReached state (rules_of physics players extra capacity) settings (events ++ event ∷ []) new
  pub answered : (players : ℕ) (extra : Bool) (capacity : ℕ) (settings : Settings) (events : List Event)
      (answers : List (Result Done Refusal))
      → IsReachedWith state (rules_of physics players extra capacity) settings events answers old
      → IsReachedWith state (rules_of physics players extra capacity) settings (events ++ event ∷ [])
      (answers ++ answer ∷ []) new

-- an event is applied as the machine applies it. Whatever events led to the game, they and this one lead to what
-- it is afterwards.
pub record LeadsOn {W S : Type 0} (state : W → S) (physics : Physics S) (old new : Contents W) (event : Event)
    (answer : Result Done Refusal) : Type 0 where
  pub applied : Tells state physics old (λ rules m. IsApplied state rules old new m event answer)
  pub carried : IsCarriedOn state physics old new event answer

-- an answer that tells of no failed check: no mark was off, and a packet was dropped only as set-up out of
-- place, or by a node that does not play
pub record IsSteady (answer : Result Done Refusal) : Type 0 where
  pub consistent : (player : ℕ) (was should : ℤ) → answer ≢ Ok (Done.Ran (Ran.Inconsistent player was should))
  pub kept : (number : ℕ) → answer ≡ Ok (Done.Heard (Heard.Dropped number))
      → (number ≡ drops.out_of_place) ⊎ (number ≡ drops.not_playing)

-- What is promised of a game that these events lead to, with these answers: by the game of the machine that
-- it represents, by the answers, and by what its nodes tell.
pub record IsPromised {W S : Type 0} (state : W → S) (rules : Rules S) (settings : Settings)
    (events : List Event) (answers : List (Result Done Refusal)) (last : machine.Game)
    (g : Contents W) : Type 0 where
  -- each event was applied as the machine applies it, but for sends that were left out since memory was
  -- refused
  pub plays : Plays rules (opening_game settings) events answers last
  pub game : Represents state rules g last
  -- all nodes agree, no ring overwrites a command that is still needed, and no check failed
  pub agree : Agree rules settings last
  pub fits : Fits rules last
  pub steady : Steady rules last
  -- no answer told of a failed check
  pub answered : All IsSteady answers
  -- the nodes agree in what they tell of themselves; the inputs are those of the builds that made a command
  pub agreed : AreAgreed state rules settings (inputs_made events answers) g
