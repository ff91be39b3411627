-- A game that has played a list of events.
use Rattle.std.specs.Prelude.{◌≡◌, ◌⊎◌, ◌+◌, List, [], ◌∷◌, count_by, IsTrue, None, Result, Err, is_ok, is_err}
use Rattle.dn_setup.specs.Settings.{Settings}
use Rattle.dn_world.specs.Physics.{Physics}
use Rattle.dn_machine.specs.declared.events.Done.{Done}
use Rattle.dn_machine.specs.declared.events.Event.{Event}
use Rattle.dn_machine.specs.declared.events.Refusal.{Refusal}
use Rattle.dn_machine.specs.Game as machine
use Rattle.dn_machine.specs.Game.{applied, opening_game, refused}
use Rattle.dn_machine.specs.Runs.{is_send}
use Rattle.dn_machine.specs.Worlds.{Rules}
use Rattle.dn_game.specs.declared.played.Played.{Played}
use Rattle.dn_game.specs.Applied.{Tells, IsApplied}
use Rattle.dn_game.specs.Contents.{Contents, contents, Represents}
use Rattle.dn_game.specs.Frame.{KeepsGiven, KeepsRest}

-- an event leads from a game to the next with this answer; a send that nothing else refuses may be left out,
-- where memory is refused
abbrev pub Answers : {S : Type 0} → Rules S → machine.Game → Event → Result Done Refusal → machine.Game
    → Type 0
Answers rules game event answer next =
    ((next ≡ (applied rules game event).0) × (answer ≡ (applied rules game event).1))
    ⊎ ((refused rules.players game event ≡ None) × IsTrue (is_send event) × (next ≡ game)
    × (answer ≡ Err Refusal.Memory))

-- a list of events leads from a game to another, each by such a step with its answer
abbrev pub PlaysBy : {G E A : Type 0} → (G → E → A → G → Type 0) → G → List E → List A → G → Type 0
PlaysBy Step game [] [] last = last ≡ game
PlaysBy {G} Step game (event ∷ events) (answer ∷ answers) last =
    (next : G) × Step game event answer next × PlaysBy Step next events answers last
PlaysBy Step game [] (answer ∷ answers) last = ⊥
PlaysBy Step game (event ∷ events) [] last = ⊥

-- a list of events leads from a game to another, and each event has its answer
abbrev pub Plays : {S : Type 0} → Rules S → machine.Game → List Event → List (Result Done Refusal)
    → machine.Game → Type 0
Plays rules = PlaysBy (Answers rules)

-- the events lead from the opening to the game that this one represents, and each has its answer
pub record IsReachedWith {W S : Type 0} (state : W → S) (rules : Rules S) (settings : Settings)
    (events : List Event) (answers : List (Result Done Refusal)) (g : Contents W) : Type 0 where
  pub last : machine.Game
  pub plays : Plays rules (opening_game settings) events answers last
  pub game : Represents state rules g last

-- the game that is left represents one that the events lead to from the opening, each with its answer, and the
-- answers are counted
pub record IsPlayed {W S : Type 0} (state : W → S) (rules : Rules S) (settings : Settings)
    (events : List Event) (played : Played W) : Type 0 where
  pub last : machine.Game
  pub answers : List (Result Done Refusal)
  pub plays : Plays rules (opening_game settings) events answers last
  pub game : Represents state rules (contents played.game) last
  pub done : played.done ≡ count_by is_ok answers
  pub refused : played.refused ≡ count_by is_err answers

-- and a node has the world that was given for it, unless one of these answers, to an event that names it, tells that
-- it started or ran a tic
abbrev pub IsPlayedFrom : {W S : Type 0} → (W → S) → Rules S → Settings → List W → List Event → Played W → Type 0
IsPlayedFrom state rules settings worlds events played =
    (run : IsPlayed state rules settings events played)
    × KeepsGiven worlds events run.answers (contents played.game)

-- one more event was applied, and counted by its answer
pub record AppliesOne {W S : Type 0} (state : W → S) (physics : Physics S) (old new : Played W)
    (event : Event) (answer : Result Done Refusal) : Type 0 where
  pub applied : Tells state physics (contents old.game)
      (λ rules m. IsApplied state rules (contents old.game) (contents new.game) m event answer)
  pub rest : KeepsRest (contents old.game) (contents new.game) event answer
  pub done : new.done ≡ old.done + count_by is_ok (answer ∷ [])
  pub refused : new.refused ≡ old.refused + count_by is_err (answer ∷ [])
