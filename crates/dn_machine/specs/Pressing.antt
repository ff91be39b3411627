-- Games in which no command is given: each player's inputs press key states.
use Rattle.std.specs.Prelude.{◌≡◌, ℕ, ◌+◌, Bool, true, false, List, All, length, map, take, nat_lt, pos, if◌then◌else◌, Option, Some, None}
use Rattle.dn_tic.specs.declared.command.Move.{Move}
use Rattle.dn_tic.specs.declared.input.Input.TheVariants.{Pressed}
use Rattle.dn_tic.specs.Pressed.{pressed}
use Rattle.dn_tic.specs.Inputs.{states_of}
use Rattle.dn_machine.specs.declared.events.Event.{Event}
use Rattle.dn_machine.specs.declared.events.Event.TheVariants.{Give}
use Rattle.dn_machine.specs.Limits.{row_of}
use Rattle.dn_machine.specs.Worlds.{Inputs}
use Rattle.dn_machine.specs.Game.{Game}

abbrev pub is_give : Event → Bool
is_give (Give node command) = true
is_give _ = false

-- none of these events gives a command
abbrev pub NoneGiven : List Event → Type 0
NoneGiven events = All (λ event. is_give event ≡ false) events

-- the inputs of players who press these key states, and are given no command
abbrev pub presses : (ℕ → List ℕ) → Inputs
presses keys player = map Pressed (keys player)

-- the key states of every player, as the player's node took them
abbrev pub key_states : Game → ℕ → List ℕ
key_states game player = states_of (game.nodes player).inputs

-- the moves of a tic: what the key states up to it press, of the players who have so many
abbrev pub row_by_keys : ℕ → (ℕ → List ℕ) → ℕ → List (Option Move)
row_by_keys players keys tic =
    row_of players (λ player. if nat_lt tic (length (keys player))
    then Some (pressed (take (tic + 1) (keys player)) (pos 0)) else None)
