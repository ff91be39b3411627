-- The command that a player's inputs make: keys that are down, or a command that is given whole.
use Rattle.std.specs.Prelude.{ℕ, ◌-◌, List, length, map, get_or, slice_index_or, ℤ, negsuc}
use Rattle.std.specs.Int.{int_max}
use Rattle.dn_tic.specs.declared.command.TicCmd.{TicCmd}
use Rattle.dn_tic.specs.declared.input.Command.{Command}
use Rattle.dn_tic.specs.declared.input.Input.{Input}
use Rattle.dn_tic.specs.declared.input.Input.TheVariants.{Pressed, Given}
use Rattle.dn_tic.specs.Pressed.{turn_hold, pressed}

-- the key state of an input; a given command counts as no key, so it breaks a succession of turn keys
abbrev pub state_of : Input → ℕ
state_of (Pressed keys) = keys
state_of (Given command) = 0

abbrev pub states_of : List Input → List ℕ
states_of inputs = map state_of inputs

-- the turn hold after these inputs
abbrev pub hold_of : List Input → ℕ
hold_of inputs = turn_hold (states_of inputs)

-- a given command with this mark. One that goes forward by -128 would read as the end of a demo: it counts as
-- -127
abbrev pub given : Command → ℤ → TicCmd
given command mark =
    record {
      forward = int_max (negsuc 126) command.forward;
      side = command.side;
      turn = command.turn;
      mark = mark;
      chat = command.chat;
      buttons = command.buttons;
    }

-- the last of these inputs, or no key at all
abbrev pub last_input : List Input → Input
last_input inputs = get_or inputs (length inputs - 1) (Pressed 0)

-- what an input makes, where these are the inputs up to it
abbrev pub made_of : Input → List Input → ℤ → TicCmd
made_of (Pressed keys) inputs mark = pressed (states_of inputs) mark
made_of (Given command) inputs mark = given command mark

-- the command that the last of these inputs makes: the pressed command, or the one that is given
unfoldable pub made_by : List Input → ℤ → TicCmd
made_by inputs mark = made_of (last_input inputs) inputs mark

-- a player's own of these inputs, and no key for a number that has none
abbrev pub input_of : List Input → ℕ → Input
input_of inputs player = slice_index_or inputs player (Pressed 0)
