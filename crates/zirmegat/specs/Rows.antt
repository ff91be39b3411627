-- The row of a tic, and what came of a run, as plain numbers.
use Rattle.std.specs.Prelude.{ℕ, ℤ, pos, ◌%◌, ◌^◌, List, [], ◌∷◌, map, replicate, Option, Some, None, is_some}
use Rattle.dn_tic.specs.declared.command.Move.{Move}
use Rattle.dn_tic.specs.declared.command.TicCmd.{TicCmd}
use Rattle.dn_machine.specs.declared.answers.Ran.{Ran}
use Rattle.dn_lockstep.specs.Contents.{Contents}
use Rattle.dn_lockstep.specs.Told as told
use Rattle.dn_session.specs.Players.{four}
use Rattle.dn_setup.specs.Settings.{bit}
use Rattle.zirmegat.specs.declared.commands.CommandFields.{CommandFields}
use Rattle.zirmegat.specs.declared.rows.RowFields.{RowFields}
use Rattle.zirmegat.specs.Commands.{command_told, fields, no_command}

-- 1 for each seat with a move
abbrev pub seat_told : Option Move → ℕ
seat_told step = bit (is_some step)

abbrev pub seats_told : List (Option Move) → List ℕ
seats_told moves = map seat_told moves

-- a move as a command without chat, and all 0 for none
abbrev pub move_told : Option Move → CommandFields
move_told (Some step) = fields step.turn step.forward step.side 0 step.buttons
move_told None = no_command

-- whole commands in place of moves: that of the tic, where a player has a move in it
abbrev pub whole_of : Option Move → Option TicCmd → CommandFields
whole_of None command = no_command
whole_of (Some step) command = command_told command

abbrev pub whole_row : List (Option Move) → List (Option TicCmd) → List CommandFields
whole_row (step ∷ steps) (command ∷ commands) = whole_of step command ∷ whole_row steps commands
whole_row steps commands = []

abbrev pub row_at : ℕ → ℤ → ℤ → ℕ → List ℕ → List CommandFields → RowFields
row_at tic was should player present commands =
    record {
      tic = tic;
      was = was;
      should = should;
      player = player;
      present = present;
      commands = commands;
    }

-- where no tic was run there is no row, but it may be about a player
abbrev pub without_row : ℤ → ℤ → ℕ → RowFields
without_row was should player = row_at 0 was should player (replicate 4 0) (replicate 4 no_command)

abbrev pub no_row : RowFields
no_row = without_row (pos 0) (pos 0) 0

-- a run by these moves, whose whole commands these are
abbrev pub row_told : Ran → List (Option Move) → List (Option TicCmd) → RowFields
row_told (Ran.Ran tic) moves commands =
    row_at tic (pos 0) (pos 0) 0 (seats_told moves) (whole_row moves commands)
row_told (Ran.Waiting player) moves commands = without_row (pos 0) (pos 0) player
row_told Ran.DemoFull moves commands = no_row
row_told (Ran.Inconsistent player was should) moves commands = without_row was should player
row_told Ran.NotPlaying moves commands = no_row

-- the moves of a tic of a demo, whose number is told by its low 32 bits
abbrev pub moves_told : ℕ → List (Option Move) → RowFields
moves_told tic moves = row_at (tic % 2 ^ 32) (pos 0) (pos 0) 0 (seats_told moves) (map move_told moves)

-- the command that it has of a player for the next tic
abbrev pub next_in : Contents → ℕ → Option TicCmd
next_in n player = told.command_told n player n.ran

abbrev pub next_of_four : Contents → List (Option TicCmd)
next_of_four n = map (next_in n) four

-- 0 is for no game that is played
abbrev pub run_code : Ran → ℕ
run_code Ran.NotPlaying = 0
run_code (Ran.Ran tic) = 1
run_code (Ran.Waiting player) = 2
run_code Ran.DemoFull = 3
run_code (Ran.Inconsistent player was should) = 4
