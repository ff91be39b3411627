-- How a player's commands are made.
use Rattle.std.specs.Prelude.{List, ℤ, ◌≡◌}
use Rattle.dn_tic.specs.declared.command.TicCmd.{TicCmd}
use Rattle.dn_tic.specs.declared.input.Input.{Input}
use Rattle.dn_tic.specs.Inputs.{made_by}
use Rattle.dn_tic.proofs.Making.{made_by-mark}

-- a rule that makes a command of a player's inputs so far and of a consistency mark, which the command carries
pub record Making : Type 0 where
  pub command : List Input → ℤ → TicCmd
  pub marked : (inputs : List Input) (mark : ℤ) → (command inputs mark).mark ≡ mark

-- the rule of 1997: the last of the inputs is pressed, or given whole (g_game.c, G_BuildTiccmd)
abbrev pub vanilla_making : Making
vanilla_making = record { command = made_by; marked = made_by-mark }
