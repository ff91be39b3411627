use Rattle.dn_demo.specs.Layout.{vanilla, long_tics}
use Rattle.dn_demo.proofs.Text.{vanilla_sound, long_tics_sound, whole_told, long_told, move_told}
use Rattle.dn_demo.proofs.laws.spelt_moves_are_told.Goals as goal

pub returns-clause-vanilla : goal.returns-clause-vanilla
returns-clause-vanilla c = λ m fits whole. move_told vanilla m vanilla_sound fits (whole_told m fits whole)

pub returns-clause-long_tics : goal.returns-clause-long_tics
returns-clause-long_tics c = λ m fits. move_told long_tics m long_tics_sound fits (long_told m fits)
