-- The arguments of a command, as clap is told of them.
use Rattle.std.specs.Prelude.{◌≡◌, ℤ, pos, true, List, [], ◌∷◌, ◌++◌, Some, codes}
use Rattle.std.specs.Int.{int_max, int_min}
use Rattle.clap.specs.Lexer.{usize_max}
use Rattle.clap.specs.Values.{signed_between}
use Rattle.clap.specs.Walk.{Rule, Text}
use Rattle.clap.specs.Simple.{App, app_of, new_rule, on_top}
use Rattle.clap.specs.declared.builder.action.ArgAction.TheVariants.{SetTrue}
use Rattle.clap.specs.declared.builder.command.Command.{Command}
use Rattle.clap.specs.declared.builder.command.Command.TheViews.{out-Command as fields_of}

-- an option with a value
abbrev pub option_rule : Text → Rule
option_rule name = record (new_rule name) { long = Some name }

-- an option whose value is a number of 32 bits, from the least to the greatest
abbrev pub number_rule : Text → (least greatest : ℤ) → Rule
number_rule name least greatest =
    record (option_rule name) {
      parser = Some (signed_between (int_max (pos 0) least) (int_min (pos 4294967295) greatest));
    }

-- which has this value where none is given
abbrev pub with_default : Text → Rule → Rule
with_default value rule = record rule { defaults = value ∷ [] }

-- a flag
abbrev pub flag_rule : Text → Rule
flag_rule name = record (option_rule name) { action = Some SetTrue }

-- an option whose value help names
abbrev pub file_rule : Text → Rule
file_rule name = record (option_rule name) { value_names = 1 }

-- a word that is no option's, and has to be there
abbrev pub word_rule : Text → Rule
word_rule name = record (new_rule name) { required = true; value_names = 1 }

-- a file that is no option's, and may be left out
abbrev pub path_rule : Text → Rule
path_rule name = record (new_rule name) { value_names = 1 }

-- one file or more, which may be left out
abbrev pub files_rule : Rule
files_rule =
    record (path_rule (codes "files")) {
      range = Some (record { start_inclusive = 1; end_inclusive = usize_max });
    }

-- one file or more, which have to be there
abbrev pub wads_rule : Rule
wads_rule = record files_rule { required = true }

-- a command with more arguments
abbrev pub with_rules : App → List Rule → App
with_rules app rules = on_top (λ shape. record shape { rules = shape.rules ++ rules }) app

-- the command `new` is `old` with these arguments more, of which none is its subcommands' too
pub record HasMore (old : Command) (rules : List Rule) (new : Command) : Type 0 where
  pub app : app_of new ≡ with_rules (app_of old) rules
  pub globals : (fields_of new).has_globals ≡ (fields_of old).has_globals
