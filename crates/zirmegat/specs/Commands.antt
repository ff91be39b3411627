-- Whole commands: what a caller gives of one, and what is told of one.
use Rattle.std.specs.Prelude.{◌≡◌, ℕ, ℤ, pos, Bool, nat_lt, Option, Some, None, if◌then◌else◌}
use Rattle.dn_tic.specs.declared.command.TicCmd.{TicCmd}
use Rattle.dn_tic.specs.declared.input.Command.{Command}
use Rattle.dn_tic.specs.declared.input.Input.{Input}
use Rattle.dn_lockstep.specs.Told.{makes, can_make}
use Rattle.dn_lockstep.specs.Contents.{Contents, end_in}
use Rattle.dn_lockstep.specs.Tables.{count_of}
use Rattle.dn_lockstep.specs.Steps.{Tells}
use Rattle.zirmegat.specs.declared.commands.CommandFields.{CommandFields}

-- all that a caller chooses of a command; the mark is the node's own
abbrev pub given_in : CommandFields → Command
given_in f =
    record { forward = f.forward; side = f.side; turn = f.turn; chat = f.chat; buttons = f.buttons }

-- a command of these numbers
abbrev pub fields : ℤ → ℤ → ℤ → ℕ → ℕ → CommandFields
fields turn forward side chat buttons =
    record { turn = turn; forward = forward; side = side; chat = chat; buttons = buttons }

abbrev pub whole_told : TicCmd → CommandFields
whole_told c = fields c.turn c.forward c.side c.chat c.buttons

abbrev pub no_command : CommandFields
no_command = fields (pos 0) (pos 0) (pos 0) 0 0

-- a command, and all 0 for none
abbrev pub command_told : Option TicCmd → CommandFields
command_told (Some c) = whole_told c
command_told None = no_command

-- for how many commands in succession a turn key was down, of which six count
abbrev pub most_held : ℕ → ℕ
most_held hold = if nat_lt hold 6 then hold else 6

-- how many commands it has of a player, where the game has the player
abbrev pub got_of : Contents → ℕ → Option ℕ
got_of n player = if nat_lt player n.players then Some (count_of n.rings player) else None

-- the tic after a player's last command, where the game has the player and the node knows the tic
abbrev pub end_of : Contents → ℕ → Option ℕ
end_of n player = if nat_lt player n.players then end_in n player else None

-- whether it would make a command, of whatever input
abbrev pub CanBuild : Contents → Bool → Type 0
CanBuild n can = (can ≡ can_make n) × Tells n (λ limits me m. (input : Input) → can ≡ makes limits me m input)
