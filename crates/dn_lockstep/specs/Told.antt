-- What a lockstep tells of itself: of the commands that it has, and of one that it would make.
use Rattle.std.specs.Prelude.{◌≢◌, ℕ, ◌-◌, ◌&&◌, [], Option, None, nat_lt, nat_le, if◌then◌else◌, ◌≡◌, Bool, true, false, Some}
use Rattle.dn_tic.specs.declared.command.TicCmd.{TicCmd}
use Rattle.dn_tic.specs.declared.input.Input.{Input}
use Rattle.dn_machine.specs.declared.answers.Made.{Made}
use Rattle.dn_machine.specs.Limits.{Limits}
use Rattle.dn_machine.specs.Node as machine
use Rattle.dn_machine.specs.Node.{got as machine_got, held_at}
use Rattle.dn_machine.specs.Sending.{on_build}
use Rattle.dn_lockstep.specs.Contents.{Contents}
use Rattle.dn_lockstep.specs.Tables.{count_of, get}
use Rattle.dn_lockstep.specs.Phases.{is_playing}
use Rattle.dn_lockstep.specs.Steps.{Steps}

-- a lockstep that has started has a demo
abbrev pub HasStarted : Contents → Type 0
HasStarted n = n.demo.bytes ≢ []

-- how many commands it has of a player, and how many it made
abbrev pub got : Contents → ℕ → ℕ
got n player = count_of n.rings player

abbrev pub made : Contents → ℕ
made n = got n n.me

-- a player's command for a tic, with its mark and its letter of chat: one of the last that it keeps
abbrev pub command_told : Contents → ℕ → ℕ → Option TicCmd
command_told n player tic =
    if nat_lt player n.players && nat_le (count_of n.rings player - tic) n.places
    then get (n.rings player) tic
    else None

-- the command that a node has of a player for a tic, where it is one of the last that it keeps
abbrev pub last_held : Limits → machine.Node → ℕ → ℕ → Option TicCmd
last_held limits m player tic =
    if nat_lt player limits.players && (nat_lt tic (machine_got m player) && nat_le (machine_got m player - tic) limits.places)
    then Some (held_at m player tic)
    else None

-- the answer of a build that made a command
abbrev pub is_made : Made → Bool
is_made (Made.Made tic) = true
is_made Made.Full = false
is_made Made.NotPlaying = false

-- whether the machine's node makes a command of this input
abbrev pub makes : Limits → ℕ → machine.Node → Input → Bool
makes limits me m input = is_made (on_build limits me m input).1

-- a build with this input does what it does in the machine, and has that answer
abbrev pub Builds : Contents → Contents → Input → Made → Type 0
Builds old new input made =
    Steps old new (λ limits me m. on_build limits me m input) (λ answer. made ≡ answer)

-- it plays, and fewer of its commands wait to be run than its window allows
abbrev pub can_make : Contents → Bool
can_make n = is_playing n.phase && nat_lt (count_of n.rings n.me - n.ran) n.ahead
