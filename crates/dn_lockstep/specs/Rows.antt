-- The commands of one tic by the rings.
use Rattle.std.specs.Prelude.{ℕ, ◌%◌, ℤ, pos, is_some, get_or, Bool, false, not, ◌&&◌, List, Option, Some, None, nat_lt, nat_le, if◌then◌else◌}
use Rattle.std.specs.Option.{option_map}
use Rattle.std.specs.Ordering.{int_eq}
use Rattle.dn_tic.specs.declared.command.TicCmd.{TicCmd}
use Rattle.dn_tic.specs.declared.command.Move.{Move}
use Rattle.dn_tic.specs.Command.{used}
use Rattle.dn_ring.specs.Ring.{Ring}
use Rattle.dn_machine.specs.Node.{lowest}
use Rattle.dn_machine.specs.Running.{is_over}
use Rattle.dn_machine.specs.declared.peer.Peer.{Peer}
use Rattle.dn_machine.specs.Limits.{four}
use Rattle.dn_lockstep.specs.Tables.{get}

-- which seats this many players take
abbrev pub seats_of : ℕ → List Bool
seats_of players = four (λ seat. nat_lt seat players)

abbrev pub mark_in_command : Option TicCmd → ℤ
mark_in_command None = pos 0
mark_in_command (Some command) = command.mark

-- the mark of a player's command for a tic
abbrev pub mark_at : (ℕ → Ring) → ℕ → ℕ → ℤ
mark_at rings tic player = mark_in_command (get (rings player) tic)

-- the tic is not before the player's known end
abbrev pub is_gone : (ℕ → Peer) → ℕ → ℕ → Bool
is_gone peers tic player = is_over (peers player).end tic

-- somebody is gone
abbrev pub has_gone : (ℕ → Peer) → ℕ → ℕ → Bool
has_gone peers players tic = is_some (lowest players (is_gone peers tic))

-- the player is not gone, and the command for the tic is missing
abbrev pub is_missing : (ℕ → Ring) → (ℕ → Peer) → ℕ → ℕ → Bool
is_missing rings peers tic player = not (is_gone peers tic player) && nat_le (rings player).count tic

-- the player is not gone, and the command has another mark than the table
abbrev pub differs : (ℕ → Ring) → (ℕ → Peer) → (ℕ → ℕ → ℤ) → ℕ → ℕ → Bool
differs rings peers marks tic player =
    not (is_gone peers tic player) && not (int_eq (mark_at rings tic player) (marks player (tic % 12)))

-- a set has this player
abbrev pub has : List Bool → ℕ → Bool
has set player = get_or set player false

-- the same of a player who is not given up
abbrev pub differs_but : (ℕ → Bool) → (ℕ → Ring) → (ℕ → Peer) → (ℕ → ℕ → ℤ) → ℕ → ℕ → Bool
differs_but given_up rings peers marks tic player =
    not (given_up player) && differs rings peers marks tic player

-- the used move of a player's command for a tic, and none of one who is gone
abbrev pub move_held : (ℕ → Ring) → (ℕ → Peer) → ℕ → ℕ → ℕ → Option Move
move_held rings peers players tic player =
    if nat_lt player players
    then option_map used (if is_gone peers tic player then None else get (rings player) tic)
    else None
