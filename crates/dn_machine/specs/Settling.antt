-- A node that is told, of a player whom it has given up, all commands and so the end.
use Rattle.std.specs.Prelude.{ℕ, zero, suc, Bool, false, List, length, Some, if◌then◌else◌}
use Rattle.dn_tic.specs.declared.command.TicCmd.{TicCmd}
use Rattle.dn_machine.specs.Node.{Node, put, with_peer}

-- these are all commands of the player: the end comes after the last, and no more is wanted
abbrev pub settled_one : Node → ℕ → List TicCmd → Node
settled_one node player commands =
    record (with_peer node player (record (node.peers player) { end = Some (length commands); want = false })) {
      held = put node.held player commands;
    }

-- the same of one player after another, of those below the bound whom it has given up
unfoldable pub settled_to : ℕ → (ℕ → Bool) → (ℕ → List TicCmd) → Node → Node
settled_to zero gone commands node = node
settled_to (suc player) gone commands node =
    let before = settled_to player gone commands node in
    if gone player then settled_one before player (commands player) else before
