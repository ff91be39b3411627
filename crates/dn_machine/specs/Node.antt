-- What one node keeps, and what is read off it.
use Rattle.std.specs.Prelude.{ℕ, zero, suc, ◌-◌, Bool, true, false, ◌&&◌, List, nat_lt, ◌==◌, ℤ, pos, if◌then◌else◌, get_or, length, Option, Some, None}
use Rattle.std.specs.List.{take_while}
use Rattle.std.specs.Option.{option_or, is_none}
use Rattle.dn_tic.specs.declared.command.TicCmd.{TicCmd}
use Rattle.dn_tic.specs.declared.command.Move.{Move}
use Rattle.dn_setup.specs.Settings.{Settings}
use Rattle.dn_machine.specs.declared.answers.Phase.{Phase}
use Rattle.dn_machine.specs.declared.answers.Phase.TheVariants.{Listening, Gathering, Playing, Ended}
use Rattle.dn_machine.specs.declared.peer.Peer.{Peer}
use Rattle.dn_tic.specs.declared.input.Input.{Input}

pub record Node : Type 0 where
  pub phase : Phase
  -- whether it is or was playing
  pub played : Bool
  pub settings : Option Settings
  -- the inputs of the builds that made a command
  pub inputs : List Input
  -- the commands that it has of each player, from tic 0 on; of itself those that it made
  pub held : ℕ → List TicCmd
  -- the rows that it ran
  pub rows : List (List (Option Move))
  -- by the tic and the player: the marks that it was told at its runs (g_game.c, the table of G_Ticker), of the
  -- players who took part, and 0 for all others
  pub marks : ℕ → ℕ → ℤ
  -- what it keeps of each peer
  pub peers : ℕ → Peer
  -- by number, which players it has heard while it gathered
  pub noted : ℕ → Bool

-- the same but at one place, where it is another thing
abbrev pub put : {A : Type 0} → (ℕ → A) → ℕ → A → ℕ → A
put all place new other = if other == place then new else all other

-- a peer of which nothing is known
abbrev pub no_peer : Peer
no_peer = record { resend = 0; want = false; pause = 0; end = None }

-- the node, where it keeps this of a peer
abbrev pub with_peer : Node → ℕ → Peer → Node
with_peer node player peer = record node { peers = put node.peers player peer }

-- the ends of its peers, as they were told
abbrev pub ends_of : Node → ℕ → Option ℕ
ends_of node player = (node.peers player).end

-- the command of no key and no mark
abbrev pub blank : TicCmd
blank = record { forward = pos 0; side = pos 0; turn = pos 0; mark = pos 0; chat = 0; buttons = 0 }

-- how many commands a node has of a player
abbrev pub got : Node → ℕ → ℕ
got node player = length (node.held player)

-- how many commands node `me` made
abbrev pub made : ℕ → Node → ℕ
made me node = length (node.held me)

-- how many tics a node ran
abbrev pub ran : Node → ℕ
ran node = length node.rows

-- the command that a node has of a player for a tic
abbrev pub held_at : Node → ℕ → ℕ → TicCmd
held_at node player tic = get_or (node.held player) tic blank

-- the node takes no further part in a game
abbrev pub is_ended : Phase → Bool
is_ended Listening = false
is_ended Gathering = false
is_ended Playing = false
is_ended (Ended cause) = true

-- a player whose node has played and ended has left
abbrev pub has_left : Node → Bool
has_left node = node.played && is_ended node.phase

-- a player's end, the tic after the last command, as node `me` knows it: its own once it has left, another's
-- once told
abbrev pub known_end : ℕ → Node → ℕ → Option ℕ
known_end me node player =
    if player == me then (if has_left node then Some (made me node) else None) else ends_of node player

-- the consistency mark for a tic, by what a node was told: the player's mark at the tic twelve back, and 0
-- below tic 12. In a game it is the mark of the node's own world at that tic (`Agree`, `marks`)
abbrev pub own_mark : Node → ℕ → ℕ → ℤ
own_mark node player tic = if nat_lt tic 12 then pos 0 else node.marks (tic - 12) player

-- the lowest number below the bound that passes, if one does
unfoldable pub lowest : ℕ → (ℕ → Bool) → Option ℕ
lowest zero test = None
lowest (suc bound) test = option_or (lowest bound test) (if test bound then Some bound else None)

-- the player has no move in the row
abbrev pub lacks : List (Option Move) → ℕ → Bool
lacks row player = is_none (get_or row player None)

-- the row lacks no player of the game
abbrev pub is_whole : ℕ → List (Option Move) → Bool
is_whole players row = is_none (lowest players (lacks row))

-- the rows of a node's demo: those before the first that lacks a player
abbrev pub demo_rows : ℕ → Node → List (List (Option Move))
demo_rows players node = take_while (is_whole players) node.rows
