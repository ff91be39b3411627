-- What never changes for the nodes of a game, and the rows of moves.
use Rattle.std.specs.Prelude.{ℕ, ◌+◌, ◌≤◌, Bool, List, [], ◌∷◌, nat_lt, if◌then◌else◌, Option, None}
use Rattle.std.specs.Option.{option_map}
use Rattle.dn_tic.specs.declared.command.TicCmd.{TicCmd}
use Rattle.dn_tic.specs.declared.command.Move.{Move}
use Rattle.dn_tic.specs.Command.{used}

pub record Limits : Type 0 where
  pub players : ℕ
  -- whether each packet repeats the last command
  pub extra : Bool
  -- how many tics fit into a demo
  pub capacity : ℕ
  -- how many commands a player may be ahead of the tics that its node ran
  pub ahead : ℕ
  -- how many of each player's last commands a node keeps, and may send again
  pub places : ℕ
  -- how many commands a packet carries at most
  pub most : ℕ

-- numbers with which no command is lost that is still needed, and a command's mark is that of a tic that its
-- node ran
pub record IsWindow (limits : Limits) : Type 0 where
  -- a node may lack twice as many commands of a player as one may be ahead
  pub twice : limits.ahead + limits.ahead ≤ limits.places
  -- a command's mark is that of twelve tics before; a player further ahead would need that of a tic not yet run
  pub back : limits.ahead ≤ 12

-- the numbers of 1997 (d_net.c, NetUpdate; d_net.h, BACKUPTICS and doomdata_t)
abbrev pub vanilla_limits : ℕ → Bool → ℕ → Limits
vanilla_limits players extra capacity =
    record { players = players; extra = extra; capacity = capacity; ahead = 5; places = 12; most = 12 }

-- one thing for each of the four seats
abbrev pub four : {A : Type 0} → (ℕ → A) → List A
four at = at 0 ∷ at 1 ∷ at 2 ∷ at 3 ∷ []

-- the moves of these commands, and none at a seat without a player or of a player without a command
unfoldable pub row_of : ℕ → (ℕ → Option TicCmd) → List (Option Move)
row_of players command = four (λ seat. if nat_lt seat players then option_map used (command seat) else None)
