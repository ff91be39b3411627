-- How much memory a game has.
use Rattle.std.specs.Prelude.{◌≡◌}
use Rattle.dn_game.specs.declared.game.Game.{Game}
use Rattle.dn_game.specs.Contents.{Contents, contents}
use Rattle.dn_game.specs.Frame.{KeepsFlights}
use Rattle.dn_node.specs.Contents.{whose_of}
use Rattle.dn_game.specs.Pool.{Room, IsWithinTwice, LacksRoom}

-- for its packets
abbrev pub room_of : {W : Type 0} → Game W → Room
room_of game = game.pool.room

-- it has no memory for one more packet
abbrev pub IsFull : {W : Type 0} → Game W → Type 0
IsFull game = LacksRoom (room_of game) (contents game).flights

-- each node is whose it was, so its demo has the limit that it had, which is how many bytes it has memory for
abbrev pub KeepsWhose : {W : Type 0} → Contents W → Contents W → Type 0
KeepsWhose old new = whose_of new.nodes ≡ whose_of old.nodes

-- if it had room for no more than twice the packets that there were, and one, so it has now
abbrev pub StaysWithin : {W : Type 0} → Game W → Game W → Type 0
StaysWithin old new = IsWithinTwice (contents old).flights (room_of old)
    → IsWithinTwice (contents new).flights (room_of new)

-- what stays so while a game goes on: whose its nodes are, that its memory is within its bound, and the packets that
-- were sent
pub record Continues {W : Type 0} (old new : Game W) : Type 0 where
  pub whose : KeepsWhose (contents old) (contents new)
  pub grown : StaysWithin old new
  pub more : KeepsFlights (contents old) (contents new)
