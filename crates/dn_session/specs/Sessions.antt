-- The sessions of one game: their links are those of one game, whatever ran.
use Rattle.std.specs.Prelude.{◌≡◌, ◌<◌, ◌⊎◌, ℕ, List, Option, Some, None, IfSome, true}
use Rattle.dn_tic.specs.declared.command.Move.{Move}
use Rattle.dn_machine.specs.Node.{put}
use Rattle.dn_lockstep.specs.{Marking.Marking, OneGame.told_on}
use Rattle.dn_survivor.specs.OneGame.{Session}
use Rattle.dn_link.specs.RemainingLinks.{IsLater}
use Rattle.dn_session.specs.{Parts.AreParts, Parts.limits_of, Playing.Playing, Playing.playing, Reading.is_greeting, Roster.IsSide, Roster.Place, Roster.key_of, Roster.number_of_game, Roster.place_in, Roster.text_of_game, Session.IsLinkOf, Session.Meeting, Session.begun_in, Session.passing_in, Text.game_seal, declared.greeting.Address.Address, declared.part.Part.Part, declared.side.Begun.Begun, declared.side.Side.Side}

-- a session plays the game that another has begun, as this player: its own has begun, under the same key, with the same
-- number; and no other text has the code that this number is
pub record PlaysWith (one : Side) (b : Begun) (player : ℕ) (side : Side) (here : Begun) : Type 0 where
  pub fits : IsSide side
  pub key : key_of one ≡ key_of side
  pub begun : begun_in side ≡ Some here
  pub game : b.game ≡ here.game
  pub me : here.me ≡ player
  pub apart : (p q : Place) → place_in one ≡ Some p → place_in side ≡ Some q
      → number_of_game (key_of one) p.game ≡ number_of_game (key_of side) q.game
      → text_of_game p.game ≡ text_of_game q.game

-- the part of a player: that of its session; and as long as that has none, one with a link as it will be made
abbrev pub IsPartFor : Option (List ℕ) → Begun → ℕ → Option Part → Playing → Type 0
IsPartFor secret b player (Some part) p = p ≡ playing part
IsPartFor secret b player None p = IsLinkOf secret (record b { me = player }) p.link

-- the sessions of the players of this game, which has begun so: their parts have links of one game
pub record AreSessions (marking : Marking) (secret : Option (List ℕ)) (b : Begun) (session : Session)
    (meetings : ℕ → Meeting) : Type 0 where
  pub parts : ℕ → Playing
  pub are : AreParts marking (limits_of b.terms) b.terms.settings (game_seal secret b.game) session parts
  pub own : (player : ℕ) → player < b.terms.players → IsPartFor secret b player (meetings player).part (parts player)

-- after a call on a player's session they are so in a later session, in which nothing that was given is gone, and this
-- player's run told this row, if there is one
pub record StaySessions (marking : Marking) (secret : Option (List ℕ)) (b : Begun) (session : Session)
    (meetings : ℕ → Meeting) (player : ℕ) (new : Meeting) (row : Option (List (Option Move))) : Type 0 where
  pub later : Session
  pub stay : AreSessions marking secret b later (put meetings player new)
  pub given : IsLater session later
  pub told : (other : ℕ) → later.told other ≡ put session.told player (told_on (session.told player) row) other

-- whatever does this to one of them, they stay so, and no row is told
abbrev pub AreKeptBy : (Meeting → Meeting → Type 0) → Type 0
AreKeptBy Does =
    (marking : Marking) (secret : Option (List ℕ)) (b : Begun) (session : Session) (meetings : ℕ → Meeting)
    (player : ℕ) (new : Meeting) → AreSessions marking secret b session meetings → player < b.terms.players
    → Does (meetings player) new → StaySessions marking secret b session meetings player new None

-- What a session keeps, whatever game it plays.

-- these are bytes and where they go to, if they are any, and the bytes are such
abbrev pub Has : (List ℕ → Type 0) → Option (Address × List ℕ) → Type 0
Has P held = IfSome held (λ (s : Address × List ℕ). P s.1)

abbrev pub Greets : List ℕ → Type 0
Greets bytes = is_greeting bytes ≡ true

-- after a call it has the secret and the key that it had, the game that had begun for it, and its place in that game;
-- and what it has to send that its link did not make, a reply, a call and what it passes on, it had before, or these
-- are greetings, and what came
pub record Keeps (came : Option (List ℕ)) (old new : Meeting) : Type 0 where
  pub secret : new.secret ≡ old.secret
  pub key : key_of new.lobby ≡ key_of old.lobby
  pub begun : (b : Begun) → begun_in old.lobby ≡ Some b → begun_in new.lobby ≡ Some b
  pub place : (p : Place) → place_in old.lobby ≡ Some p → place_in new.lobby ≡ Some p
  pub reply : (new.reply ≡ old.reply) ⊎ Has Greets new.reply
  pub call : (new.call ≡ old.call) ⊎ Has Greets new.call
  pub passing : (passing_in new.part ≡ passing_in old.part) ⊎ Has (λ bytes. came ≡ Some bytes) (passing_in new.part)

-- and a part, if it had one, and else none
pub record KeepsOut (came : Option (List ℕ)) (old new : Meeting) : Type 0 where
  pub keeps : Keeps came old new
  pub out : old.part ≡ None → new.part ≡ None
  pub stays : new.part ≡ None → old.part ≡ None
