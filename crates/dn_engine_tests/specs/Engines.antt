-- An engine, in whatever game of sessions its own is, and what its calls do.
use Rattle.std.specs.Prelude.{◌≡◌, ◌<◌, ◌⊎◌, ℕ, ℤ, pos, true, List, Option, Some, None, IfSome, get_or, Ok}
use Rattle.arrayvec.specs.ArrayVec.{ArrayVec}
use Rattle.dn_tic.specs.declared.command.Move.{Move}
use Rattle.dn_setup.specs.Settings.{start_of}
use Rattle.dn_world.specs.Physics.{Physics}
use Rattle.dn_machine.specs.declared.answers.Ran.{Ran}
use Rattle.dn_lockstep.specs.{OneGame.told_on, OneGame.world_told, Rows.seats_of}
use Rattle.dn_survivor.specs.OneGame.{Session as History}
use Rattle.dn_link.specs.{Linking.linked, RemainingLinks.WasSealedIn, declared.link.Link.Link}
use Rattle.dn_link_game.specs.Playing.{marking_of, world_by}
use Rattle.dn_session.specs.{Parts.limits_of, Roster.IsSide, Roster.key_of, Session.Begins, Session.Meeting, Session.RunsPart, Session.begun_in, Session.link_in, Session.meeting, Session.passing_in, Sessions.AreSessions, Sessions.Greets, Sessions.Has, Sessions.KeepsOut, Sessions.StaySessions, Text.game_seal, Text.greeting_seal}
use Rattle.dn_session.specs.declared.{part.Part.Part, side.Begun.Begun}
use Rattle.dn_engine_tests.specs.declared.{engine.Engine.Engine, steps.Call.Call}
use Rattle.dn_engine_tests.specs.declared.steps.Call.TheVariants.{Hear}

-- the session of an engine
abbrev pub met : {W : Type 0} → Engine W → Meeting
met engine = meeting engine.session

-- a session of this secret, which has nothing but greetings to send from its lobby
pub record IsOf (secret : Option (List ℕ)) (m : Meeting) : Type 0 where
  pub secret_is : m.secret ≡ secret
  pub key : key_of m.lobby ≡ (greeting_seal secret).key
  pub fits : IsSide m.lobby
  pub reply : Has Greets m.reply
  pub call : Has Greets m.call

-- such a session that has no part in a game yet
pub record IsFresh (secret : Option (List ℕ)) (m : Meeting) : Type 0 where
  pub of : IsOf secret m
  pub out : m.part ≡ None

-- bytes are a greeting, or were sealed in the game
abbrev pub MayCome : Option (List ℕ) → Begun → History → List ℕ → Type 0
MayCome secret b history bytes = Greets bytes ⊎ WasSealedIn (game_seal secret b.game) history bytes

-- these are the rows that an engine was told; and its world, once it plays, began with the settings' start and was
-- stepped by them
pub record IsTold {W S : Type 0} (state : W → S) (physics : Physics S) (b : Begun) (rows : List (List (Option Move)))
    (e : Engine W) : Type 0 where
  pub told : e.told.items ≡ rows
  pub world : (part : Part) → (met e).part ≡ Some part
      → state e.world ≡ world_by physics (world_told (limits_of b.terms) b.terms.settings rows)

-- nothing changes of an engine
pub record Rests {W S : Type 0} (state : W → S) (old new : Engine W) : Type 0 where
  pub meeting_is : met new ≡ met old
  pub told : new.told.items ≡ old.told.items
  pub world : state new.world ≡ state old.world

-- its session begins this game, in this place, and then its world
pub record BeginsIn {W S : Type 0} (state : W → S) (physics : Physics S) (b : Begun) (place now : ℕ)
    (old new : Engine W) : Type 0 where
  pub here : Begun
  pub is : begun_in (met old).lobby ≡ Some here
  pub game : here.game ≡ b.game
  pub me : here.me ≡ place
  pub begins : Begins now (met old) (met new) (Ok true)
  pub told : new.told.items ≡ old.told.items
  pub world : (link : Link) → link_in (met new).part ≡ Some link
      → state new.world ≡ physics.begin (start_of b.terms.settings) (seats_of (linked link).node.players)

-- it runs a tic, or does not, by the marks of its world, which is stepped by the row that is told
pub record RunsIn {W S : Type 0} (state : W → S) (physics : Physics S) (ran : Ran) (old new : Engine W) : Type 0 where
  pub marks : List ℤ
  pub its : (player : ℕ) → player < 4 → get_or marks player (pos 0) ≡ physics.mark (state old.world) player
  pub row : Option (List (Option Move))
  pub runs : RunsPart marks (met old).part (met new).part ran row
  pub rest : met new ≡ record (met old) { part = (met new).part }
  pub told : new.told.items ≡ told_on old.told.items row
  pub idle : row ≡ None → state new.world ≡ state old.world
  pub steps : (one : List (Option Move)) → row ≡ Some one → state new.world ≡ physics.step (state old.world) one

-- what comes with a call
abbrev pub came_of : Call → Option (List ℕ)
came_of (Hear from bytes) = Some bytes.now
came_of call = None

-- the engine of this place goes on in the game, by a row if it was told one; and what it gave may come to any
-- engine, if what it was to pass on might
pub record GoesTo {W S : Type 0} (state : W → S) (physics : Physics S) (secret : Option (List ℕ)) (b : Begun)
    (history : History) (meetings : ℕ → Meeting) (place : ℕ) (sent : Option (ArrayVec ℕ)) (old new : Engine W)
    : Type 0 where
  pub row : Option (List (Option Move))
  pub stay : StaySessions (marking_of physics) secret b history meetings place (met new) row
  pub told : IsTold state physics b (told_on (history.told place) row) new
  pub sends : IsOf secret (met old) → Has (MayCome secret b history) (passing_in (met old).part)
      → IfSome sent (λ bytes. MayCome secret b stay.later bytes.items)

-- After a call with which these bytes came, if any did, and which gave these, if any: the session keeps what it
-- is. An engine in its lobby was told no row, and gave a greeting, if anything. In whatever game of sessions an
-- engine was, it goes on there, if what came may come
pub record GoesOn {W S : Type 0} (state : W → S) (physics : Physics S) (came : Option (List ℕ))
    (sent : Option (ArrayVec ℕ)) (old new : Engine W) : Type 0 where
  pub keeps : KeepsOut came (met old) (met new)
  pub fits : IsSide (met old).lobby → IsSide (met new).lobby
  pub told : (met old).part ≡ None → new.told.items ≡ old.told.items
  pub greets : (met old).part ≡ None → Has Greets (met old).reply → Has Greets (met old).call
      → IfSome sent (λ bytes. Greets bytes.items)
  pub goes : (secret : Option (List ℕ)) (b : Begun) (history : History) (meetings : ℕ → Meeting) (place : ℕ)
      → AreSessions (marking_of physics) secret b history meetings → place < b.terms.players
      → meetings place ≡ met old → IsTold state physics b (history.told place) old
      → IfSome came (MayCome secret b history)
      → GoesTo state physics secret b history meetings place sent old new
