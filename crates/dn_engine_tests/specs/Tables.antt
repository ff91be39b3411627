-- The engines of one game at a table: what holds when it opens and after each event, and what they agree on.
use Rattle.std.specs.Prelude.{◌≡◌, ◌≢◌, ◌<◌, ◌⊎◌, ℕ, All, List, [], length, Option, Some, None, slice_get, true, false}
use Rattle.arrayvec.specs.ArrayVec.{ArrayVec}
use Rattle.dn_world.specs.Physics.{Physics}
use Rattle.dn_lockstep.specs.{Contents.end_in, OneGame.world_told, Told.got, Told.made}
use Rattle.dn_survivor.specs.{Agreed.AreAgreedInPairs, Agreed.DemosAgreeInPairs, Agreed.FitInPairs, OneGame.Session as History}
use Rattle.dn_link.specs.{Counting.has_ended, Linked.has_given_up, Linked.may_leave, Linked.surviving_of, Linking.linked, RemainingLinks.HeadersAgree, declared.link.Link.Link}
use Rattle.dn_link_game.specs.Playing.{marking_of, world_by}
use Rattle.dn_session.specs.{Parts.limits_of, Playing.Playing, Roster.Place, Roster.key_of, Roster.number_of_game, Roster.place_in, Roster.text_of_game, Session.IsLinkOf, Session.Meeting, Session.begun_in, Session.link_in, Session.passing_in, Sessions.AreSessions, Sessions.Greets, Sessions.Has}
use Rattle.dn_session.specs.declared.{part.Part.Part, side.Begun.Begun}
use Rattle.dn_engine_tests.specs.Engines.{IsOf, IsTold, MayCome, met}
use Rattle.dn_engine_tests.specs.declared.{engine.Engine.Engine, table.Table.Table}

-- a table has this engine in this place
abbrev pub HasEngine : {W : Type 0} → Table W → ℕ → Engine W → Type 0
HasEngine t place engine = slice_get t.engines.items place ≡ Some engine

-- if the games that two engines of a table play have the same number, under the keys of their sessions, they
-- have the same text: so that number is not the code of two texts
abbrev pub AreApart : {W : Type 0} → Table W → Type 0
AreApart {W} t =
    (i j : ℕ) (one other : Engine W) (p q : Place) → HasEngine t i one → HasEngine t j other
    → place_in (met one).lobby ≡ Some p → place_in (met other).lobby ≡ Some q
    → number_of_game (key_of (met one).lobby) p.game ≡ number_of_game (key_of (met other).lobby) q.game
    → text_of_game p.game ≡ text_of_game q.game

-- nobody has begun a game, and nothing but greetings was given
pub record AreInLobby {W : Type 0} (t : Table W) : Type 0 where
  pub out : (i : ℕ) (e : Engine W) → HasEngine t i e → (met e).part ≡ None
  pub told : (i : ℕ) (e : Engine W) → HasEngine t i e → e.told.items ≡ []
  pub given : All (λ (bytes : ArrayVec ℕ). Greets bytes.items) t.given.items

-- the engines have the sessions of one game, whose runs told their rows; and what was given, and what is to be
-- passed on, may come to any of them
pub record ArePlaying {W S : Type 0} (state : W → S) (physics : Physics S) (secret : Option (List ℕ)) (b : Begun)
    (t : Table W) : Type 0 where
  pub history : History
  pub meetings : ℕ → Meeting
  pub are : AreSessions (marking_of physics) secret b history meetings
  pub met_is : (p : ℕ) (e : Engine W) → HasEngine t p e → meetings p ≡ met e
  pub told : (p : ℕ) (e : Engine W) → HasEngine t p e → IsTold state physics b (history.told p) e
  pub passing : (p : ℕ) (e : Engine W) → HasEngine t p e → Has (MayCome secret b history) (passing_in (met e).part)
  pub given : All (λ (bytes : ArrayVec ℕ). MayCome secret b history bytes.items) t.given.items

-- a link of each player of a game, as it is before anything is called on it
abbrev pub AreNew : Option (List ℕ) → Begun → (ℕ → Playing) → Type 0
AreNew secret b parts = (p : ℕ) → p < b.terms.players → IsLinkOf secret (record b { me = p }) (parts p).link

-- The host has begun a game, of as many players as there are engines. Whatever new links those get who have not
-- begun it yet, all engines play it with these
pub record AreInGame {W S : Type 0} (state : W → S) (physics : Physics S) (secret : Option (List ℕ)) (b : Begun)
    (t : Table W) : Type 0 where
  pub host : Engine W
  pub at : HasEngine t 0 host
  pub begun : begun_in (met host).lobby ≡ Some b
  pub places : length t.engines.items ≡ b.terms.players
  pub new : (p : ℕ) (e : Engine W) (part : Part) → HasEngine t p e → (met e).part ≡ Some part
      → (q : Playing) × IsLinkOf secret (record b { me = p }) q.link
  pub idle : (p : ℕ) (e : Engine W) → HasEngine t p e → (met e).part ≡ None → e.told.items ≡ []
  pub play : (parts : ℕ → Playing) → AreNew secret b parts → ArePlaying state physics secret b t

-- if no number is the code of two texts: the engines have sessions of one secret, in their lobbies or in one
-- game
abbrev pub IsTable : {W S : Type 0} → (W → S) → Physics S → Option (List ℕ) → Table W → Type 0
IsTable {W} state physics secret t =
    AreApart t → ((i : ℕ) (e : Engine W) → HasEngine t i e → IsOf secret (met e))
    × (AreInLobby t ⊎ ((b : Begun) × AreInGame state physics secret b t))

-- and so they stay
abbrev pub StayTable : {W S : Type 0} → (W → S) → Physics S → Table W → Table W → Type 0
StayTable state physics old new =
    (secret : Option (List ℕ)) → IsTable state physics secret old → IsTable state physics secret new

-- What they agree on.

-- there are engines, and all have begun their game
abbrev pub HaveBegun : {W : Type 0} → Table W → Type 0
HaveBegun {W} t = (0 < length t.engines.items)
    × ((p : ℕ) (e : Engine W) → HasEngine t p e → (part : Part) × ((met e).part ≡ Some part))

-- There is a history of the game that the host has begun, in which each engine's link is what its readers
-- return, its runs told just the rows that the engine was told, and by these its world was stepped. Of that
-- history all holds that is promised of links. Its inputs, packets and reports are some that explain this: that
-- its inputs are those which the engines gave is not said
pub record HaveAgreed {W S : Type 0} (state : W → S) (physics : Physics S) (b : Begun) (t : Table W) : Type 0 where
  pub begun : (host : Engine W) → HasEngine t 0 host → begun_in (met host).lobby ≡ Some b
  pub places : length t.engines.items ≡ b.terms.players
  pub history : History
  pub links : (p : ℕ) (e : Engine W) → HasEngine t p e → (link : Link) × (link_in (met e).part ≡ Some link)
      × (surviving_of (linked link) ≡ history.survivors p)
  pub told : (p : ℕ) (e : Engine W) → HasEngine t p e → e.told.items ≡ history.told p
  pub worlds : (p : ℕ) (e : Engine W) → HasEngine t p e
      → state e.world ≡ world_by physics (world_told (limits_of b.terms) b.terms.settings e.told.items)
  pub agreed : AreAgreedInPairs (limits_of b.terms) b.terms.settings history
  pub fit : FitInPairs (limits_of b.terms) history
  pub demos : DemosAgreeInPairs b.terms.players b.terms.settings history
  pub headers : HeadersAgree b.terms.players history.survivors
  -- who may leave is needed by nobody who plays on
  pub leaving : (p q : ℕ) (one other : Engine W) (link its : Link) → HasEngine t p one → HasEngine t q other → q ≢ p
      → link_in (met one).part ≡ Some link → link_in (met other).part ≡ Some its
      → has_given_up (linked link) q ≡ false → may_leave (linked link) ≡ true → has_ended (linked its).node ≡ false
      → (got (linked its).node p ≡ made (linked link).node)
      × (has_given_up (linked its) p ≡ false → end_in (linked its).node p ≡ Some (made (linked link).node))
