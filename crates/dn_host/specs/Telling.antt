-- What a screen is told: that a joiner waits, and how the game stands.
use Rattle.std.specs.Prelude.{◌≡◌, ℕ, ◌+◌, ◌-◌, ◌^◌, min, ◌&&◌, nat_le, not, Bool, true, false, Option, Some, None}
use Rattle.dn_link.specs.{declared.link.Link.Link, Hearing.ByTest, Linking.linked, Pacing.pace_of}
use Rattle.dn_measure.specs.declared.status.Status.{Status}
use Rattle.dn_session.specs.{Joining.is_unanswered, Joining.joining, Session.link_in, Session.Meeting, declared.greeting.Refusal.Refusal, declared.greeting.Refusal.TheVariants.Full}
use Rattle.dn_session.specs.declared.{joiner.Joiner.Joiner, joiner.Stage.Stage, joiner.Stage.TheVariants.Waiting, side.Side.Side, side.Side.TheVariants.Host, side.Side.TheVariants.Joiner as Joins}
use Rattle.dn_host.specs.{declared.game.Game.Game, declared.screen.Told.Told, Playing.AreTold, Playing.status_at, Playing.millis, Playing.InGame}

-- a screen, what it was told of a joiner that waits, and when it is told next how the game stands
pub record Sight (S : Type 0) : Type 0 where
  pub screen : S
  pub told : Told
  pub second : ℕ

abbrev pub is_waiting : Stage → Bool
is_waiting Waiting = true
is_waiting stage = false

-- it waits for a seat
abbrev pub has_no_seat : Joiner → Bool
has_no_seat joiner = is_waiting (joining joiner).stage

-- its host is silent, and that was not told in the last ten seconds
abbrev pub is_missed : (now : ℕ) → Joiner → (missed : ℕ) → Bool
is_missed now joiner missed = is_unanswered now (joining joiner) && nat_le 10000 (now - missed)

-- that it has no seat is told, if that is new
abbrev pub TellsWait : {S : Type 0} → (S → Refusal → S → Type 0) → Joiner → Told → S → Told → S → Type 0
TellsWait waits joiner old s new t = (new ≡ record old { waits = has_no_seat joiner })
    × ByTest (has_no_seat joiner && not old.waits) (waits s Full t) (t ≡ s)

-- that its host is silent
abbrev pub TellsMiss : {S : Type 0} → (S → S → Type 0) → ℕ → Joiner → Told → S → Told → S → Type 0
TellsMiss misses now joiner old s new t = ByTest (is_missed now joiner old.missed)
    ((new ≡ record old { missed = now }) × misses s t) ((new ≡ old) × (t ≡ s))

-- a host waits for others, and nothing is told of that
abbrev pub TellsLobby : {S : Type 0} → (S → Refusal → S → Type 0) → (S → S → Type 0) → ℕ → Side → Told → S → Told → S
    → Type 0
TellsLobby waits misses now (Host host) old s new t = (new ≡ old) × (t ≡ s)
TellsLobby {S = S} waits misses now (Joins joiner) old s new t =
    (mid : Told) × (u : S) × TellsWait waits joiner old s mid u × TellsMiss misses now joiner mid u new t

-- how the game of a link stands
abbrev pub Shows : {S : Type 0} → (S → Status → S → Type 0) → ℕ → Option Link → Game → S → Game → S → Type 0
Shows shows now None old s new t = (new ≡ old) × (t ≡ s)
Shows shows now (Some link) old s new t =
    shows s (status_at old.counts (linked link) (pace_of link) old.waiting now) t
    × AreTold now old.counts new.counts × (new ≡ record old { counts = new.counts })

-- it is told each second, once there is a game
abbrev pub ShowsEach : {S : Type 0} → (S → Status → S → Type 0) → ℕ → Meeting → Option Game → S → ℕ → Option Game → S → ℕ
    → Type 0
ShowsEach shows now m old s due new t next = ByTest (nat_le due now)
    ((next ≡ min (now + 1000000) (2 ^ 64 - 1)) × InGame (Shows shows now (link_in m.part)) old s new t)
    ((next ≡ due) × (new ≡ old) × (t ≡ s))

-- what a screen is told in a turn of a session that is this
abbrev pub Tells : {S : Type 0} → (S → Status → S → Type 0) → (S → Refusal → S → Type 0) → (S → S → Type 0) → ℕ → Meeting
    → Option Game → Sight S → Option Game → Sight S → Type 0
Tells {S = S} shows waits misses now m old s new t =
    (u : S) × TellsLobby waits misses (millis now) m.lobby s.told s.screen t.told u
    × ShowsEach shows now m old u s.second new t.screen t.second
