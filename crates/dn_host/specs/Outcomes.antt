-- How a session goes on until it ends, and what is left of it.
use Rattle.std.specs.Prelude.{◌≡◌, ◌⊎◌, ◌-◌, ◌^◌, ℕ, Bool, true, false, List, Option, Some, None, Result, Ok, Err, unwrap_or}
use Rattle.dn_link.specs.{declared.link.Link.Link, Hearing.ByTest, Linking.linked, Pacing.pace_of}
use Rattle.dn_measure.specs.{Measure.IsMeasureOf, Measure.IsSummaryOf, declared.measure.Summary.Summary, declared.measure.Told.Told, declared.status.Status.Status}
use Rattle.dn_session.specs.{Coming.lines_in, Events.over_in, Session.begun_in, Session.link_in, Session.Meeting, declared.ending.Over.Over, declared.greeting.Address.Address, declared.greeting.Refusal.Refusal, declared.side.Begun.Begun, declared.session.Session.Session, declared.terms.LobbyFault.LobbyFault}
use Rattle.dn_host.specs.{Arrived.came_of_each, Arrived.IsSomeMeasure, Leaving.end_of, Turns.new_turns, Turns.stage_of, Turns.IsTurn, Turns.Repeats, Turns.Stage, declared.{ends.Ending.Ending, ends.Ending.TheVariants.Ended, ends.Ending.TheVariants.Refused, ends.Ending.TheVariants.Hinted, ends.HostFault.HostFault, ends.HostFault.TheVariants.Clock, ends.HostFault.TheVariants.Random, ends.HostFault.TheVariants.Terms, ends.Outcome.Outcome, game.Game.Game, plan.Plan.Plan}}
use Rattle.dn_session.specs.declared.ending.Over.TheVariants as over

-- the host gave no seat, or could not read the calls
abbrev pub is_refusal : Ending → Bool
is_refusal (Ended end) = false
is_refusal ending = true

-- how it ends: as its part in the game did, or for the reason for which its player left; or in its lobby
abbrev pub ended_with : Option Over → Option Game → Option Ending
ended_with (Some (over.Refused refusal)) game = Some (Refused refusal)
ended_with (Some (over.Hinted hint)) game = Some (Hinted hint)
ended_with (Some (over.Ended ending)) (Some game) = Some (Ended (unwrap_or game.end (end_of ending)))
ended_with over game = None

abbrev pub ended_at : Meeting → Option Game → Option Ending
ended_at m game = ended_with (over_in m.lobby m.part) game

-- what was measured of a link, up to when its player began to leave, whatever was told of it; nothing was where no game
-- began
abbrev pub SumsUp : ℕ → Option Begun → Option Game → Option Link → Option Summary → Type 0
SumsUp now (Some begun) (Some game) (Some link) None = ⊥
SumsUp now (Some begun) (Some game) (Some link) (Some s) = IsSomeMeasure game.counts.measure
    × ((start : ℕ) (told : List Told) → IsMeasureOf game.counts.measure start told → IsSummaryOf start told
    (unwrap_or game.left now) begun.terms.rate (came_of_each (lines_in (linked link) (pace_of link)) game.counts.late) s)
SumsUp now begun game link summary = summary ≡ None

-- what is left of a session that is this now: its own link
pub record IsLeftOf (now : ℕ) (m : Meeting) (game : Option Game) (o : Outcome) : Type 0 where
  pub ending : ended_at m game ≡ Some o.ending
  pub link : o.link ≡ link_in m.part
  pub summary : SumsUp now (begun_in m.lobby) game o.link o.summary

module _ {W : Type 0} (sends : W → Address → List ℕ → W → Type 0) (polls : W → Option (Address × List ℕ) → W → Type 0)
    {S : Type 0} (shows : S → Status → S → Type 0) (waits : S → Refusal → S → Type 0) (misses : S → S → Type 0)
    {Y : Type 0} (reads : Y → Option ℕ → Y → Type 0) (naps : Y → Y → Type 0)
  where
    -- the last turn: it broke off, or the session has ended, and this is left of it
    abbrev pub EndsBy : Plan → (now : ℕ) → Stage W S → Stage W S → Result Outcome HostFault → Type 0
    EndsBy plan now a b (Err fault) = IsTurn sends polls shows waits misses plan now a b (Err fault)
    EndsBy plan now a b (Ok o) = (busy : Bool) × IsTurn sends polls shows waits misses plan now a b (Ok busy)
        × IsLeftOf now b.scene.session b.scene.game o

    -- a turn at the time since the start, by the clock: one after which the session has not ended, and a nap, unless more
    -- may have come; or the last one; without the clock there is none
    abbrev pub GoesOn : Plan → (start : ℕ) → Result Outcome HostFault → Stage W S → Y → (on : Bool) → Stage W S → Y → Type 0
    GoesOn plan start r a x true b y = (time : ℕ) × (z : Y) × reads x (Some time) z × (busy : Bool)
        × IsTurn sends polls shows waits misses plan (time - start) a b (Ok busy)
        × (ended_at b.scene.session b.scene.game ≡ None) × ByTest busy (y ≡ z) (naps z y)
    GoesOn plan start r a x false b y = (reads x None y × (r ≡ Err Clock) × (b ≡ a))
        ⊎ ((time : ℕ) × reads x (Some time) y × EndsBy plan (time - start) a b r)

    -- a session is played from its beginning on, when the clock is read for the first time, until the last turn; after
    -- 2^64 - 1 turns that is said to be the clock's fault
    abbrev pub IsPlayed : Plan → Stage W S → Y → W → S → Y → Result Outcome HostFault → Type 0
    IsPlayed plan a x w t y r = (reads x None y × (r ≡ Err Clock) × (w ≡ a.scene.wire) × (t ≡ a.sight.screen))
        ⊎ ((start : ℕ) × (z : Y) × reads x (Some start) z × (b : Stage W S) × (all : Bool)
        × Repeats (GoesOn plan start r) (2 ^ 64 - 1) a z b y all × (all ≡ true → r ≡ Err Clock)
        × (b.scene.wire ≡ w) × (b.sight.screen ≡ t))

    -- the session that is made of the system's random bytes is played; or there were none, or it was not made, and nothing
    -- else happens
    abbrev pub IsGame : (draws : Y → Option (List ℕ) → Y → Type 0) → (Made : List ℕ → Result Session LobbyFault → Type 0)
        → Plan → W → S → Y → W → S → Y → Result Outcome HostFault → Type 0
    IsGame draws Made plan v s x w t y r = ((random : List ℕ) × (z : Y) × draws x (Some random) z × (session : Session)
        × Made random (Ok session) × IsPlayed plan (stage_of (new_turns session plan) v s) z w t y r)
        ⊎ ((w ≡ v) × (t ≡ s) × ((draws x None y × (r ≡ Err Random)) ⊎ ((random : List ℕ) × draws x (Some random) y
        × (refused : LobbyFault) × Made random (Err refused) × (r ≡ Err Terms))))
