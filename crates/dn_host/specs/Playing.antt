-- What a session's player does in the game: how its walk goes, and what is counted of it from its beginning on.
use Rattle.std.specs.Prelude.{◌≡◌, ℕ, ℤ, zero, ◌+◌, ◌*◌, ◌/◌, ◌%◌, ◌-◌, ◌^◌, min, nat_lt, if◌then◌else◌, Bool, true, false, List, [], ◌∷◌, ◌++◌, map, replicate, Option, Some, None, option_map, is_some, unwrap_or}
use Rattle.rand_pcg.specs.{Lcg.Lcg, Lcg.increment_of, Lcg.started, Pcg.multiplier_64, Pcg.pcg32}
use Rattle.dn_tic.specs.declared.{command.Move.Move, input.Input.TheVariants.Pressed}
use Rattle.dn_setup.specs.Settings.{Settings, start_of}
use Rattle.dn_world.specs.Plane.{Spots, walking}
use Rattle.dn_machine.specs.declared.{answers.Ran.Ran, answers.Ran.TheVariants.Waiting}
use Rattle.dn_lockstep.specs.{Contents.Contents, Rows.seats_of, Tables.count_of}
use Rattle.dn_link.specs.{declared.tally.Figures.Figures, declared.link.Link.Link, Linked.Linked, Linking.linked, Pacing.pace_of, Pacing.PaceState}
use Rattle.dn_measure.specs.{declared.measure.Told.Told, declared.measure.Told.TheVariants.Built, declared.measure.Told.TheVariants.Ran as Went, declared.status.Status.Status, Measure.IsMeasureOf, Runs.is_gap}
use Rattle.dn_session.specs.{Coming.lines_in, Players.four, Session.link_in, Session.GivesPart, Session.Meeting, Session.RunsPart}
use Rattle.dn_host.specs.{declared.counts.Counts.Counts, declared.game.Game.Game, declared.plan.Plan.Plan, Arrived.late_in, Arrived.standings_in}

-- the marks of all players, as the walk stands
abbrev pub marks_of : Spots → List ℤ
marks_of walk = map (walking.mark walk) four

-- for whom a run waits
abbrev pub waited_for : Ran → Option ℕ
waited_for (Waiting player) = Some player
waited_for answer = None

-- the walk begins as the settings say; one that has not begun has nobody
abbrev pub begun_by : Option Settings → ℕ → Spots
begun_by None players = None ∷ None ∷ None ∷ None ∷ []
begun_by (Some settings) players = walking.begin (start_of settings) (seats_of players)

-- a run of the session with the marks of the walk as it stands; the walk after it, which goes on by the row that the run
-- told, and by nothing else; whether a tic was run; and for whom the next one waits
abbrev pub RunsWalk : Spots → Meeting → Meeting → Spots → (has_run : Bool) → (waits : Option ℕ) → Type 0
RunsWalk before old new after has_run waits =
    (answer : Ran) × (row : Option (List (Option Move)))
    × RunsPart (marks_of before) old.part new.part answer row × (new ≡ record old { part = new.part })
    × (after ≡ unwrap_or (option_map (walking.step before) row) before) × (has_run ≡ is_some row) × (waits ≡ waited_for answer)

-- the same; but where the tic is held back nothing changes, and nobody is waited for
abbrev pub RunsWhen : (holds : Bool) → Spots → Meeting → Meeting → Spots → (has_run : Bool) → (waits : Option ℕ) → Type 0
RunsWhen true before old new after has_run waits =
    (new ≡ old) × (after ≡ before) × (has_run ≡ false) × (waits ≡ None)
RunsWhen false before old new after has_run waits = RunsWalk before old new after has_run waits

-- the session is given the keys that are drawn next, the low 18 bits of a word, or nothing
abbrev pub GivesInput : ℕ → Bool → Lcg → Meeting → Lcg → Meeting → Type 0
GivesInput now false keys old after new = (new ≡ old) × (after ≡ keys)
GivesInput now true keys old after new =
    GivesPart now (Pressed ((pcg32 keys).0 % 2 ^ 18)) old.part new.part true
    × (new ≡ record old { part = new.part }) × (after ≡ (pcg32 keys).1)

-- nothing was counted yet of a game that begins now
pub record IsFresh (now : ℕ) (counts : Counts) : Type 0 where
  pub measure : IsMeasureOf counts.measure now []
  pub late : counts.late ≡ replicate 4 0
  pub made : counts.made ≡ 0
  pub ran : counts.ran ≡ 0
  pub moved : counts.moved ≡ now
  pub shown : counts.shown ≡ 0
  pub since : counts.since ≡ now

-- what a node built and ran since it was counted last, all of it now, and each command and each tic once
abbrev pub told_since : (now made ran : ℕ) → Counts → List Told
told_since now made ran counts = replicate (ran - counts.ran) (Went now) ++ replicate (made - counts.made) (Built now)

pub record NotesMore (now : ℕ) (node : Contents) (old new : Counts) : Type 0 where
  pub measure : (start : ℕ) (before : List Told) → IsMeasureOf old.measure start before → IsMeasureOf new.measure start
      (before ++ told_since now (count_of node.rings node.me) node.ran old)
  pub late : new.late ≡ old.late
  pub made : new.made ≡ count_of node.rings node.me
  pub ran : new.ran ≡ node.ran
  pub moved : new.moved ≡ (if nat_lt old.ran node.ran then now else old.moved)
  pub shown : new.shown ≡ old.shown
  pub since : new.since ≡ old.since

-- the tics since they were last told, and in how long; for whom the next tic waits, if the time since the last one is
-- a gap; and how the others stand
abbrev pub status_at : Counts → Linked → PaceState → (waiting : Option ℕ) → (now : ℕ) → Status
status_at counts link pace waiting now = record {
  tics = counts.ran - counts.shown;
  micros = now - counts.since;
  waiting = if is_gap (now - counts.moved) then waiting else None;
  refused = pace.refused;
  peers = standings_in (lines_in link pace) counts.late;
}

-- all tics are told now, and nothing else changes
abbrev pub AreTold : ℕ → Counts → Counts → Type 0
AreTold now old new = new ≡ record old { shown = old.ran; since = now }

-- the milliseconds of a time; a session's clock has 32 bits
abbrev pub millis : ℕ → ℕ
millis time = min (time / 1000) (2 ^ 32 - 1)

-- when a game that begins now has been played for so many seconds; for 0 never
abbrev pub end_of_play : (now seconds : ℕ) → ℕ
end_of_play now zero = 2 ^ 64 - 1
end_of_play now seconds = min (now + seconds * 1000000) (2 ^ 64 - 1)

-- the game of a link begins now: its keys are drawn from the plan's seed, each player's from a stream of its own
pub record IsBegun (link : Link) (plan : Plan) (now : ℕ) (game : Game) : Type 0 where
  pub walk : game.walk ≡ begun_by (linked link).node.settings (linked link).node.players
  pub keys : game.keys ≡ started 64 multiplier_64 plan.seed (increment_of 64 (linked link).node.me)
  pub waiting : game.waiting ≡ None
  pub counts : IsFresh now game.counts
  pub until : game.until ≡ end_of_play now plan.seconds
  pub left : game.left ≡ None
  pub end : game.end ≡ None

-- what a session's link reports of the lines, if it has one
abbrev pub lines_of : Meeting → Option (List (Option Figures))
lines_of m = option_map (λ link. lines_in (linked link) (pace_of link)) (link_in m.part)

-- what came to a session that was this and is that is counted, if it came late
abbrev pub come_in : Meeting → Meeting → Game → Game
come_in from to game =
    record game { counts = record game.counts { late = late_in (lines_of from) (lines_of to) game.counts.late } }

-- what its link did is counted
abbrev pub NotesLink : ℕ → Option Link → Counts → Counts → Type 0
NotesLink now None old new = new ≡ old
NotesLink now (Some link) old new = NotesMore now (linked link).node old new

abbrev pub NotesIn : ℕ → Meeting → Game → Game → Type 0
NotesIn now m old new = NotesLink now (link_in m.part) old.counts new.counts × (new ≡ record old { counts = new.counts })

-- what is done in the game, and to something else, if there is a game; else nothing is
abbrev pub InGame : {A : Type 0} → (Game → A → Game → A → Type 0) → Option Game → A → Option Game → A → Type 0
InGame Does None a new b = (new ≡ None) × (b ≡ a)
InGame Does (Some old) a None b = ⊥
InGame Does (Some old) a (Some new) b = Does old a new b
