-- A host's session stays a host's, which is never refused; and who had a seat has a link.
use Rattle.std.proofs.Common.{◌≡◌, ◌-◌, ◌^◌, ℕ, zero, suc, Bool, true, false, List, Option, Some, None, Result, Ok, Err, inl, inr, refl, sym, ap, ◌∙◌, subst}
use Rattle.std.proofs.{lemmas.Bool.false≢true, lemmas.Option.none-some}
use Rattle.std.specs.{Prelude.◌&&◌, Prelude.◌==◌, Prelude.is_some, Prelude.IfOk, Option.option_map, Option.option_or}
use Rattle.rand_pcg.specs.Lcg.{Lcg}
use Rattle.dn_link.specs.Hearing.{ByTest}
use Rattle.dn_world.specs.Plane.{Spots}
use Rattle.dn_session.specs.Session.{HearsAny, holds_back_in, link_in, meeting, BeginsAs, Calls, HearsGreeting, HearsWhen, Meeting, SendsCall, SendsReply}
use Rattle.dn_session.specs.{Events.over_by, Events.over_in, Joining.joining, Playing.ended_as, Playing.playing, Reading.is_greeting}
use Rattle.dn_session.specs.declared.{greeting.Address.Address, greeting.Refusal.Refusal, joiner.Stage.Stage as JoinStage, part.Part.Part, session.Session.Session, side.Begun.Begun, side.Side.Side}
use Rattle.dn_measure.specs.declared.{end.End.End, status.Status.Status}
use Rattle.dn_session.specs.declared.ending.Ending.{Ending as GameEnding}
use Rattle.dn_session.specs.declared.joiner.Stage.TheVariants as stage
use Rattle.dn_session.specs.declared.side.Side.TheVariants as side
use Rattle.dn_session.specs.declared.ending.Over.TheVariants as over
use Rattle.dn_lockstep.specs.declared.config.NodeFault.{NodeFault}
use Rattle.dn_host.specs.Turns.{new_turns, stage_of, Gives, HearsNext, IsTurn, Plays, Repeats, Runs, Scene, SendsAll, SendsNext, Stage, TakesOne, TurnsOn}
use Rattle.dn_host.specs.{Leaving.LeavesFor, Playing.come_in, Playing.millis, Playing.InGame, Telling.Sight, Playing.GivesInput, Playing.RunsWhen}
use Rattle.dn_host.specs.Outcomes.{ended_with, is_refusal, GoesOn, IsLeftOf, IsPlayed}
use Rattle.dn_host.specs.declared.{ends.Ending.Ending, ends.HostFault.HostFault, ends.Outcome.Outcome, game.Game.Game, plan.Plan.Plan}
use Rattle.dn_host.specs.declared.ends.HostFault.TheVariants as fault

abbrev pub is_host : Side → Bool
is_host (side.Host host) = true
is_host (side.Joiner joiner) = false

abbrev pub hosts : Meeting → Type 0
hosts m = is_host m.lobby ≡ true

-- what is told of a lobby by an equation
same_lobby : (old new mid : Meeting) → new ≡ mid → hosts mid → hosts new
same_lobby old new mid same host = subst hosts (sym same) host

heard_host : (from : Address) (bytes : List ℕ) (now : ℕ) (old new : Side) (reply : Option (List ℕ))
    → HearsGreeting from bytes now old new reply → is_host old ≡ true → is_host new ≡ true
heard_host from bytes now (side.Host old) (side.Host new) reply heard host = refl
heard_host from bytes now (side.Host old) (side.Joiner new) reply heard host = absurd heard
heard_host from bytes now (side.Joiner old) new reply heard host = absurd (false≢true host)

hears_host : (greets : Bool) (from : Address) (bytes : List ℕ) (now : ℕ) (old new : Meeting)
    → HearsWhen greets from bytes now old new → hosts old → hosts new
hears_host true from bytes now old new (side, reply, heard, same) host =
    same_lobby old new _ same (heard_host from bytes now old.lobby side reply heard host)
hears_host false from bytes now old new (does, same) host = same_lobby old new _ same host

calls_host : (now : ℕ) (old new : Side) (call : Option (Address × List ℕ)) → Calls now old new call
    → is_host old ≡ true → is_host new ≡ true
calls_host now (side.Host old) new call (same, none) host = subst (λ (s : Side). is_host s ≡ true) (sym same) refl
calls_host now (side.Joiner old) new call calls host = absurd (false≢true host)

sends_call_host : (call : Option (Address × List ℕ)) (old new : Meeting) (sent : Option (Address × List ℕ))
    → SendsCall call old new sent → hosts old → hosts new
sends_call_host (Some call) old new sent (is, same) host = same_lobby old new _ same host
sends_call_host None old new sent (does, same) host = same_lobby old new _ same host

sends_host : (reply : Option (Address × List ℕ)) (old new : Meeting) (sent : Option (Address × List ℕ))
    → SendsReply reply old new sent → hosts old → hosts new
sends_host (Some reply) old new sent (is, same) host = same_lobby old new _ same host
sends_host None old new sent sends host = sends_call_host old.call old new sent sends host

gives_host : (now : ℕ) (given : Bool) (keys : Lcg) (old : Meeting) (after : Lcg) (new : Meeting)
    → GivesInput now given keys old after new → hosts old → hosts new
gives_host now true keys old after new (does, same, drawn) host = same_lobby old new _ same host
gives_host now false keys old after new (same, drawn) host = same_lobby old new _ same host

runs_host : (holds : Bool) (before : Spots) (old new : Meeting) (after : Spots) (done : Bool) (waits : Option ℕ)
    → RunsWhen holds before old new after done waits → hosts old → hosts new
runs_host true before old new after done waits does host = subst hosts (sym does.0) host
runs_host false before old new after done waits does host = same_lobby old new _ does.3 host

leaves_host : (left : Option ℕ) (plays : Bool) (why : Option End) (now : ℕ) (a : Game) (k : Meeting) (b : Game) (l : Meeting)
    → LeavesFor left plays why now a k b l → hosts k → hosts l
leaves_host None true (Some why) now a k b l (does, quits, same) host = same_lobby k l _ same host
leaves_host None true None now a k b l (still, same) host = same_lobby k l _ same host
leaves_host None false why now a k b l (does, same) host = same_lobby k l _ same host
leaves_host (Some since) plays why now a k b l (still, same) host = same_lobby k l _ same host

-- what each step keeps is kept by all
repeats_keep : {A B : Type 0} (Does : A → B → Bool → A → B → Type 0) (P : A → B → Type 0)
    → ((a : A) (k : B) (done : Bool) (b : A) (l : B) → Does a k done b l → P a k → P b l)
    → (n : ℕ) (a : A) (k : B) (b : A) (l : B) (all : Bool) → Repeats Does n a k b l all → P a k → P b l
unfolding Repeats
repeats_keep Does P keeps zero a k b l all (same, still, none) p =
    subst (λ m. P b m) (sym still) (subst (λ c. P c k) (sym same) p)
repeats_keep Does P keeps (suc n) a k b l all (inl (does, last)) p = keeps a k false b l does p
repeats_keep Does P keeps (suc n) a k b l all (inr (c, m, does, rest)) p =
    repeats_keep Does P keeps n c m b l all rest (keeps a k true c m does p)

plays_host : (now : ℕ) (a : Game) (k : Meeting) (b : Game) (l : Meeting) → Plays now a k b l → hosts k → hosts l
plays_host now a k b l (c, m, given, gives, d, n, run, runs, leaves) host =
    leaves_host _ _ _ now d n b l leaves
    (repeats_keep (Runs now) (λ e p. hosts p) (λ e p done f q does. runs_host (holds_back_in p.part) e.walk p q does.0.walk done
    does.0.waiting does.1) 32 c m d n run runs
    (repeats_keep (Gives now) (λ e p. hosts p) (λ e p done f q does. gives_host _ done e.keys p does.0.keys q does.1) 32 a k c m given
    gives host))

plays_in_host : (now : ℕ) (old : Option Game) (k : Meeting) (new : Option Game) (m : Meeting)
    → InGame (Plays now) old k new m → hosts k → hosts m
plays_in_host now None k new m (gone, same) host = subst hosts (sym same) host
plays_in_host now (Some old) k None m plays host = absurd plays
plays_in_host now (Some old) k (Some new) m plays host = plays_host now old k new m plays host

begins_host : (begun : Option Begun) (now : ℕ) (old new : Meeting) (result : Result Bool NodeFault)
    → BeginsAs begun now old new result → hosts old → hosts new
begins_host None now old new result (is, same) host = same_lobby old new _ same host
begins_host (Some begun) now old new (Ok began) (part, made, is, same) host = same_lobby old new _ same host
begins_host (Some begun) now old new (Err fault) (made, same) host = same_lobby old new _ same host

-- how a session ends

refuses : Option Ending → Bool
refuses None = false
refuses (Some ending) = is_refusal ending

part_seated : (ending : Option GameEnding) (game : Option Game) (e : Ending)
    → ended_with (option_map over.Ended ending) game ≡ Some e → is_refusal e ≡ false
unfolding refuses
part_seated None game e is = absurd (none-some e is)
part_seated (Some ending) None e is = absurd (none-some e is)
part_seated (Some ending) (Some game) e is = ap refuses (sym is)

host_is_seated : (part : Option Part) (game : Option Game) (lobby : Side) (e : Ending)
    → is_host lobby ≡ true → ended_with (over_in lobby part) game ≡ Some e → is_refusal e ≡ false
host_is_seated None game (side.Host h) e host is = absurd (none-some e is)
host_is_seated (Some part) game (side.Host h) e host is = part_seated (ended_as (playing part).progress) game e is
host_is_seated part game (side.Joiner j) e host is = absurd (false≢true host)

stage_refuses : (s : JoinStage) (game : Option Game) (e : Ending)
    → ended_with (option_or (over_by s) None) game ≡ Some e → is_refusal e ≡ true
unfolding refuses
stage_refuses (stage.Refused refusal) game e is = ap refuses (sym is)
stage_refuses (stage.Hinted hint) game e is = ap refuses (sym is)
stage_refuses stage.Calling game e is = absurd (none-some e is)
stage_refuses stage.Waiting game e is = absurd (none-some e is)
stage_refuses stage.Seated game e is = absurd (none-some e is)
stage_refuses stage.Playing game e is = absurd (none-some e is)

lobby_refuses : (lobby : Side) (game : Option Game) (e : Ending) → ended_with (over_in lobby None) game ≡ Some e
    → is_refusal e ≡ true
lobby_refuses (side.Host host) game e is = absurd (none-some e is)
lobby_refuses (side.Joiner joiner) game e is = stage_refuses (joining joiner).stage game e is

seated_has_link : (part : Option Part) (game : Option Game) (lobby : Side) (e : Ending)
    → ended_with (over_in lobby part) game ≡ Some e → is_refusal e ≡ false → is_some (link_in part) ≡ true
seated_has_link (Some part) game lobby e is seated = refl
seated_has_link None game lobby e is seated = absurd (false≢true (sym seated ∙ lobby_refuses lobby game e is))

-- turns

module _ {W : Type 0} (sends : W → Address → List ℕ → W → Type 0) (polls : W → Option (Address × List ℕ) → W → Type 0) where
  sends_one_host : (k : Meeting) (v : W) (sent : Bool) (m : Meeting) (w : W) → SendsNext sends k v sent m w → hosts k
      → hosts m
  sends_one_host k v false m w (none, still) host = sends_host _ k m _ none host
  sends_one_host k v true m w (to, bytes, given, sent) host = sends_host _ k m _ given host

  sends_all_host : (k : Meeting) (v : W) (m : Meeting) (w : W) → SendsAll sends k v m w → hosts k → hosts m
  sends_all_host k v m w (sent, all) host =
      repeats_keep (SendsNext sends) (λ l x. hosts l) sends_one_host 10 k v m w sent all host

  takes_host : (now left : ℕ) (from : Address) (bytes : List ℕ) (a b : Scene W) → TakesOne sends now left from bytes a b
      → hosts a.session → hosts b.session
  takes_host now left from bytes a b takes host = go (is_greeting bytes && left == 0) takes
    where
      go : (test : Bool) → ByTest test (b ≡ a)
          ((m : Meeting) × HearsAny from bytes (millis now) a.session m
          × (b.game ≡ option_map (come_in a.session m) a.game) × SendsAll sends m a.wire b.session b.wire) → hosts b.session
      go true same = subst (λ (s : Scene W). hosts s.session) (sym same) host
      go false (m, heard, comes, sent) =
          sends_all_host m a.wire b.session b.wire sent (hears_host _ from bytes _ a.session m heard host)

  hears_next_host : (now : ℕ) (a : Scene W) (left : ℕ) (heard : Bool) (b : Scene W) (rest : ℕ)
      → HearsNext sends polls now a left heard b rest → hosts a.session → hosts b.session
  hears_next_host now a left false b rest (polled, same, still) host =
      subst (λ (s : Scene W). hosts s.session) (sym same) host
  hears_next_host now a left true b rest (wire, from, bytes, polled, takes, less) host =
      takes_host now left from bytes _ b takes host

  module _ {S : Type 0} (shows : S → Status → S → Type 0) (waits : S → Refusal → S → Type 0) (misses : S → S → Type 0) where
    turns_on_host : (plan : Plan) (now : ℕ) (busy : Bool) (k : Meeting) (b : Scene W) (s : Sight S) (z : Scene W) (t : Sight S)
        (result : Result Bool HostFault) → TurnsOn sends polls shows waits misses plan now busy k b s z t result → hosts k
        → hosts z.session
    turns_on_host plan now busy k b s z t (Ok more) (l, g, starts, m, h, plays, sent, tells, same) host =
        sends_all_host m b.wire z.session z.wire sent
        (plays_in_host now g l h m plays (begins_host _ _ k l _ starts.1 host))
    turns_on_host plan now busy k b s z t (Err fault) (lacks, begins, rest, still, is) host =
        begins_host _ _ k z.session _ begins host

    turn_host : (plan : Plan) (now : ℕ) (a z : Stage W S) (result : Result Bool HostFault)
        → IsTurn sends polls shows waits misses plan now a z result → hosts a.scene.session → hosts z.scene.session
    turn_host plan now a z result (b, left, busy, heard, k, passed, rest) host =
        let hears = repeats_keep (HearsNext sends polls now) (λ (c : Scene W) (n : ℕ). hosts c.session) (hears_next_host now) 64
        a.scene 2 b left busy heard host in
        turns_on_host plan now busy k b a.sight z.scene z.sight result rest
        (subst hosts (sym passed.3) (calls_host _ _ _ _ passed.1 hears))

    module _ {Y : Type 0} (reads : Y → Option ℕ → Y → Type 0) (naps : Y → Y → Type 0) (plan : Plan) where
      goes_on_host : (start : ℕ) (r : Result Outcome HostFault) (a : Stage W S) (x : Y) (on : Bool) (b : Stage W S) (y : Y)
          → GoesOn sends polls shows waits misses reads naps plan start r a x on b y → hosts a.scene.session
          → hosts b.scene.session
      goes_on_host start r a x true b y (time, z, read, busy, turn, goes, rests) host =
          turn_host plan (time - start) a b (Ok busy) turn host
      goes_on_host start r a x false b y (inl (read, is, same)) host =
          subst (λ (s : Stage W S). hosts s.scene.session) (sym same) host
      goes_on_host start (Err fault) a x false b y (inr (time, read, turn)) host =
          turn_host plan (time - start) a b (Err fault) turn host
      goes_on_host start (Ok o) a x false b y (inr (time, read, (busy, turn, left))) host =
          turn_host plan (time - start) a b (Ok busy) turn host

      -- what is left of a session is so of what it is at its end
      abbrev Ends : Stage W S → Outcome → Type 0
      Ends b o = (now : ℕ) × IsLeftOf now b.scene.session b.scene.game o

      repeats_end : (start : ℕ) (o : Outcome) (n : ℕ) (a : Stage W S) (x : Y) (b : Stage W S) (y : Y) (all : Bool)
          → Repeats (GoesOn sends polls shows waits misses reads naps plan start (Ok o)) n a x b y all
          → (all ≡ true → Ok o ≡ Err fault.Clock) → Ends b o
      unfolding Repeats
      repeats_end start o zero a x b y all (same, still, done) late = let wrong = late done in absurd (cc)
      repeats_end start o (suc n) a x b y all (inl (inl (read, is, same), last)) late = absurd (cc)
      repeats_end start o (suc n) a x b y all (inl (inr (time, read, (busy, turn, left)), last)) late = (time - start, left)
      repeats_end start o (suc n) a x b y all (inr (c, m, does, rest)) late = repeats_end start o n c m b y all rest late

      -- the end of a session that was played, which is a host's if it was
      abbrev IsEnd : Session → Outcome → Type 0
      IsEnd session o = (b : Stage W S) × Ends b o × (hosts (meeting session) → hosts b.scene.session)

      ends : (session : Session) (v : W) (s : S) (x : Y) (w : W) (t : S) (y : Y) (o : Outcome)
          → IsPlayed sends polls shows waits misses reads naps plan (stage_of (new_turns session plan) v s) x w t y (Ok o)
          → IsEnd session o
      ends session v s x w t y o (inl (read, is, wire, screen)) = absurd (cc)
      ends session v s x w t y o (inr (start, z, read, b, all, turns, late, wire, screen)) = (
        b,
        repeats_end start o (2 ^ 64 - 1) (stage_of (new_turns session plan) v s) z b y all turns late,
        repeats_keep (GoesOn sends polls shows waits misses reads naps plan start (Ok o))
            (λ (c : Stage W S) (m : Y). hosts c.scene.session) (goes_on_host start (Ok o)) (2 ^ 64 - 1)
            (stage_of (new_turns session plan) v s) z b y all turns,
      )

      pub linked : (session : Session) (v : W) (s : S) (x : Y) (w : W) (t : S) (y : Y) (r : Result Outcome HostFault)
          → IsPlayed sends polls shows waits misses reads naps plan (stage_of (new_turns session plan) v s) x w t y r → IfOk r (λ o. is_refusal o.ending ≡ false → is_some o.link ≡ true)
      linked session v s x w t y (Err fault) played = tt
      linked session v s x w t y (Ok o) played =
          let end = ends session v s x w t y o played in
          λ seated. ap is_some end.1.1.link ∙ seated_has_link end.0.scene.session.part end.0.scene.game
          end.0.scene.session.lobby o.ending end.1.1.ending seated

      pub seated : (session : Session) (v : W) (s : S) (x : Y) (w : W) (t : S) (y : Y) (r : Result Outcome HostFault)
          → IsPlayed sends polls shows waits misses reads naps plan (stage_of (new_turns session plan) v s) x w t y r → hosts (meeting session)
          → IfOk r (λ o. is_refusal o.ending ≡ false)
      seated session v s x w t y (Err fault) played host = tt
      seated session v s x w t y (Ok o) played host =
          let end = ends session v s x w t y o played in
          host_is_seated end.0.scene.session.part end.0.scene.game end.0.scene.session.lobby o.ending (end.2 host)
          end.1.1.ending

      pub host_linked : (session : Session) (v : W) (s : S) (x : Y) (w : W) (t : S) (y : Y) (r : Result Outcome HostFault)
          → IsPlayed sends polls shows waits misses reads naps plan (stage_of (new_turns session plan) v s) x w t y r
          → hosts (meeting session) → IfOk r (λ o. is_some o.link ≡ true)
      host_linked session v s x w t y (Err fault) played host = tt
      host_linked session v s x w t y (Ok o) played host =
          linked session v s x w t y (Ok o) played (seated session v s x w t y (Ok o) played host)
