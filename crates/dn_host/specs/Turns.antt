-- What the turns of a session are: calls of the session, its wire and its screen, and what its player does between them.
use Rattle.std.specs.Prelude.{◌≡◌, ◌⊎◌, ◌&&◌, ◌==◌, ◌-◌, ℕ, zero, suc, Bool, true, false, if◌then◌else◌, List, Option, Some, None, option_map, Result, Ok, Err}
use Rattle.dn_link.specs.{Hearing.ByTest, declared.link.Link.Link}
use Rattle.dn_lockstep.specs.declared.config.NodeFault.{NodeFault}
use Rattle.dn_measure.specs.declared.status.Status.{Status}
use Rattle.dn_session.specs.{declared.greeting.Address.Address, declared.greeting.Refusal.Refusal, declared.session.Session.Session, Reading.is_greeting, Session.can_give, Session.holds_back_in, Session.link_in, Session.meeting, Session.Begins, Session.HearsAny, Session.Meeting, Session.PassesTo, Session.Sends}
use Rattle.dn_host.specs.{Leaving.Leaves, Playing.come_in, Playing.millis, Playing.InGame, Playing.IsBegun, Playing.NotesIn, Telling.Sight, Telling.Tells, Playing.GivesInput, Playing.RunsWhen, declared.{ends.HostFault.HostFault, ends.HostFault.TheVariants.Memory, game.Game.Game, plan.Plan.Plan, turns.Turns.Turns}}

-- something is done again and again, until it was not, or was done so many times; and whether it was done so often
unfoldable pub Repeats : {A B : Type 0} → (A → B → Bool → A → B → Type 0) → ℕ → A → B → A → B → (all : Bool) → Type 0
Repeats Does zero a k b l all = (b ≡ a) × (l ≡ k) × (all ≡ true)
Repeats {A = A} {B = B} Does (suc n) a k b l all = (Does a k false b l × (all ≡ false))
    ⊎ ((c : A) × (m : B) × Does a k true c m × Repeats Does n c m b l all)

-- keys are given, if a tick is due, and what came of it is counted
abbrev pub Gives : ℕ → Game → Meeting → (given : Bool) → Game → Meeting → Type 0
Gives now a k given b l = (c : Game) × GivesInput (millis now) given a.keys k c.keys l
    × (given ≡ can_give (millis now) k.part) × (c ≡ record a { keys = c.keys }) × NotesIn now l c b

-- the next tic is run with the marks of the walk, if it can be run and is not held back, and is counted
abbrev pub Runs : ℕ → Game → Meeting → (has_run : Bool) → Game → Meeting → Type 0
Runs now a k has_run b l = (c : Game) × RunsWhen (holds_back_in k.part) a.walk k l c.walk has_run c.waiting
    × (c ≡ record a { walk = c.walk; waiting = c.waiting }) × NotesIn now l c b

-- its player gives the keys that are due, runs the tics that can be run, and leaves if it is time
abbrev pub Plays : ℕ → Game → Meeting → Game → Meeting → Type 0
Plays now a k b l = (c : Game) × (m : Meeting) × (given : Bool) × Repeats (Gives now) 32 a k c m given
    × (d : Game) × (n : Meeting) × (run : Bool) × Repeats (Runs now) 32 c m d n run × Leaves now d n b l

-- its player's part in the game begins, if the game has, and with it the player's walk
abbrev pub StartsAs : Bool → Plan → (now : ℕ) → Option Link → Option Game → Option Game → Type 0
StartsAs true plan now (Some link) old new = (game : Game) × IsBegun link plan now game × (new ≡ Some game)
StartsAs began plan now link old new = new ≡ old

abbrev pub Starts : Plan → (now : ℕ) → Meeting → Option Game → Meeting → Option Game → Type 0
Starts plan now from old to new =
    (began : Bool) × Begins (millis now) from to (Ok began) × StartsAs began plan now (link_in to.part) old new

-- a session, what its player does in the game once that has begun, and its wire
pub record Scene (W : Type 0) : Type 0 where
  pub session : Meeting
  pub game : Option Game
  pub wire : W

-- all that turns change, but for the system
pub record Stage (W S : Type 0) : Type 0 where
  pub scene : Scene W
  pub sight : Sight S

-- how many more greetings are taken in this turn, after these bytes
abbrev pub left_after : ℕ → List ℕ → ℕ
left_after left bytes = if is_greeting bytes then left - 1 else left

module _ {W : Type 0} (sends : W → Address → List ℕ → W → Type 0) where
  -- what a session owes next goes where it says
  abbrev pub SendsNext : Meeting → W → (sent : Bool) → Meeting → W → Type 0
  SendsNext k v false m w = Sends k m None × (w ≡ v)
  SendsNext k v true m w = (to : Address) × (bytes : List ℕ) × Sends k m (Some (to, bytes)) × sends v to bytes w

  -- until it owes nothing more, or ten datagrams went
  abbrev pub SendsAll : Meeting → W → Meeting → W → Type 0
  SendsAll k v m w = (sent : Bool) × Repeats SendsNext 10 k v m w sent

  -- a greeting is dropped, if no more are taken; else a datagram is heard, counted if it came late, and replied to
  abbrev pub TakesOne : (now left : ℕ) → Address → List ℕ → Scene W → Scene W → Type 0
  TakesOne now left from bytes a b = ByTest (is_greeting bytes && left == 0) (b ≡ a)
      ((m : Meeting) × HearsAny from bytes (millis now) a.session m × (b.game ≡ option_map (come_in a.session m) a.game)
      × SendsAll m a.wire b.session b.wire)

  module _ (polls : W → Option (Address × List ℕ) → W → Type 0) where
    -- the next datagram that the wire gives is taken
    abbrev pub HearsNext : (now : ℕ) → Scene W → (left : ℕ) → (heard : Bool) → Scene W → (left : ℕ) → Type 0
    HearsNext now a left false b rest = polls a.wire None b.wire × (b ≡ record a { wire = b.wire }) × (rest ≡ left)
    HearsNext now a left true b rest =
        (wire : W) × (from : Address) × (bytes : List ℕ) × polls a.wire (Some (from, bytes)) wire
        × TakesOne now left from bytes (record a { wire = wire }) b × (rest ≡ left_after left bytes)

    module _ {S : Type 0} (shows : S → Status → S → Type 0) (waits : S → Refusal → S → Type 0) (misses : S → S → Type 0) where
      -- the game begins, if it does; its player plays; what is owed is sent; the screen is told. Or no memory is there
      abbrev pub TurnsOn : Plan → (now : ℕ) → (busy : Bool) → Meeting → Scene W → Sight S → Scene W → Sight S
          → Result Bool HostFault → Type 0
      TurnsOn plan now busy k b s z t (Ok more) =
          (l : Meeting) × (g : Option Game) × Starts plan now k b.game l g
          × (m : Meeting) × (h : Option Game) × InGame (Plays now) g l h m
          × SendsAll m b.wire z.session z.wire × Tells shows waits misses now z.session h s z.game t × (more ≡ busy)
      TurnsOn plan now busy k b s z t (Err fault) = (lacks : NodeFault) × Begins (millis now) k z.session (Err lacks)
          × (z ≡ record b { session = z.session }) × (t ≡ s) × (fault ≡ Memory)

      -- a turn: what came is heard, two greetings of 64 datagrams at most; time passes; and the rest follows
      abbrev pub IsTurn : Plan → (now : ℕ) → Stage W S → Stage W S → Result Bool HostFault → Type 0
      IsTurn plan now a z result =
          (b : Scene W) × (left : ℕ) × (busy : Bool) × Repeats (HearsNext now) 64 a.scene 2 b left busy × (k : Meeting)
          × PassesTo (millis now) b.session k × TurnsOn plan now busy k b a.sight z.scene z.sight result

abbrev pub stage_of : {W S : Type 0} → Turns → W → S → Stage W S
stage_of turns wire screen = record {
  scene = record { session = meeting turns.session; game = turns.game; wire = wire };
  sight = record { screen = screen; told = turns.told; second = turns.second };
}

-- turns of a session that begins, whose screen was told nothing
abbrev pub new_turns : Session → Plan → Turns
new_turns session plan =
    record { session = session; plan = plan; game = None; told = record { waits = false; missed = 0 }; second = 0 }
