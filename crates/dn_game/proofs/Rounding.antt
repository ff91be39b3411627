-- Good rounds are their events, applied one after another, and the room that packets take.
use Rattle.std.proofs.Common.{◌≡◌, ◌+◌, ◌++◌, ℕ, suc, List, [], ◌∷◌, Result, length, append_assoc, append-nil, ap, sym, ◌∙◌, refl, subst, inl, inr, arith, ◌<◌, zero, ◌≤◌, ◌⊎◌, ◌*◌, length-append, slice_get}
use Rattle.std.proofs.lemmas.{Bool.cases_lt, Grind.flat_map-append}
use Rattle.dn_machine.specs.{declared.events.Done.Done, declared.events.Event.Event, declared.events.Refusal.Refusal, Game.{Game}, Worlds.Rules}
use Rattle.dn_machine.specs.{Progress.{after, in_order, exchange, turn, good_round, good_rounds}}
use Rattle.dn_game.specs.{declared.flight.Flight.Flight, Applied.IsApplied, Contents.{Contents, contents}, Frame.{KeepsFlights, KeepsRest, MovesNoWorld, KeepsGiven}, Opening.worlds_of}
use Rattle.dn_game.specs.{Rounds.{after_all, answers_to, events_in_order, exchange_events, turn_events, round_events, rounds_events, KeepsIdleWorlds}, Played.Plays}
use Rattle.dn_game.specs.{declared.game.Game.Game as GameOf, Room.{Continues, KeepsWhose, room_of}, Pool.{Room, HasGrown, IsWithinTwice, grown}}
use Rattle.dn_game.proofs.Giving.{at_front, named_stays, stays_at}
use Rattle.dn_tic.specs.declared.input.Input.{Input}

module _ {S : Type 0} (rules : Rules S) where
  -- events, and then more
  pub all_after : (events more : List Event) (game : Game)
      → after_all rules (events ++ more) game ≡ after_all rules more (after_all rules events game)
  all_after [] more game = refl
  all_after (event ∷ events) more game = all_after events more (after rules event game)

  pub answers_after : (events more : List Event) (game : Game) → answers_to rules (events ++ more) game
      ≡ answers_to rules events game ++ answers_to rules more (after_all rules events game)
  answers_after [] more game = refl
  answers_after (event ∷ events) more game = grind (arith, answers_after events more (after rules event game))

  pub answers_each : (events : List Event) (game : Game) → length events ≡ length (answers_to rules events game)
  answers_each [] game = refl
  answers_each (event ∷ events) game = ap suc (answers_each events (after rules event game))

  -- each is answered as the machine answers it
  pub plays_all : (events : List Event) (game : Game)
      → Plays rules game events (answers_to rules events game) (after_all rules events game)
  plays_all [] game = refl
  plays_all (event ∷ events) game =
      (after rules event game, inl (refl, refl), plays_all events (after rules event game))

  pub after_in_order : (step : Game → ℕ → Game) (events : Game → ℕ → List Event)
      → ((game : Game) (i : ℕ) → after_all rules (events game i) game ≡ step game i) → (bound : ℕ) (game : Game)
      → after_all rules (events_in_order step events bound game) game ≡ in_order step bound game
  unfolding in_order
  after_in_order step events each zero game = refl
  after_in_order step events each (suc bound) game = grind (arith, all_after, after_in_order step events each bound game)

  -- the events of one step among those of all
  pub events_split : (step : Game → ℕ → Game) (events : Game → ℕ → List Event) (i bound : ℕ) (game : Game)
      → i < bound → (rest : List Event) × (events_in_order step events bound game
      ≡ events_in_order step events i game ++ (events (in_order step i game) i ++ rest))
  events_split step events i zero game below = absurd (omega arith)
  events_split step events i (suc bound) game below = elim (cases_lt i bound) [
    | inl less ↦
        let before = events_split step events i bound game less in
        let last = events (in_order step bound game) bound in
        let front = events_in_order step events i game in
        let own = events (in_order step i game) i in (
          before.0 ++ last,
          ap (λ (es : List Event). es ++ last) before.1 ∙ append_assoc front (own ++ before.0) last
              ∙ ap (λ (es : List Event). front ++ es) (append_assoc own before.0 last),
        )
    | inr past ↦
        let same : bound ≡ i = omega arith in
        let own = events (in_order step bound game) bound in
        let whole : events_in_order step events (suc bound) game
        ≡ events_in_order step events bound game ++ (own ++ []) =
        ap (λ (es : List Event). events_in_order step events bound game ++ es) (sym (append-nil own)) in (
          [],
          subst (λ (k : ℕ). events_in_order step events (suc bound) game
              ≡ events_in_order step events k game ++ (events (in_order step k game) k ++ [])) same whole,
        )
  ]

  pub after_exchange : (node : ℕ) (game : Game) (to : ℕ)
      → after_all rules (exchange_events node game to) game ≡ exchange rules node game to
  unfolding exchange
  after_exchange node game to = refl

  pub after_turn : (inputs : ℕ → Input) (game : Game) (node : ℕ)
      → after_all rules (turn_events rules inputs game node) game ≡ turn rules inputs game node
  unfolding turn
  after_turn inputs game node = grind (arith, all_after, after_in_order, after_exchange)

  pub after_round : (inputs : ℕ → Input) (game : Game)
      → after_all rules (round_events rules inputs game) game ≡ good_round rules inputs game
  unfolding good_round
  after_round inputs game =
      after_in_order (turn rules inputs) (turn_events rules inputs) (after_turn inputs) rules.players game

  pub after_rounds : (inputs : ℕ → ℕ → Input) (count : ℕ) (game : Game)
      → after_all rules (rounds_events rules inputs count game) game ≡ good_rounds rules inputs count game
  unfolding good_rounds
  after_rounds inputs count game = grind (arith, after_in_order, after_round)

  -- so these are played in good rounds
  pub plays_rounds : (inputs : ℕ → ℕ → Input) (count : ℕ) (game : Game)
      → Plays rules game (rounds_events rules inputs count game)
      (answers_to rules (rounds_events rules inputs count game) game) (good_rounds rules inputs count game)
  plays_rounds inputs count game =
      let events = rounds_events rules inputs count game in
      subst (Plays rules game events (answers_to rules events game)) (after_rounds inputs count game)
      (plays_all events game)

-- A node that neither starts nor runs keeps its world, over whatever events.

-- what follows a list stands behind it
at_back : {X : Type 0} (xs more : List X) (k : ℕ) → slice_get (xs ++ more) (length xs + k) ≡ slice_get more k
at_back [] more k = let e : 0 + k ≡ k = omega arith in ap (slice_get more) e
at_back (x ∷ xs) more k = grind (arith, at_back xs more k)

-- packets that stay, and others behind them
abbrev Follow : List Flight → List Flight → Type 0
Follow old new = (more : List Flight) × (new ≡ old ++ more)

pub flights_same : (flights : List Flight) → Follow flights flights
flights_same flights = ([], sym (append-nil flights))

pub flights_on : (old mid new : List Flight) → Follow old mid → Follow mid new → Follow old new
flights_on old mid new first then = grind (arith, append_assoc)

module _ {W : Type 0} where
  -- events with these answers, and then more
  pub keeps_all : (worlds : List W) (events more : List Event) (answers others : List (Result Done Refusal))
      (mid new : Contents W) → length events ≡ length answers → KeepsGiven worlds events answers mid
      → KeepsFlights mid new → KeepsGiven (worlds_of mid.nodes) more others new
      → KeepsGiven worlds (events ++ more) (answers ++ others) new
  keeps_all worlds events more answers others mid new count before sent then i never =
      then i (λ k e a here answered. never (length events + k) e a (at_back events more k ∙ here)
      (ap (λ (n : ℕ). slice_get (answers ++ others) (n + k)) count ∙ at_back answers others k ∙ answered))
      ∙ before i (λ k e a here answered is. never k e a (at_front events more k e here)
      (at_front answers others k a answered) (rw sent.1 (named_stays mid.flights sent.0 e i is)))

module _ {W S : Type 0} (rules : Rules S) where
  -- events that the machine meets, and then more
  pub idle_more : (first rest : List Event) (m : Game) (old mid new : Contents W)
      → KeepsIdleWorlds rules m first old mid → KeepsFlights mid new
      → KeepsIdleWorlds rules (after_all rules first m) rest mid new
      → KeepsIdleWorlds rules m (first ++ rest) old new
  idle_more first rest m old mid new before sent then =
      let Kept = λ (answers : List (Result Done Refusal)).
      KeepsGiven (worlds_of old.nodes) (first ++ rest) answers new in
      subst Kept (sym (answers_after rules first rest m))
      (keeps_all (worlds_of old.nodes) first rest (answers_to rules first m)
      (answers_to rules rest (after_all rules first m)) mid new (answers_each rules first m) before sent then)

  -- one event
  pub idle_one : (state : W → S) (m : Game) (event : Event) (answer : Result Done Refusal)
      (old new : Contents W) → KeepsRest old new event answer → IsApplied state rules old new m event answer
      → KeepsIdleWorlds rules m (event ∷ []) old new
  idle_one state m event answer old new left (inl done) i never =
      stays_at old new event answer left i (λ is. subst MovesNoWorld (sym done.answered)
      (never 0 event _ refl refl (rw left.more.1 (named_stays old.flights left.more.0 event i is))))
  idle_one state m event answer old new left (inr (free, out)) i never =
      ap (λ (g : Contents W). slice_get (worlds_of g.nodes) i) out.same

-- Room for twice the packets that there are, and one.

-- what has grown for one more is within twice as many as there are, and one
grown_within : (count more room bound : ℕ) → room ≤ bound → 2 * count + more ≤ bound
    → grown count more room ≤ bound
grown_within count more room bound before twice = grind arith

step_within : (count more old new bound : ℕ) → old ≤ bound → 2 * count + more ≤ bound
    → (new ≡ old) ⊎ (new ≡ grown count more old) → new ≤ bound
step_within count more old new bound before twice h = grind (arith, grown_within)

-- packets that were sent, and more after them
pub stays_within : (flights more now : List Flight) (old new : Room) → IsWithinTwice flights old
    → HasGrown flights old new → now ≡ flights ++ more → IsWithinTwice now new
stays_within flights more now old new within grows is = grind (arith, flat_map-append, length-append, step_within)

-- after an event
pub stays : (flights now : List Flight) (old new : Room) → HasGrown flights old new
    → (more : List Flight) × (now ≡ flights ++ more) → IsWithinTwice flights old → IsWithinTwice now new
stays flights now old new grows more within = stays_within flights more.0 now old new within grows more.1

-- a game goes on while nothing happens
pub continues_same : {W : Type 0} (g : GameOf W) → Continues g g
continues_same g = record { whose = refl; grown = λ within. within; more = flights_same (contents g).flights }

-- by an event
pub continues_one : {W : Type 0} (old new : GameOf W) → KeepsWhose (contents old) (contents new)
    → HasGrown (contents old).flights (room_of old) (room_of new) → KeepsFlights (contents old) (contents new)
    → Continues old new
continues_one old new whose grown more =
    record {
      whose = whose;
      grown = stays (contents old).flights (contents new).flights (room_of old) (room_of new) grown more;
      more = more;
    }

-- and then on
pub continues_on : {W : Type 0} (old mid new : GameOf W) → Continues old mid → Continues mid new → Continues old new
continues_on old mid new first then =
    record {
      whose = then.whose ∙ first.whose;
      grown = λ within. then.grown (first.grown within);
      more = flights_on (contents old).flights (contents mid).flights (contents new).flights first.more then.more;
    }

-- before the first packet no memory is taken
pub none_within : (flights : List Flight) (room : Room) → room ≡ record { bytes = 0; records = 0 }
    → IsWithinTwice flights room
none_within flights room none = rw none (record { bytes = omega arith; records = omega arith })
