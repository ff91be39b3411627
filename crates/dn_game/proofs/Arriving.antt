-- A packet that is delivered as soon as it is sent, and a round of such packets.
use Rattle.std.proofs.Common.{◌≡◌, ◌≢◌, ℕ, zero, suc, List, [], ◌∷◌, map, ◌<◌, ◌+◌, append_assoc, true, false, true≢false, ◌∙◌, ◌++◌, ◌^◌, length, Result, Ok, Err, refl, ap, sym, subst, inl, inr, arith, OnErr}
use Rattle.dn_tic.specs.{declared.input.Input.Input, declared.input.Input.TheVariants.{Pressed, Given}, Inputs.input_of}
use Rattle.dn_machine.specs.{declared.events.Done.Done, declared.events.Event.Event, declared.events.Event.TheVariants.{Send, Deliver, Run}, declared.events.Refusal.Refusal, Game.Game, Runs.is_send, Progress.{after, build_of, in_order, exchange, turn}}
use Rattle.dn_machine.specs.{Worlds.Rules}
use Rattle.dn_game.specs.{declared.rounds.RoundFault.RoundFault, Applied.IsApplied, Contents.{Contents, Represents}, Frame.{KeepsFlights, KeepsRest}, Rounds.{pressed_by, IsUnsent, IsCutShort, IsCarriedOut, KeepsIdleWorlds, events_in_order, exchange_events, turn_events, after_all}}
use Rattle.dn_game.proofs.Rounding.{idle_more, idle_one, all_after, after_exchange, after_in_order, events_split}

-- one step more
step_more : (step : Game → ℕ → Game) (count : ℕ) (game : Game)
    → in_order step (count + 1) game ≡ step (in_order step count game) count
unfolding in_order
step_more step count game = let more : count + 1 ≡ suc count = omega arith in
    ap (λ (k : ℕ). in_order step k game) more

-- keys are the inputs that press them
pub keys_as_inputs : (keys : List ℕ) (inputs : List Input) → inputs ≡ map Pressed keys
    → input_of inputs ≡ pressed_by keys
keys_as_inputs keys inputs are = ap input_of are ∙ (λ i node. each keys node i)
  where
    each : (states : List ℕ) (node : ℕ) → input_of (map Pressed states) node ≡ pressed_by states node
    each [] node = refl
    each (first ∷ rest) zero = refl
    each (first ∷ rest) (suc node) = each rest node

module _ {W S : Type 0} (state : W → S) (rules : Rules S) where
  -- an event that is not left out is applied
  after_applied : (old new : Contents W) (m : Game) (event : Event) (answer : Result Done Refusal)
      → (is_send event ≡ true → answer ≢ Err Refusal.Memory) → IsApplied state rules old new m event answer
      → Represents state rules new (after rules event m)
  after_applied old new m event answer sent (inl done) = done.game
  after_applied old new m event answer sent (inr (free, left)) = absurd (sent left.asks left.answered)

  -- as is every event but a send
  pub after_other : (old new : Contents W) (m : Game) (event : Event) (answer : Result Done Refusal)
      → is_send event ≡ false → IsApplied state rules old new m event answer
      → Represents state rules new (after rules event m)
  after_other old new m event answer other =
      after_applied old new m event answer (λ send. absurd (true≢false (sym send ∙ other)))

  -- as is a build, of whatever input
  pub built : (old new : Contents W) (m : Game) (node : ℕ) (input : Input) (event : Event)
      (answer : Result Done Refusal) → event ≡ build_of node input → IsApplied state rules old new m event answer
      → Represents state rules new (after rules (build_of node input) m)
  built old new m node input event answer is applied =
      after_other old new m (build_of node input) answer (no_send input)
      (subst (λ (e : Event). IsApplied state rules old new m e answer) is applied)
    where
      no_send : (i : Input) → is_send (build_of node i) ≡ false
      no_send (Pressed keys) = refl
      no_send (Given command) = refl

  -- and the world of a node that a build does not move
  pub build_idle : (old new : Contents W) (m : Game) (node : ℕ) (input : Input) (event : Event)
      (answer : Result Done Refusal) → event ≡ build_of node input → KeepsRest old new event answer
      → IsApplied state rules old new m event answer
      → KeepsIdleWorlds rules m (build_of node input ∷ []) old new
  build_idle old new m node input event answer is left applied =
      subst (λ (e : Event). KeepsIdleWorlds rules m (e ∷ []) old new) is
      (idle_one rules state m event answer old new left applied)

  pub exchanges : (old mid new : Contents W) (m : Game) (node to which : ℕ) (sent heard : Result Done Refusal)
      → which ≡ length m.flights → sent ≢ Err Refusal.Memory
      → KeepsRest old mid (Send node to) sent → KeepsRest mid new (Deliver which) heard
      → IsApplied state rules old mid m (Send node to) sent
      → (Represents state rules mid (after rules (Send node to) m)
      → IsApplied state rules mid new (after rules (Send node to) m) (Deliver which) heard)
      → Represents state rules new (exchange rules node m to)
      × KeepsIdleWorlds rules m (exchange_events node m to) old new
  unfolding exchange
  exchanges old mid new m node to which sent heard counted some front rear first then =
      let between = after rules (Send node to) m in
      let last = then (after_applied old mid m (Send node to) sent (λ e. some) first) in
      let whole = after_other mid new between (Deliver which) heard refl last in (
        rw counted at whole,
        subst (λ (k : ℕ). KeepsIdleWorlds rules m (Send node to ∷ Deliver k ∷ []) old new) counted
            (idle_more rules (Send node to ∷ []) (Deliver which ∷ []) m old mid new
            (idle_one rules state m (Send node to) sent old mid front first) rear.more
            (idle_one rules state between (Deliver which) heard mid new rear last)),
      )

  -- before a send, nothing of an exchange was applied
  pub not_begun : (node to : ℕ) (m : Game) (g : Contents W) → Represents state rules g m
      → IsCutShort state rules (exchange_events node m to) m g g
  not_begun node to m g r =
      record {
        done = [];
        node = node;
        to = to;
        rest = Deliver (length m.flights) ∷ [];
        whole = refl;
        game = r;
        worlds = λ i never. refl;
      }

  -- nor was it where the send is left out
  pub left_out : {A : Type 0} (node to : ℕ) (m : Game) (old new : Contents W) (answer : Result A Refusal)
      → length old.flights < 2 ^ 32 → Represents state rules old m → answer ≡ Err Refusal.Memory
      → OnErr answer (new ≡ old)
      → IsUnsent new RoundFault.Memory × IsCutShort state rules (exchange_events node m to) m old new
  left_out node to m old new answer few r is kept = let same : new ≡ old = rw is at kept in
      (rw same few, rw same (not_begun node to m old r))

  -- a part that was cut short cuts the whole short
  pub within : (front part rest : List Event) (m mid : Game) (old between g : Contents W)
      → mid ≡ after_all rules front m → KeepsIdleWorlds rules m front old between → KeepsFlights between g
      → IsCutShort state rules part mid between g → IsCutShort state rules (front ++ (part ++ rest)) m old g
  within front part rest m mid old between g at before sent cut =
      let left = Send cut.node cut.to ∷ cut.rest in
      record {
        done = front ++ cut.done;
        node = cut.node;
        to = cut.to;
        rest = cut.rest ++ rest;
        whole = ap (λ (es : List Event). front ++ (es ++ rest)) cut.whole
            ∙ ap (λ (es : List Event). front ++ es) (append_assoc cut.done left rest)
            ∙ sym (append_assoc front cut.done (left ++ rest));
        game = subst (Represents state rules g)
            (ap (after_all rules cut.done) at ∙ sym (all_after rules front cut.done m)) cut.game;
        worlds = idle_more rules front cut.done m old between g before sent
            (subst (λ (game : Game). KeepsIdleWorlds rules game cut.done between g) at cut.worlds);
      }

  -- how it ends, by its answer
  pub ended : {B : Type 0} (events : List Event) (m good : Game) (old g : Contents W)
      (answer : Result B RoundFault) (fault : RoundFault) → answer ≡ Err fault
      → IsUnsent g fault × IsCutShort state rules events m old g
      → IsCarriedOut state rules m events good old g answer
  ended events m good old g answer fault is at = rw is at

  -- a turn, whatever inputs the others have
  pub by_own_input : {A : Type 0} (inputs all : ℕ → Input) (m : Game) (node : ℕ) (old g : Contents W)
      (answer : Result A RoundFault) → inputs node ≡ all node
      → IsCarriedOut state rules m (turn_events rules inputs m node) (turn rules inputs m node) old g answer
      → IsCarriedOut state rules m (turn_events rules all m node) (turn rules all m node) old g answer
  unfolding turn
  by_own_input inputs all m node old g answer same is = rw same at is

  -- so many steps were taken in order
  abbrev pub HasTaken : (Game → ℕ → Game) → (Game → ℕ → List Event) → Game → ℕ → (old g : Contents W) → Type 0
  HasTaken step events game count old g =
      Represents state rules g (in_order step count game)
      × KeepsIdleWorlds rules game (events_in_order step events count game) old g

  -- the worlds after a turn, from those after its parts
  pub turn_idle : (node : ℕ) (input : Input) (m : Game) (old begun asked new : Contents W)
      → KeepsIdleWorlds rules m (build_of node input ∷ []) old begun → KeepsFlights begun new
      → HasTaken (exchange rules node) (exchange_events node) (after rules (build_of node input) m)
      rules.players begun asked → KeepsFlights asked new → KeepsIdleWorlds rules
      (in_order (exchange rules node) rules.players (after rules (build_of node input) m)) (Run node ∷ [])
      asked new → KeepsIdleWorlds rules m (turn_events rules (λ me. input) m node) old new
  turn_idle node input m old begun asked new first all taken some last =
      let mid = after rules (build_of node input) m in
      let sends = events_in_order (exchange rules node) (exchange_events node) rules.players mid in
      let whole = after_in_order rules (exchange rules node) (exchange_events node) (after_exchange rules node)
      rules.players mid in
      idle_more rules (build_of node input ∷ []) (sends ++ Run node ∷ []) m old begun new first all
      (idle_more rules sends (Run node ∷ []) mid begun asked new taken.1 some
      (subst (λ (game : Game). KeepsIdleWorlds rules game (Run node ∷ []) asked new) (sym whole) last))

  -- steps in order that each may cut the whole short
  module _ (step : Game → ℕ → Game) (events : Game → ℕ → List Event)
      (each : (game : Game) (i : ℕ) → after_all rules (events game i) game ≡ step game i)
      (game : Game) (old mid g : Contents W) {A : Type 0} (count : ℕ) (answer : Result A RoundFault)
      (taken : HasTaken step events game count old mid) (sent : KeepsFlights mid g)
      (one : IsCarriedOut state rules (in_order step count game) (events (in_order step count game) count)
      (step (in_order step count game) count) mid g answer) where
    pub goes_on : (done : A) → answer ≡ Ok done → HasTaken step events game (count + 1) old g
    goes_on done is =
        let last = in_order step count game in
        let here : Represents state rules g (step last count)
        × KeepsIdleWorlds rules last (events last count) mid g = rw is at one in
        let more : suc count ≡ count + 1 = omega arith in (
          rw (step_more step count game) here.0,
          subst (λ (k : ℕ). KeepsIdleWorlds rules game (events_in_order step events k game) old g) more
              (idle_more rules (events_in_order step events count game) (events last count) game old mid g
              taken.1 sent (subst (λ (m : Game). KeepsIdleWorlds rules m (events last count) mid g)
              (sym (after_in_order rules step events each count game)) here.1)),
        )

    pub ends : (bound : ℕ) → count < bound → (fault : RoundFault) → answer ≡ Err fault
        → IsUnsent g fault × IsCutShort state rules (events_in_order step events bound game) game old g
    ends bound below fault is =
        let last = in_order step count game in
        let at : IsUnsent g fault × IsCutShort state rules (events last count) last mid g = rw is at one in
        let split = events_split rules step events count bound game below in (
          at.0,
          rw split.1 (within (events_in_order step events count game) (events last count) split.0
              game last old mid g (sym (after_in_order rules step events each count game)) taken.1 sent at.1),
        )
