-- A relation between a node before and after that each call on a node keeps to: at every node each event
-- does. What each event keeps, every list of events keeps. And steps in rising order.
use Rattle.std.specs.List.{list_all}
use Rattle.std.proofs.Common.{ℤ, ℕ, List, [], ◌∷◌, sym, subst, ◌≡◌, Bool, true, false, arith, zero, suc, ◌<◌, ◌≤◌, ◌≢◌, inl, inr, ◌++◌, length, refl, ◌∙◌}
use Rattle.std.proofs.lemmas.{Bool.{cases_eq, and_from}, List.Folds.list_all-append}
use Rattle.dn_machine.specs.Making.{Making}
use Rattle.dn_machine.specs.{declared.events.Event.Event, declared.events.Event.TheVariants.{Build, Give, Send, Deliver, Run, Quit, Stop}, Worlds.{Rules, RulesBy}, Flight.Flight, Node.{Node, put}, Sending.{on_build_by, on_send}, Hearing.on_packet}
use Rattle.dn_machine.specs.{Running.{on_run, on_quit}, Game.{Game, on_event, applied}, Runs.{Next, Leads}, Progress.{build_of, in_order, after, exchange, turn, good_round, good_rounds}}
use Rattle.dn_tic.specs.declared.input.Input.{Input}

-- an event that rounds are made of: a build, a send, a delivery or a run
abbrev pub is_of_round : Event → Bool
is_of_round (Build node keys) = true
is_of_round (Give node command) = true
is_of_round (Send node to) = true
is_of_round (Deliver which) = true
is_of_round (Run node) = true
is_of_round (Quit node) = false
is_of_round (Stop node) = false

-- a build is an event of a round
pub build_round : (i : ℕ) (input : Input) → is_of_round (build_of i input) ≡ true
build_round i input = grind arith

module _ {making : Making} {S : Type 0} (rules : RulesBy making S) (R : Node → Node → Type 0) (same : (node : Node) → R node node)
    (game : Game) (q : ℕ) where
  abbrev After : Event → Type 0
  After event = R (game.nodes q) ((applied rules game event).0.nodes q)

  pub placed : (i : ℕ) (new : Node) → R (game.nodes i) new → R (game.nodes q) (put game.nodes i new q)
  placed i new related = grind arith

  -- a refused event changes nothing
  pub by_refusal : (event : Event) → R (game.nodes q) ((on_event rules game event).0.nodes q) → After event
  unfolding applied
  by_refusal event related = grind arith

  pub after_build : (i : ℕ) (input : Input) → R (game.nodes i) (on_build_by making rules.limits i (game.nodes i) input).0
      → After (build_of i input)
  after_build i input related = grind (arith, by_refusal)

  pub after_send : (i to : ℕ) → R (game.nodes i) (on_send rules.limits i (game.nodes i) to).0 → After (Send i to)
  after_send i to related = grind (arith, by_refusal)

  pub after_deliver : (which : ℕ)
      → ((flight : Flight)
      → R (game.nodes flight.to) (on_packet rules.limits flight.to (game.nodes flight.to) flight).0)
      → After (Deliver which)
  after_deliver which related = grind (arith, by_refusal)

  module _ (builds : (i : ℕ) (input : Input) (node : Node) → R node (on_build_by making rules.limits i node input).0)
      (sends : (i to : ℕ) (node : Node) → R node (on_send rules.limits i node to).0)
      (hears : (i : ℕ) (flight : Flight) (node : Node) → R node (on_packet rules.limits i node flight).0)
      (runs : (node : Node) (marks : ℕ → ℤ) → R node (on_run rules.limits node marks).0)
      (quits : (node : Node) → R node (on_quit node).0) where
    pub after_event : (event : Event) → After event
    after_event event = grind (arith, by_refusal)

-- lists of events
module _ {making : Making} {S : Type 0} (rules : RulesBy making S) (P : Game → Type 0)
    (keeps : (game : Game) (event : Event) → P game → P (applied rules game event).0) where
  pub next_keeps : (game next : Game) (event : Event) → P game → Next rules game event next → P next
  next_keeps game next event p x = grind arith

  pub leads_keep : (events : List Event) (game last : Game) → P game → Leads rules game events last → P last
  leads_keep [] game last p same = subst P (sym same) p
  leads_keep (event ∷ events) game last p way =
      leads_keep events way.0 last (next_keeps game way.0 event p way.1) way.2

-- Steps in rising order: what each keeps, and where one or two of them lead on.

-- Steps in rising order, from one number up to another, of which each keeps this.
kept_from : (P : Game → Type 0) (step : Game → ℕ → Game) (game : Game) (low high : ℕ) → low ≤ high
    → ((i : ℕ) (g : Game) → low ≤ i → i < high → P g → P (step g i)) → P (in_order step low game)
    → P (in_order step high game)
unfolding in_order
kept_from P step game low zero l keeps p = grind arith
kept_from P step game low (suc high) l keeps p = elim (cases_eq low (suc high)) [
  | inl e ↦ subst (λ (n : ℕ). P (in_order step n game)) e p
  | inr n ↦ keeps high (in_order step high game) (omega arith) (omega arith)
      (kept_from P step game low high (omega arith) (λ i g a b h. keeps i g a (omega arith) h) p)
]

pub each_of : (P : Game → Type 0) (step : Game → ℕ → Game) (bound : ℕ) (game : Game)
    → ((i : ℕ) (g : Game) → i < bound → P g → P (step g i)) → P game → P (in_order step bound game)
unfolding in_order
each_of P step bound game keeps p = kept_from P step game 0 bound (omega arith) (λ i g a b h. keeps i g b h) p

-- Steps in rising order, of which one leads on.
pub one_of : (P Q : Game → Type 0) (step : Game → ℕ → Game) (n j : ℕ)
    → ((i : ℕ) (g : Game) → i < n → i ≢ j → P g → P (step g i))
    → ((i : ℕ) (g : Game) → i < n → i ≢ j → Q g → Q (step g i))
    → ((g : Game) → P g → Q (step g j)) → (game : Game) → j < n → P game → Q (in_order step n game)
unfolding in_order
one_of P Q step n j keeps_first keeps_last leads game l p =
    kept_from Q step game (suc j) n l (λ i g a b h. keeps_last i g b (λ e. omega arith) h)
    (leads (in_order step j game) (kept_from P step game 0 j (omega arith)
    (λ i g a b h. keeps_first i g (omega arith) (λ e. omega arith) h) p))

-- Steps in rising order, of which two lead on, and the others keep each of three things.
pub two_of : (P M Q : Game → Type 0) (step : Game → ℕ → Game) (n j k : ℕ) → j < k
    → ((i : ℕ) (g : Game) → i < n → i < j → P g → P (step g i))
    → ((i : ℕ) (g : Game) → i < n → i ≢ j → i ≢ k → M g → M (step g i))
    → ((i : ℕ) (g : Game) → i < n → i ≢ j → i ≢ k → Q g → Q (step g i))
    → ((g : Game) → P g → M (step g j)) → ((g : Game) → M g → Q (step g k)) → (game : Game) → k < n → P game
    → Q (in_order step n game)
unfolding in_order
two_of P M Q step n j k before keeps_first keeps_mid keeps_last leads leads_on game l p =
    kept_from Q step game (suc k) n l
    (λ i g a b h. keeps_last i g b (λ e. omega arith) (λ e. omega arith) h)
    (leads_on (in_order step k game) (kept_from M step game (suc j) k before
    (λ i g a b h. keeps_mid i g (omega arith) (λ e. omega arith) (λ e. omega arith) h)
    (leads (in_order step j game) (kept_from P step game 0 j (omega arith)
    (λ i g a b h. keeps_first i g (omega arith) b h) p))))

-- Good rounds are lists of events.

-- what holds of each of two lists holds of each of both
pub all_more : {A : Type 0} (test : A → Bool) (xs ys : List A) → list_all test xs ≡ true
    → list_all test ys ≡ true → list_all test (xs ++ ys) ≡ true
all_more test xs ys one other = list_all-append test xs ys ∙ and_from _ _ one other

module _ {S : Type 0} (rules : Rules S) where
  -- some events that rounds are made of lead from a game to another
  abbrev pub IsLed : Game → Game → Type 0
  IsLed game last = (events : List Event) × Leads rules game events last
      × (list_all is_of_round events ≡ true)

  pub leads_more : (events more : List Event) (game mid last : Game) → Leads rules game events mid
      → Leads rules mid more last → Leads rules game (events ++ more) last
  leads_more [] more game mid last same next = subst (λ (g : Game). Leads rules g more last) same next
  leads_more (event ∷ events) more game mid last way next =
      (way.0, way.1, leads_more events more way.0 mid last way.2 next)

  pub led_on : (game mid last : Game) → IsLed game mid → IsLed mid last → IsLed game last
  led_on game mid last way next = grind (arith, leads_more, all_more)

  pub led_none : (game : Game) → IsLed game game
  led_none game = ([], refl, refl)

  pub led_event : (event : Event) (game : Game) → is_of_round event ≡ true → IsLed game (after rules event game)
  led_event event game is = (
    event ∷ [],
    (after rules event game, inl refl, refl),
    and_from (is_of_round event) true is refl,
  )

  pub led_in_order : (step : Game → ℕ → Game) → ((game : Game) (i : ℕ) → IsLed game (step game i))
      → (bound : ℕ) (game : Game) → IsLed game (in_order step bound game)
  unfolding in_order
  led_in_order step each zero game = led_none game
  led_in_order step each (suc bound) game =
      led_on game (in_order step bound game) (step (in_order step bound game) bound)
      (led_in_order step each bound game) (each (in_order step bound game) bound)

  pub led_exchange : (i : ℕ) (game : Game) (j : ℕ) → IsLed game (exchange rules i game j)
  unfolding exchange
  led_exchange i game j =
      led_on game (after rules (Send i j) game) _ (led_event (Send i j) game refl)
      (led_event (Deliver (length game.flights)) (after rules (Send i j) game) refl)

  pub led_turn : (inputs : ℕ → Input) (game : Game) (i : ℕ) → IsLed game (turn rules inputs game i)
  unfolding turn
  led_turn inputs game i =
      let built : Game = after rules (build_of i (inputs i)) game in
      let sent : Game = in_order (exchange rules i) rules.players built in
      led_on game built _ (led_event (build_of i (inputs i)) game (build_round i (inputs i))) (
      led_on built sent _ (led_in_order (exchange rules i) (led_exchange i) rules.players built)
      (led_event (Run i) sent refl))

  pub led_round : (inputs : ℕ → Input) (game : Game) → IsLed game (good_round rules inputs game)
  unfolding good_round
  led_round inputs game = led_in_order (turn rules inputs) (led_turn inputs) rules.players game

  pub led_rounds : (inputs : ℕ → ℕ → Input) (count : ℕ) (game : Game)
      → IsLed game (good_rounds rules inputs count game)
  unfolding good_rounds
  led_rounds inputs count game = grind (arith, led_in_order, led_round)
