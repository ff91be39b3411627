-- A game comes to where everybody plays.
use Rattle.std.proofs.{Common.{◌≡◌, ℕ, zero, suc, ◌+◌, ◌*◌, ◌-◌, ◌<◌, ◌≤◌, ◌≢◌, Bool, true, false, List, [], ◌∷◌, ◌++◌, length, refl, sym, ap, subst, ◌∙◌, arith, inl, inr, Some, length-append, append_assoc, ltb-true, ltb-false, slice_get, nat_lt, not, if◌then◌else◌}, lemmas.Bool.cases_Bool}
use Rattle.dn_setup.specs.{Settings.Settings, Gathered.{is_peer, all_noted}}
use Rattle.dn_machine.specs.{declared.answers.Phase.TheVariants.{Gathering, Playing}, declared.answers.Heard.Heard, declared.events.Event.TheVariants.{Send, Deliver}, Limits.Limits, Worlds.Rules}
use Rattle.dn_machine.specs.{Flight.{Flight, is_near}, Node.{Node, put, made}, Sending.on_send, Hearing.{on_packet, on_gathering}, Game.{Game, with_node, fresh, opening_game}, Progress.after, Runs.{Leads, Runs}}
use Rattle.dn_machine.specs.Started.{started_node, heard_by, set_up_of, answer_of, key_node, start_flights, start_events, joining, IsStarted}
use Rattle.dn_machine.proofs.{GoingOn.{accepted, last_get}, Put.{put_at, put_off, same_functions}, EachEvent.leads_more}
use Rattle.dn_machine.proofs.Calls.{each_noted, noted_all}

ap_if : (b : Bool) (one other : Node × Heard) → (if b then one else other).0 ≡ (if b then one.0 else other.0)
ap_if true one other = refl
ap_if false one other = refl

module _ (limits : Limits) (settings : Settings) where
  -- player 0 gives its settings, and they start another
  gives_settings : (node : Node) (j : ℕ) → j ≢ 0 → node.phase ≡ Gathering → node.settings ≡ Some settings
      → on_send limits 0 node j ≡ (node, Some (set_up_of settings j))
  unfolding on_send
  gives_settings node j other gathers known = grind arith

  pub starts : (j : ℕ) → j ≢ 0
      → (on_packet limits j (fresh settings j) (set_up_of settings j)).0 ≡ started_node limits.players settings j
  unfolding on_packet
  starts j other = grind arith

  -- who plays answers
  answers : (j : ℕ) → j ≢ 0
      → on_send limits j (started_node limits.players settings j) 0
      ≡ (started_node limits.players settings j, Some (answer_of j))
  unfolding on_send
  answers j other = grind arith

  -- player 0 once it has heard so many others: it gathers on, or all play
  abbrev key : ℕ → Node
  key others = key_node limits.players settings others

  pub key_gathers : (others : ℕ) → others + 1 < limits.players
      → key others ≡ record (fresh settings 0) { noted = heard_by others }
  key_gathers others more = grind arith

  -- one more is noted
  one_more : (others : ℕ) → put (heard_by others) (others + 1) true ≡ heard_by (others + 1)
  one_more others = same_functions (λ j. grind arith)

  all_are : (others : ℕ) → others + 1 ≡ limits.players → heard_by others ≡ is_peer limits.players
  all_are others last = same_functions (λ j. grind arith)

  is_all : (others : ℕ) → others + 1 < limits.players
      → all_noted limits.players (heard_by (others + 1)) ≡ not (nat_lt (others + 1 + 1) limits.players)
  is_all others more = elim (cases_Bool (nat_lt (others + 1 + 1) limits.players)) [
    | inl below ↦ elim (cases_Bool (all_noted limits.players (heard_by (others + 1)))) [
      | inl all ↦
          let less : others + 1 + 1 < limits.players = ltb-true (others + 1 + 1) limits.players below in
          grind (arith, each_noted limits.players (heard_by (others + 1)) (others + 1 + 1) all (omega arith) less)
      | inr some ↦ some ∙ sym (ap not below)
    ]
    | inr last ↦
        let least : limits.players ≤ others + 1 + 1 = ltb-false (others + 1 + 1) limits.players last in
        noted_all limits.players (heard_by (others + 1)) (λ k a b. grind arith) ∙ sym (ap not last)
  ]

  noted_by : (others : ℕ) → others + 1 < limits.players → (noted : ℕ → Bool) → noted ≡ heard_by (others + 1)
      → (if all_noted limits.players noted
      then record (fresh settings 0) { phase = Playing; played = true; noted = noted }
      else record (fresh settings 0) { noted = noted })
      ≡ key (others + 1)
  noted_by others more noted same = grind (arith, is_all, all_are)

  -- before, it has heard nobody
  pub key_first : 2 ≤ limits.players → fresh settings 0 ≡ key 0
  key_first two = grind (arith, same_functions)

  -- player 0 hears the next
  pub hears_next : (others : ℕ) → others + 1 < limits.players
      → (on_gathering limits (record (fresh settings 0) { noted = heard_by others }) (others + 1)).0 ≡ key (others + 1)
  hears_next others more =
      ap_if (all_noted limits.players (put (heard_by others) (others + 1) true)) _ _
      ∙ noted_by others more (put (heard_by others) (others + 1) true) (one_more others)

  hears : (others : ℕ) → others + 1 < limits.players
      → (on_packet limits 0 (record (fresh settings 0) { noted = heard_by others }) (answer_of (others + 1))).0
      ≡ key (others + 1)
  unfolding on_packet
  hears others more = hears_next others more

module _ {S : Type 0} (rules : Rules S) where
  -- a packet is sent, and one comes
  sent : (game : Game) (i j : ℕ) → i < rules.players → j < rules.players → game.stopped i ≡ false
      → (node : Node) (flight : Flight) → on_send rules.limits i (game.nodes i) j ≡ (node, Some flight)
      → after rules (Send i j) game
      ≡ record { nodes = put game.nodes i node; stopped = game.stopped; flights = game.flights ++ flight ∷ [] }
  sent game i j mine its going node flight gives = grind (arith, accepted)

  comes : (game : Game) (which : ℕ) (flight : Flight) → slice_get game.flights which ≡ Some flight
      → is_near (made flight.to (game.nodes flight.to)) flight ≡ true → game.stopped flight.to ≡ false
      → after rules (Deliver which) game
      ≡ with_node game flight.to (on_packet rules.limits flight.to (game.nodes flight.to) flight).0
  comes game which flight there near going = grind (arith, accepted)

  module _ (settings : Settings) where
    -- so many play, and the rest are as they were made
    record IsJoined (others : ℕ) (game : Game) : Type 0 where
      zero_is : game.nodes 0 ≡ key_node rules.players settings others
      in_it : (p : ℕ) → 0 < p → p ≤ others → game.nodes p ≡ started_node rules.players settings p
      not_yet : (p : ℕ) → others < p → game.nodes p ≡ fresh settings p
      flights : game.flights ≡ start_flights settings others
      going : (p : ℕ) → game.stopped p ≡ false

    opens : 2 ≤ rules.players → IsJoined 0 (opening_game settings)
    unfolding opening_game start_flights
    opens two = record {
      zero_is = key_first rules.limits settings two;
      in_it = λ p above below. absurd (omega arith);
      not_yet = λ p above. refl;
      flights = refl;
      going = λ p. refl;
    }

    start_length : (others : ℕ) → length (start_flights settings others) ≡ 2 * others
    unfolding start_flights
    start_length zero = refl
    start_length (suc others) = grind (arith, start_length others, length-append)

    last_at : (flights : List Flight) (flight : Flight) (which : ℕ) → length flights ≡ which
        → slice_get (flights ++ flight ∷ []) which ≡ Some flight
    last_at flights flight which long =
        subst (λ (n : ℕ). slice_get (flights ++ flight ∷ []) n ≡ Some flight) long (last_get flights flight)

    -- the next player is given the settings, and answers
    module _ (others : ℕ) (more : others + 1 < rules.players) (game : Game) (joined : IsJoined others game) where
      abbrev next : ℕ
      next = others + 1

      abbrev set_up : Flight
      set_up = set_up_of settings next

      abbrev answer : Flight
      answer = answer_of next

      apart : next ≢ 0
      apart e = absurd (omega arith)

      -- the games between
      abbrev told : Game
      told = record game { flights = game.flights ++ set_up ∷ [] }

      abbrev playing : Game
      playing = with_node told next (started_node rules.players settings next)

      abbrev answered : Game
      answered = record playing { flights = playing.flights ++ answer ∷ [] }

      abbrev heard : Game
      heard = with_node answered 0 (key_node rules.players settings next)

      same_put : (g : Game) (i : ℕ) → put g.nodes i (g.nodes i) ≡ g.nodes
      same_put g i = same_functions (λ j. grind arith)

      put_back : (g : Game) (i : ℕ) (node : Node) (flight : Flight) → g.nodes i ≡ node
          → ◌≡◌ {A = Game}
          (record { nodes = put g.nodes i node; stopped = g.stopped; flights = g.flights ++ flight ∷ [] })
          (record g { flights = g.flights ++ flight ∷ [] })
      put_back g i node flight same = grind (arith, same_put)

      given : after rules (Send 0 next) game ≡ told
      given = sent game 0 next (omega arith) more (joined.going 0) (game.nodes 0) set_up
          (gives_settings rules.limits settings (game.nodes 0) next apart (grind (arith, joined, key_gathers))
          (grind (arith, joined, key_gathers))) ∙ put_back game 0 (game.nodes 0) set_up refl

      set_up_at : slice_get told.flights (2 * others) ≡ Some set_up
      set_up_at = last_at game.flights set_up (2 * others) (ap length joined.flights ∙ start_length others)

      begun : after rules (Deliver (2 * others)) told ≡ playing
      begun = comes told (2 * others) set_up set_up_at refl (joined.going next)
          ∙ ap (with_node told next) (ap (λ (m : Node). (on_packet rules.limits next m set_up).0)
          (joined.not_yet next (omega arith)) ∙ starts rules.limits settings next apart)

      replied : after rules (Send next 0) playing ≡ answered
      replied = sent playing next 0 more (omega arith) (joined.going next) (started_node rules.players settings next)
          answer (ap (λ (m : Node). on_send rules.limits next m 0)
          (put_at game.nodes next next (started_node rules.players settings next) refl) ∙ answers rules.limits settings next apart)
          ∙ put_back playing next (started_node rules.players settings next) answer
          (put_at game.nodes next next (started_node rules.players settings next) refl)

      answer_at : slice_get answered.flights (2 * others + 1) ≡ Some answer
      answer_at = last_at told.flights answer (2 * others + 1)
          (length-append game.flights (set_up ∷ []) ∙ ap (λ (n : ℕ). n + 1) (ap length joined.flights ∙ start_length others))

      zero_before : answered.nodes 0 ≡ record (fresh settings 0) { noted = heard_by others }
      zero_before = put_off game.nodes next 0 (started_node rules.players settings next) (λ e. apart (sym e))
          ∙ joined.zero_is ∙ key_gathers rules.limits settings others more

      all_in : after rules (Deliver (2 * others + 1)) answered ≡ heard
      all_in = comes answered (2 * others + 1) answer answer_at
          (ap (λ (m : Node). is_near (made 0 m) answer) zero_before) (joined.going 0)
          ∙ ap (with_node answered 0) (ap (λ (m : Node). (on_packet rules.limits 0 m answer).0) zero_before
          ∙ hears rules.limits settings others more)

      joined_next : IsJoined next heard
      unfolding start_flights
      joined_next = record {
        zero_is = put_at answered.nodes 0 0 (key_node rules.players settings next) refl;
        in_it = λ p above below. grind (arith, joined, put_at, put_off);
        not_yet = λ p above. grind (arith, joined, put_at, put_off);
        flights = grind (arith, joined, append_assoc);
        going = joined.going;
      }

      leads_next : Leads rules game (joining others) heard
      leads_next = (
        told,
        inl (sym given),
        (
          playing,
          inl (sym begun),
          (answered, inl (sym replied), (heard, inl (sym all_in), refl)),
        ),
      )

    module _ (two : 2 ≤ rules.players) where
      leads : (others : ℕ) → others + 1 ≤ rules.players
          → (game : Game) × Runs rules settings (start_events others) game × IsJoined others game
      unfolding start_events
      leads zero one = (opening_game settings, refl, opens two)
      leads (suc others) more =
          let before = leads others (omega arith) in
          let last : Game = heard others (omega arith) before.0 before.2 in (
            last,
            leads_more rules (start_events others) (joining others) (opening_game settings) before.0 last before.1
                (leads_next others (omega arith) before.0 before.2),
            subst (λ (n : ℕ). IsJoined n last) (omega arith) (joined_next others (omega arith) before.0 before.2),
          )

      pub comes_there : (last : Game) × Runs rules settings (start_events (rules.players - 1)) last
          × IsStarted rules.players settings last
      comes_there =
          let there = leads (rules.players - 1) (omega arith) in
          let joined = there.2 in (
            there.0,
            there.1,
            record {
              nodes = λ p below. grind (arith, joined);
              others = λ p above. joined.not_yet p (omega arith);
              flights = joined.flights;
              going = joined.going;
            },
          )
