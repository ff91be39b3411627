-- The rows and the worlds come from the inputs alone, since no move has a mark; and so from key states,
-- where no command is given.
use Rattle.std.proofs.Common.{◌≡◌, ℕ, ◌+◌, Bool, cond, List, length, take, refl, Option, Some, None, ltb, ℤ, pos, arith, ap, get_or, false, [], ◌∷◌, ◌++◌, map, sym, subst, option_map}
use Rattle.std.proofs.{lemmas.List.{map-append, take-map, length-map}, lemmas.List.Elements.{All-head, All-tail}}
use Rattle.dn_tic.specs.{Pressed.pressed, Inputs.{last_input, made_of, made_by, states_of}, Command.used, declared.command.TicCmd.TicCmd, declared.input.Input.Input, declared.input.Input.TheVariants.{Pressed, Given}}
use Rattle.dn_tic.proofs.Making.{made_by-pressed_alone}
use Rattle.dn_setup.specs.Settings.{Settings}
use Rattle.dn_machine.specs.{Limits.{row_of, Limits}, Worlds.{Inputs, Rules, row, row_by_inputs, command, rules_of, rules_within, opening, worlds_to, world, if_made}}
use Rattle.dn_machine.specs.{declared.events.Event.Event, declared.events.Event.TheVariants.{Build, Send, Deliver, Run, Quit, Stop, Give}, Node.Node, Sending.{on_build_by, on_send}, Hearing.on_packet}
use Rattle.dn_machine.specs.{Running.{on_run, on_quit}, Game.{Game, applied, opening_game}, Runs.{Next, Leads, Runs}, Promise.inputs_of, Pressing.{is_give, NoneGiven, presses, key_states, row_by_keys}}
use Rattle.dn_world.specs.Physics.{Physics}
use Rattle.dn_machine.proofs.EachEvent.{placed, by_refusal, after_build, after_send, after_deliver}

used_of : (input : Input) (inputs : List Input) (a b : ℤ) → used (made_of input inputs a) ≡ used (made_of input inputs b)
unfolding pressed used
used_of (Pressed keys) inputs a b = refl
used_of (Given command) inputs a b = refl

used_same : (inputs : List Input) (a b : ℤ) → used (made_by inputs a) ≡ used (made_by inputs b)
unfolding made_by
used_same inputs a b = used_of (last_input inputs) inputs a b

moved_same : (b : Bool) (x y : TicCmd) → used x ≡ used y
    → option_map used (cond b (Some x) None) ≡ option_map used (cond b (Some y) None)
moved_same b x y e = grind arith

seat_by : (b : Bool) (one other : Option TicCmd) → option_map used one ≡ option_map used other
    → cond b (option_map used one) None ≡ cond b (option_map used other) None
seat_by b one other e = grind arith

pub row_is : {S : Type 0} (rules : Rules S) (settings : Settings) (inputs : Inputs) (tic : ℕ)
    → row rules settings inputs tic ≡ row_by_inputs rules.players inputs tic
unfolding row row_of command
row_is rules settings inputs tic =
    let seat = λ (p : ℕ). seat_by (ltb p rules.players) _ _ (moved_same (ltb tic (length (inputs p)))
    (command rules settings inputs p tic) (made_by (take (tic + 1) (inputs p)) (pos 0))
    (used_same (take (tic + 1) (inputs p)) _ _)) in grind arith

-- No world, command or row knows the window.
module _ {S : Type 0} (physics : Physics S) (limits : Limits) (settings : Settings) (inputs : Inputs) where
  abbrev pub within : Rules S
  within = rules_within physics limits

  abbrev pub vanilla : Rules S
  vanilla = rules_of physics limits.players limits.extra limits.capacity

  same_worlds : (tic : ℕ) → worlds_to within settings inputs tic ≡ worlds_to vanilla settings inputs tic
  unfolding worlds_to
  same_worlds tic = grind arith

  pub same_world : (tic : ℕ) → world within settings inputs tic ≡ world vanilla settings inputs tic
  unfolding world
  same_world tic = ap (λ (worlds : List S). get_or worlds 0 (opening within settings)) (same_worlds tic)

  pub same_command : (player tic : ℕ)
      → command within settings inputs player tic ≡ command vanilla settings inputs player tic
  unfolding command
  same_command player tic = grind (arith, same_worlds)

  pub same_row : (tic : ℕ) → row within settings inputs tic ≡ row vanilla settings inputs tic
  unfolding row
  same_row tic = grind (arith, same_command)

-- Where no command is given, each player's inputs press key states, and no more is made than these press.

-- a node that was given no command
abbrev pub ArePressed : Node → Type 0
ArePressed node = node.inputs ≡ map Pressed (states_of node.inputs)

abbrev Stays : Node → Node → Type 0
Stays old new = ArePressed old → ArePressed new

one_more : (inputs : List Input) (keys : ℕ) → inputs ≡ map Pressed (states_of inputs)
    → inputs ++ Pressed keys ∷ [] ≡ map Pressed (states_of (inputs ++ Pressed keys ∷ []))
one_more inputs keys so_far = grind (arith, map-append)

module _ {S : Type 0} (rules : Rules S) where
  -- an event that gives no command
  applied_stays : (game : Game) (q : ℕ) (event : Event) → is_give event ≡ false
      → Stays (game.nodes q) ((applied rules game event).0.nodes q)
  unfolding on_build_by on_send on_packet on_run on_quit
  applied_stays game q (Build i keys) none =
      after_build rules Stays (λ node h. h) game q i (Pressed keys) (grind (arith, one_more))
  applied_stays game q (Give i command) none = absurd (cc)
  applied_stays game q (Send i to) none = after_send rules Stays (λ node h. h) game q i to (grind arith)
  applied_stays game q (Deliver which) none =
      after_deliver rules Stays (λ node h. h) game q which (λ flight. grind arith)
  applied_stays game q (Run i) none = by_refusal rules Stays (λ node h. h) game q (Run i)
      (placed rules Stays (λ node h. h) game q i _ (grind arith))
  applied_stays game q (Quit i) none = by_refusal rules Stays (λ node h. h) game q (Quit i)
      (placed rules Stays (λ node h. h) game q i _ (grind arith))
  applied_stays game q (Stop i) none = by_refusal rules Stays (λ node h. h) game q (Stop i) (λ h. h)

  next_stays : (game next : Game) (event : Event) (q : ℕ) → is_give event ≡ false → Next rules game event next
      → ArePressed (game.nodes q) → ArePressed (next.nodes q)
  next_stays game next event q none x h = grind (arith, applied_stays)

  leads_stay : (events : List Event) (game last : Game) (q : ℕ) → NoneGiven events
      → Leads rules game events last → ArePressed (game.nodes q) → ArePressed (last.nodes q)
  leads_stay [] game last q none same h = subst (λ (g : Game). ArePressed (g.nodes q)) (sym same) h
  leads_stay (event ∷ events) game last q none way h =
      leads_stay events way.0 last q (All-tail (λ (e : Event). is_give e ≡ false) event events none) way.2
      (next_stays game way.0 event q (All-head (λ (e : Event). is_give e ≡ false) event events none) way.1 h)

  pub inputs_pressed : (settings : Settings) (events : List Event) (game : Game)
      → Runs rules settings events game → NoneGiven events → inputs_of game ≡ presses (key_states game)
  unfolding opening_game
  inputs_pressed settings events game run none = grind (arith, leads_stay)

-- the command that the first of some key states make
pub made_by_keys : (keys : List ℕ) (tic : ℕ) (mark : ℤ)
    → made_by (take (tic + 1) (map Pressed keys)) mark ≡ pressed (take (tic + 1) keys) mark
made_by_keys keys tic mark = grind (arith, take-map, made_by-pressed_alone)

made_for : (keys : List ℕ) (tic : ℕ)
    → if_made (map Pressed keys) tic (made_by (take (tic + 1) (map Pressed keys)) (pos 0))
    ≡ cond (ltb tic (length keys)) (Some (pressed (take (tic + 1) keys) (pos 0))) None
made_for keys tic = grind (arith, length-map, made_by_keys)

pub row_is_by_keys : {S : Type 0} (rules : Rules S) (settings : Settings) (keys : ℕ → List ℕ) (tic : ℕ)
    → row rules settings (presses keys) tic ≡ row_by_keys rules.players keys tic
row_is_by_keys rules settings keys tic = search (rules, made_for, row_is)
