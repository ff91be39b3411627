-- What no event takes back: the rows that a node ran, that it has played, and that it pauses for no more than
-- ten packets.
use Rattle.std.proofs.{Common.{◌≡◌, ℕ, ◌≤◌, true, List, length, arith, ◌++◌, false, true≢false, refl, sym, ◌∙◌, length-append}, lemmas.{List.length_push, Bool.and_parts}}
use Rattle.dn_tic.specs.declared.{input.Input.Input, command.TicCmd.TicCmd}
use Rattle.dn_setup.specs.Settings.{Settings}
use Rattle.dn_machine.specs.{declared.answers.Heard.Heard, declared.events.Event.Event, Worlds.Rules, Node.{Node, ran, put, got, is_ended, has_left}, Sending.{on_build_by, on_send}, Hearing.on_packet, Running.{on_run, on_quit}}
use Rattle.dn_machine.specs.{Game.{Game, opening_game, applied}, Runs.{Runs, Leads}, Progress.{after, in_order, exchange, turn, good_round, good_rounds, build_of}}
use Rattle.dn_machine.proofs.{Calls.packet_cases, EachEvent.{each_of, after_event, leads_keep}}

pub record Grows (old new : Node) : Type 0 where
  pub rows : length old.rows ≤ length new.rows
  pub pause : (peer : ℕ) → (old.peers peer).pause ≤ 10 → (new.peers peer).pause ≤ 10
  pub played : old.played ≡ true → new.played ≡ true

pub grows_same : (node : Node) → Grows node node
grows_same node = record { rows = omega arith; pause = λ peer h. h; played = λ h. h }

module _ {S : Type 0} (rules : Rules S) (game : Game) (q : ℕ) where
  pub applied_grows : (event : Event) → Grows (game.nodes q) ((applied rules game event).0.nodes q)
  unfolding on_build_by on_send on_packet on_run on_quit
  applied_grows event = after_event rules Grows grows_same game q (λ i input node. grind arith)
      (λ i to node. grind arith)
      (λ i flight node. packet_cases rules.limits i node flight (λ (r : Node × Heard). Grows node r.0)
      (grind arith))
      (λ node marks. grind (arith, length_push)) (λ node. grind arith) event

-- no node holds off more than ten packets
abbrev pub IsPatient : Game → Type 0
IsPatient game = (q peer : ℕ) → ((game.nodes q).peers peer).pause ≤ 10

pub always_patient : {S : Type 0} (rules : Rules S) (settings : Settings) (events : List Event) (game : Game)
    → Runs rules settings events game → IsPatient game
unfolding opening_game
always_patient rules settings events game run = leads_keep rules IsPatient
    (λ now event patient q peer. (applied_grows rules now q event).pause peer (patient q peer))
    events (opening_game settings) game (λ q peer. omega arith) run

-- rows stay over an exchange, a turn and rounds
module _ {S : Type 0} (rules : Rules S) where
  pub exchange_ran : (q n i : ℕ) (g : Game) (j : ℕ) → n ≤ ran (g.nodes q) → n ≤ ran ((exchange rules i g j).nodes q)
  unfolding exchange
  exchange_ran q n i g j l = grind (arith, applied_grows)

  pub turn_ran : (inputs : ℕ → Input) (q n : ℕ) (g : Game) (i : ℕ) → n ≤ ran (g.nodes q)
      → n ≤ ran ((turn rules inputs g i).nodes q)
  unfolding turn
  turn_ran inputs q n g i l =
      let built : Game = after rules (build_of i (inputs i)) g in
      let a = (applied_grows rules g q (build_of i (inputs i))).rows in
      let sent : Game = in_order (exchange rules i) rules.players built in
      let b : n ≤ ran (sent.nodes q) = each_of (λ (h : Game). n ≤ ran (h.nodes q)) (exchange rules i)
      rules.players built (λ j h m x. exchange_ran q n i h j x) (omega arith) in grind (arith, applied_grows)

  pub round_ran : (inputs : ℕ → Input) (q n : ℕ) (g : Game) → n ≤ ran (g.nodes q)
      → n ≤ ran ((good_round rules inputs g).nodes q)
  unfolding good_round
  round_ran inputs q n g l = each_of (λ (h : Game). n ≤ ran (h.nodes q)) (turn rules inputs) rules.players g
      (λ i h m x. turn_ran inputs q n h i x) l

  pub rounds_ran : (inputs : ℕ → ℕ → Input) (count q n : ℕ) (g : Game) → n ≤ ran (g.nodes q)
      → n ≤ ran ((good_rounds rules inputs count g).nodes q)
  unfolding good_rounds
  rounds_ran inputs count q n g l = each_of (λ (h : Game). n ≤ ran (h.nodes q))
      (λ before round. good_round rules (inputs round) before) count g (λ i h m x. round_ran (inputs i) q n h x) l

-- What a node holds later: no fewer commands of anybody; and once it has left, it stays so and holds the same.
pub record IsLater (old new : Node) : Type 0 where
  pub more : (p : ℕ) → got old p ≤ got new p
  pub left : has_left old ≡ true → (has_left new ≡ true) × ((p : ℕ) → got new p ≡ got old p)

pub later_same : (node : Node) → IsLater node node
later_same node = record { more = λ p. omega arith; left = λ h. (h, λ p. refl) }

-- with one more step
pub later_on : (a b c : Node) → IsLater a b → IsLater b c → IsLater a c
later_on a b c first next = grind arith

-- more commands of one player
longer_at : (held : ℕ → List TicCmd) (i : ℕ) (more : List TicCmd) (p : ℕ)
    → length (held p) ≤ length (put held i (held i ++ more) p)
longer_at held i more p = grind (arith, length-append)

-- who goes on has not left
goes_on : {A : Type 0} (node : Node) → is_ended node.phase ≡ false → has_left node ≡ true → A
goes_on node on left = absurd (true≢false (sym (and_parts node.played (is_ended node.phase) left).1 ∙ on))

module _ {S : Type 0} (rules : Rules S) where
  applied_later : (game : Game) (event : Event) (q : ℕ)
      → IsLater (game.nodes q) ((applied rules game event).0.nodes q)
  unfolding on_build_by on_send on_packet on_run on_quit
  applied_later game event q = after_event rules IsLater later_same game q
      (λ i input node. grind (arith, longer_at)) (λ i to node. grind arith)
      (λ i flight node. grind (arith, longer_at))
      (λ node marks. grind arith) (λ node. grind arith) event

  -- after any events
  pub leads_later : (events : List Event) (game last : Game) → Leads rules game events last → (q : ℕ)
      → IsLater (game.nodes q) (last.nodes q)
  leads_later events game last way q = leads_keep rules (λ (now : Game). IsLater (game.nodes q) (now.nodes q))
      (λ now event before. later_on _ _ _ before (applied_later now event q))
      events game last (later_same (game.nodes q)) way
