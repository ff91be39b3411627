-- The nodes of a game agree, since the machine's nodes that they represent do.
use Rattle.std.proofs.Common.{◌≡◌, ℕ, List, ◌++◌, Result, ap, sym, ◌∙◌, append-nil, arith, ◌≢◌, ℤ, Bool, true, false, true≢false, not, cond, Option, Some, None, Ok, Err, ltb, refl, inl, inr, ◌<◌, ◌≤◌, length, subst, All, slice_get, fold, option_map}
use Rattle.std.proofs.lemmas.{List.{append_assoc, Elements.{All-cons, All-nil}}, Bool.{ltb-true, cases_lt}}
use Rattle.std.proofs.lemmas.Option.{same_Some, slice_get_within}
use Rattle.dn_setup.specs.Settings.{Settings}
use Rattle.dn_machine.specs.{declared.events.Done.Done, declared.events.Event.Event, declared.events.Refusal.Refusal, Worlds.{Rules, opening, world, world_after}, Flight.Flight, Node.{Node, ran, demo_rows}, Sending.{on_build_by, on_send}, Hearing.on_packet, Running.{on_run, on_quit, tic_limit}}
use Rattle.dn_machine.specs.{Game.{Game, opening_game, applied, on_own_run, posted, delivered, refused_flight, refused, on_event, applied_if}, Promise.inputs_of}
use Rattle.dn_machine.specs.{Limits.IsWindow, declared.answers.Phase.TheVariants.Ended, declared.answers.Ran.Ran, declared.events.Event.TheVariants.{Run}}
use Rattle.dn_machine.specs.declared.answers.Cause.TheVariants as Cause
use Rattle.dn_machine.specs.Game as machine
use Rattle.dn_game.specs.{Promised.{inputs_by, inputs_made, IsSteady, IsReached, IsPromised}, Played.{Answers, Plays}}
use Rattle.dn_game.specs.{Contents.{Contents, Represents}, Agreed.{AreAgreed, HasNode, lockstep_in, lockstep_at}}
use Rattle.dn_tic.specs.declared.{input.Input.Input, command.Move.Move}
use Rattle.dn_demo.specs.Reading.{state_after}
use Rattle.dn_machine.proofs.{Invariant.IsKept, Games.{opens, happens_keeps, applied_keeps, always}, Put.put_at}
use Rattle.dn_machine.proofs.Promises
use Rattle.dn_lockstep.specs.{Agreed.{rows_made, demo_made}, Told.HasStarted}
use Rattle.dn_lockstep.specs.Contents as lockstep
use Rattle.dn_lockstep.specs.Represents as lockstep_to
use Rattle.dn_lockstep.proofs.Shown.{started}
use Rattle.dn_lockstep.proofs.Agreeing as locksteps
use Rattle.dn_node.specs.{declared.node.Node.Node as NodeOf, Contents.locked}
use Rattle.dn_node.specs.Contents as node
use Rattle.dn_node.proofs.Running.{world_recorded}
use Rattle.dn_game.proofs.{Standing.{window_of, there_is}, Answering.{follows, plays_leads, leads_plays}}

-- The inputs that the machine's nodes took are those of the builds that made a command.

-- no call but a build takes inputs
sent_keeps : {S : Type 0} (rules : Rules S) (me : ℕ) (node : Node) (to : ℕ)
    → (on_send rules.limits me node to).0.inputs ≡ node.inputs
unfolding on_send
sent_keeps rules me node to = grind arith

heard_keeps : {S : Type 0} (rules : Rules S) (me : ℕ) (node : Node) (flight : Flight)
    → (on_packet rules.limits me node flight).0.inputs ≡ node.inputs
unfolding on_packet
heard_keeps rules me node flight = grind arith

ran_keeps : {S : Type 0} (rules : Rules S) (node : Node) → (on_own_run rules node).0.inputs ≡ node.inputs
unfolding on_run
ran_keeps rules node = grind arith

quit_keeps : (node : Node) → (on_quit node).0.inputs ≡ node.inputs
unfolding on_quit
quit_keeps node = grind arith

-- one player's inputs, by one event
answered : {S : Type 0} (rules : Rules S) (game next : Game) (player : ℕ) (event : Event)
    (answer : Result Done Refusal) → Answers rules game event answer next
    → (next.nodes player).inputs ≡ (game.nodes player).inputs ++ inputs_by event answer player
unfolding applied on_build_by
answered rules game next player event answer is =
    grind (arith, append-nil {A = Input}, sent_keeps, heard_keeps, ran_keeps, quit_keeps)

-- and by a list of events
inputs_after : {S : Type 0} (rules : Rules S) (player : ℕ) (events : List Event)
    (answers : List (Result Done Refusal)) (game last : Game)
    → Plays rules game events answers last → (last.nodes player).inputs
    ≡ (game.nodes player).inputs ++ inputs_made events answers player
inputs_after rules player =
    follows (Answers rules)
    (λ game events answers last. (last.nodes player).inputs ≡ (game.nodes player).inputs ++ inputs_made events answers player)
    (λ game last same. ap (λ (g : Game). (g.nodes player).inputs) same ∙ sym (append-nil (game.nodes player).inputs))
    (λ e a events answers game next last one rest. rest
    ∙ ap (λ (ks : List Input). ks ++ inputs_made events answers player) (answered rules game next player e a one)
    ∙ append_assoc (game.nodes player).inputs (inputs_by e a player) (inputs_made events answers player))

pub inputs_played : {S : Type 0} (rules : Rules S) (settings : Settings) (events : List Event)
    (answers : List (Result Done Refusal)) (last : Game)
    → Plays rules (opening_game settings) events answers last → inputs_of last ≡ inputs_made events answers
unfolding opening_game
inputs_played rules settings events answers last way =
    λ i player. inputs_after rules player events answers (opening_game settings) last way i

-- No event of a game that a list of events may leave is answered by a failed check.

-- a run that is answered by a mark that is off ends the node for it
off_ends : {S : Type 0} (rules : Rules S) (node : Node) (player : ℕ) (was should : ℤ)
    → (on_own_run rules node).1 ≡ Ran.Inconsistent player was should
    → (on_own_run rules node).0.phase ≡ Ended (Cause.Inconsistent player was should)
unfolding on_run
off_ends rules node player was should e = grind arith

-- an answer that is of no run and of no delivery
abbrev is_other : Result Done Refusal → Bool
is_other (Ok (Done.Ran ran)) = false
is_other (Ok (Done.Heard heard)) = false
is_other _ = true

apart : (answer is : Result Done Refusal) → is_other answer ≡ true → is_other is ≡ false → answer ≢ is
apart answer is other unlike e = true≢false (sym other ∙ ap is_other e ∙ unlike)

other_steady : (answer : Result Done Refusal) → is_other answer ≡ true → IsSteady answer
other_steady answer other = grind (arith, apart)

-- an event of a number that is not refused is one of a player
passes : (b : Bool) (x : Refusal) (rest : Option Refusal) → cond (not b) (Some x) rest ≡ None → b ≡ true
passes b x rest free = grind arith

module _ {S : Type 0} (rules : Rules S) (settings : Settings) (game : Game)
    (kept : IsKept rules settings game) where
  sends : (game : Game) (flight : Option Flight) → IsSteady (Ok (posted game flight).1)
  sends game None = other_steady _ refl
  sends game (Some flight) = other_steady _ refl

  delivers : (which : ℕ) (flight : Option Flight) → slice_get game.flights which ≡ flight
      → refused_flight game flight ≡ None → IsSteady (Ok (delivered rules game flight).1)
  delivers which flight there free = grind (arith, Promises.steady)

  runs : (node : ℕ) → refused rules.players game (Run node) ≡ None
      → IsSteady (Ok (on_event rules game (Run node)).1)
  runs node free =
      let next = happens_keeps rules settings game kept (Run node) free in
      let below = ltb-true node rules.players (passes (ltb node rules.players) _ _ free) in
      record {
        consistent = λ player was should e.
            let ends = off_ends rules (game.nodes node) player was should (cc) in
            (Promises.steady rules settings _ next).consistent node player was should below
            (ap (λ (n : Node). n.phase) (put_at game.nodes node node _ refl) ∙ ends);
        kept = λ number e. absurd (cc);
      }

  happens : (event : Event) → refused rules.players game event ≡ None
      → IsSteady (Ok (on_event rules game event).1)
  happens event free = grind (arith, other_steady, sends, delivers, slice_get, runs)

  pub applied_steady : (event : Event) → IsSteady (applied rules game event).1
  unfolding applied
  applied_steady event = go (refused rules.players game event) refl
    where
      go : (o : Option Refusal) → refused rules.players game event ≡ o
          → IsSteady (applied_if rules game event o).1
      go (Some refusal) e = other_steady (Err refusal) refl
      go None e = happens event e

-- nor is one that was taken, and what is kept stays so
answer_steady : {S : Type 0} (rules : Rules S) (settings : Settings) (event : Event) (answer : Result Done Refusal)
    (game next : Game) → Answers rules game event answer next → IsKept rules settings game
    → IsSteady answer × IsKept rules settings next
answer_steady rules settings event answer game next (inl (same, is)) kept =
    (rw is (applied_steady rules settings game kept event), rw same (applied_keeps rules settings game kept event))
answer_steady rules settings event answer game next (inr (free, send, same, is)) kept =
    (rw is (other_steady (Err Refusal.Memory) refl), rw same kept)

-- nor is one of a list
pub steady_answers : {S : Type 0} (rules : Rules S) (window : IsWindow rules.limits) (settings : Settings) (events : List Event)
    (answers : List (Result Done Refusal)) (last : Game)
    → Plays rules (opening_game settings) events answers last → All IsSteady answers
steady_answers rules window settings events answers last way =
    follows (Answers rules) (λ game events answers last. IsKept rules settings game → All IsSteady answers)
    (λ game last same kept. All-nil IsSteady) (λ e a events answers game next last one rest kept.
    let stays = answer_steady rules settings e a game next one kept in All-cons IsSteady a answers stays.0 (rest stays.1))
    events answers (opening_game settings) last way (opens rules settings window)

-- The nodes agree.

-- a game that represents one of the machine
module _ {W S : Type 0} (state : W → S) (rules : Rules S) (g : Contents W) (m : machine.Game)
    (r : Represents state rules g m) where
  -- the lockstep of each player's node represents the player's node of the machine
  pub its_lockstep : (p : ℕ) → p < rules.players
      → lockstep_to.Represents rules.limits p (lockstep_at g p) (m.nodes p)
  its_lockstep p below =
      let found = there_is g.nodes p (omega (arith, below, r.players)) in
      subst (λ (k : lockstep.Contents). lockstep_to.Represents rules.limits p k (m.nodes p))
      (sym (ap lockstep_in found.1)) (r.nodes p found.0 found.1).lockstep

  -- there is a node for four players at most, with no more room than may be
  pub few : rules.players ≤ 4
  few = elim (cases_lt 0 rules.players) [
    | inl some ↦
        let first = there_is g.nodes 0 (omega (arith, some, r.players)) in
        (r.nodes 0 first.0 first.1).seat.few
    | inr none ↦ omega arith
  ]

  pub short : 0 < rules.players → rules.capacity ≤ tic_limit
  short some =
      let first = there_is g.nodes 0 (omega (arith, some, r.players)) in
      (r.nodes 0 first.0 first.1).seat.short

  -- one node
  module _ (i : ℕ) (n : node.Contents W) (at : HasNode g i n) where
    pub inside : i < rules.players
    inside = omega (arith, slice_get_within g.nodes i at.0 at.1, r.players)

    pub shown : node.Represents state rules i n (m.nodes i)
    shown = rw at.2 (r.nodes i at.0 at.1)

    ran_there : (lockstep_at g i).ran ≡ n.ran
    ran_there = ap (λ (o : Option (NodeOf W)). (lockstep_in o).ran) at.1 ∙ ap (λ (c : node.Contents W). c.ran) (sym at.2)

    module _ (settings : Settings) (kept : IsKept rules settings m) (begun : HasStarted (locked n)) where
      played : (m.nodes i).played ≡ true
      played = started rules.limits i (locked n) (m.nodes i) shown.lockstep begun

      settings_are : (m.nodes i).settings ≡ Some settings
      settings_are = (kept.sound i inside).played played

      world_is : state n.world ≡ world rules settings (inputs_of m) n.ran
      world_is = same_Some _ _ (shown.world played
          ∙ ap (option_map (λ (s : Settings). world_after rules s (m.nodes i).rows (length (m.nodes i).rows)))
          settings_are) ∙ (Promises.agree rules settings m kept).worlds i inside
          ∙ ap (world rules settings (inputs_of m)) (sym shown.lockstep.table.ran)

      rows_are : demo_rows rules.players (m.nodes i) ≡ rows_made rules.players (inputs_of m) n.ran
      rows_are = locksteps.demo_rows_are rules settings m kept (lockstep_at g) its_lockstep i inside
          ∙ ap (rows_made rules.players (inputs_of m)) ran_there

      replays : n.ran ≡ length (rows_made rules.players (inputs_of m) n.ran)
          → state n.world ≡ state_after rules.physics (demo_made rules.players settings (inputs_of m) i n.ran)
      replays whole =
          world_recorded state rules i n (m.nodes i) settings shown played settings_are
          (whole ∙ ap (length {A = List (Option Move)}) (sym rows_are))
          ∙ ap (fold rules.physics.step (opening rules settings)) rows_are

pub agreed : {W S : Type 0} (state : W → S) (rules : Rules S) (settings : Settings) (events : List Event)
    (g : Contents W)
    → (r : IsReached state rules settings events g) → AreAgreed state rules settings (inputs_of r.last) g
agreed state rules settings events g r =
    let kept = always rules settings (window_of rules.limits r.game.vanilla) events r.last r.run in
    record {
      places = r.game.players;
      few = few state rules g r.last r.game;
      short = short state rules g r.last r.game;
      locksteps = locksteps.agreed rules settings r.last kept (lockstep_at g)
          (its_lockstep state rules g r.last r.game);
      commands = λ i player tic one below. locksteps.told_is rules settings r.last kept (lockstep_at g)
          (its_lockstep state rules g r.last r.game) i below player tic one;
      worlds = λ i n at begun. world_is state rules g r.last r.game i n at settings kept begun;
      replayed = λ i n at begun. replays state rules g r.last r.game i n at settings kept begun;
    }

-- the inputs are those of the builds that made a command
pub agreed_on_keys : {W S : Type 0} (state : W → S) (rules : Rules S) (settings : Settings)
    (events : List Event) (answers : List (Result Done Refusal)) (last : machine.Game) (g : Contents W)
    → Plays rules (opening_game settings) events answers last → Represents state rules g last
    → AreAgreed state rules settings (inputs_made events answers) g
agreed_on_keys state rules settings events answers last g plays shows =
    let run = plays_leads rules events answers (opening_game settings) last plays in
    rw (inputs_played rules settings events answers last plays)
    at (agreed state rules settings events g (record { last = last; run = run; game = shows }))

-- What was played is promised.

module _ {W S : Type 0} (state : W → S) (rules : Rules S) (settings : Settings) (events : List Event) where
  pub promised : (answers : List (Result Done Refusal)) (last : Game) (g : Contents W)
      → Plays rules (opening_game settings) events answers last → Represents state rules g last
      → IsPromised state rules settings events answers last g
  promised answers last g plays shown =
      let kept = always rules settings (window_of rules.limits shown.vanilla) events last
      (plays_leads rules events answers (opening_game settings) last plays) in
      record {
        plays = plays;
        game = shown;
        agree = Promises.agree rules settings last kept;
        fits = Promises.fits rules settings last kept;
        steady = Promises.steady rules settings last kept;
        answered = steady_answers rules (window_of rules.limits shown.vanilla) settings events answers last plays;
        agreed = agreed_on_keys state rules settings events answers last g plays shown;
      }

  pub reached_promised : (g : Contents W) → (r : IsReached state rules settings events g)
      → (answers : List (Result Done Refusal)) × IsPromised state rules settings events answers r.last g
  reached_promised g r = grind (arith, leads_plays, promised)
