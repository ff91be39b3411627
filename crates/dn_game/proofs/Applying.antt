-- Why the machine refuses an event, by what was looked at, and that an event is applied as its refusal
-- says.
use Rattle.std.proofs.Common.{◌≡◌, ◌<◌, ◌⊎◌, ℕ, Bool, true, false, length, Option, Some, None, ap, sym, ◌∙◌, arith, set, Result, Ok, Err, refl, subst, inl, inr, not, if◌then◌else◌, nat_lt, slice_get, slice_index_or}
use Rattle.std.proofs.lemmas.{Bool.cond-false, List.{get_or-set_same, get_or-set_other}}
use Rattle.dn_machine.specs.{Flight.is_near, Node.{made, put}, Game.{refused_at, refused, refused_flight, applied, applied_if, on_event, with_node}, Worlds.Rules, declared.events.Event.Event, declared.events.Event.TheVariants.{Build, Give, Send, Run, Quit, Stop}, declared.events.Refusal.Refusal}
use Rattle.dn_tic.specs.{declared.keys.Keys.Keys, declared.input.Command.Command}
use Rattle.dn_node.specs.declared.node.Node.{Node}
use Rattle.dn_lockstep.specs.{Tables.count_of, Sent.aim_of}
use Rattle.dn_game.specs.{declared.flight.Flight.Flight, declared.pool.Record.Record, Contents.{Contents, Represents, flight_of}, Pool.IsRecordOf}
use Rattle.dn_game.specs.Applied.{IsAfter, IsApplied, IsAddressed, IsLeftOut}
use Rattle.dn_game.proofs.Standing.{IsFlight, made_at, flight_at, moved, places, node_at}
use Rattle.dn_machine.specs.Flight as exact
use Rattle.dn_machine.specs.Game as machine
use Rattle.dn_machine.specs.declared.events.Done.{Done}
use Rattle.dn_machine.specs.Node as machine_node
use Rattle.dn_node.specs.Contents as node
use Rattle.dn_node.specs.Steps as step

-- a send to a player is refused as any event of its node is
pub refused_send : (players : ℕ) (m : machine.Game) (node to : ℕ) → nat_lt to players ≡ true
    → refused_at players m node ≡ refused players m (Send node to)
refused_send players m node to is = grind arith

-- a delivery, by what was found of the flight
module _ (m : machine.Game) (which : ℕ) (flight : exact.Flight)
    (there : slice_get m.flights which ≡ Some flight) (near : Bool)
    (near_is : near ≡ is_near (made flight.to (m.nodes flight.to)) flight) where
  is_refused : (if near then (if m.stopped flight.to then Some Refusal.Stopped else None)
      else Some Refusal.Far) ≡ refused_flight m (slice_get m.flights which)
  is_refused = grind arith

-- the same of a game that represents it, whose receiver was asked how many commands it made
module _ {W S : Type 0} (state : W → S) (rules : Rules S) (g : Contents W) (m : machine.Game)
    (r : Represents state rules g m)
    (which : ℕ) (below : which < length g.flights) (entry : Record)
    (told : (f : Flight) → slice_get g.flights which ≡ Some f → IsRecordOf f entry)
    (to : ℕ) (n : Node W) (is_to : to ≡ entry.to) (is_n : n ≡ slice_index_or g.nodes to n)
    (count : ℕ) (counted : count ≡ count_of (node.contents n).rings (node.contents n).me)
    (near : Bool) (tested : (flight : exact.Flight) → entry.aim ≡ aim_of flight
    → near ≡ is_near count flight) where
  sent : (flight : exact.Flight) × IsFlight m rules.players g.flights which flight
  sent = flight_at state rules g m r which below

  of : IsRecordOf (flight_of sent.0) entry
  of = told (flight_of sent.0) sent.1.sent

  goes_to : to ≡ sent.0.to
  goes_to = is_to ∙ of.to

  there_is : to < rules.players
  there_is = let inside = sent.1.carried.to in omega (arith, inside, goes_to)

  tells_near : near ≡ is_near (made sent.0.to (m.nodes sent.0.to)) sent.0
  tells_near =
      let known = made_at state rules g m r to count n (omega (arith, there_is, r.players)) is_n counted
      ∙ ap (λ (k : ℕ). made k (m.nodes k)) goes_to in
      tested sent.0 of.aim ∙ ap (λ (k : ℕ). is_near k sent.0) known

  refused_so : (if near then (if m.stopped sent.0.to then Some Refusal.Stopped else None)
      else Some Refusal.Far) ≡ refused_flight m (slice_get m.flights which)
  refused_so = is_refused m which sent.0 sent.1.there near tells_near

  pub told_far : near ≡ false → Some Refusal.Far ≡ refused_flight m (slice_get m.flights which)
  told_far so = sym (cond-false near _ _ so) ∙ refused_so

  pub told_near : near ≡ true → (place : ℕ) (stopped : Bool) → place ≡ entry.to
      → stopped ≡ slice_index_or g.stopped place false
      → (if stopped then Some Refusal.Stopped else None) ≡ refused_flight m (slice_get m.flights which)
  told_near so place stopped there is = grind (arith, refused_so, r.stopped, goes_to)

-- an event of one node
abbrev pub IsOfNode : ℕ → Event → Type 0
IsOfNode node event = ((keys : Keys) × (event ≡ Build node keys)) ⊎ (((command : Command) × (event ≡ Give node command))
    ⊎ ((event ≡ Run node) ⊎ ((event ≡ Quit node) ⊎ (event ≡ Stop node))))

pub refused_own : (players : ℕ) (m : machine.Game) (node place : ℕ) (event : Event) → place ≡ node
    → IsOfNode node event → refused_at players m place ≡ refused players m event
refused_own players m node place event e is = grind arith

not_far : (near stopped : Bool) → ◌≡◌ {A = Option Refusal}
    (if not near then Some Refusal.Far else (if stopped then Some Refusal.Stopped else None)) None → near ≡ true
not_far near stopped e = grind arith

-- what is not refused is near
pub near_unless : (m : machine.Game) (which : ℕ) (flight : exact.Flight)
    → slice_get m.flights which ≡ Some flight → refused_flight m (slice_get m.flights which) ≡ None
    → is_near (made flight.to (m.nodes flight.to)) flight ≡ true
near_unless m which flight there free = not_far _ _ (ap (refused_flight m) (sym there) ∙ free)

-- An event is applied.

pub applied_so : {S : Type 0} (rules : Rules S) (m : machine.Game) (event : Event) (refusal : Option Refusal)
    → refusal ≡ refused rules.players m event
    → ◌≡◌ {A = machine.Game × Result Done Refusal} (applied rules m event) (applied_if rules m event refusal)
unfolding applied
applied_so rules m event refusal is = ap (applied_if rules m event) (sym is)

module _ {W S : Type 0} (state : W → S) (rules : Rules S) (g : Contents W) (m : machine.Game) (event : Event)
  where
    -- a refused event changes nothing
    pub after_refused : (refusal : Refusal) → Some refusal ≡ refused rules.players m event
        → Represents state rules g m → IsAfter state rules g (applied rules m event) (Err refusal)
    after_refused refusal is r =
        rw (applied_so rules m event (Some refusal) is) (record { game = r; answered = refl })

    -- any other does what it does
    pub after_event : (named : Event) → event ≡ named → (done : Done) → None ≡ refused rules.players m event
        → IsAfter state rules g (on_event rules m named) done
        → IsAfter state rules g (applied rules m event) (Ok done)
    after_event named same done is after =
        let same_after : IsAfter state rules g (on_event rules m event) done = rw same after in
        rw (applied_so rules m event None is) (record { game = same_after.game; answered = ap Ok same_after.answered })

-- a send that is not refused is applied, or left out
pub after_send : {W S : Type 0} (state : W → S) (rules : Rules S) (old : Contents W) (m : machine.Game)
    (new : Contents W) (event : Event) (node to : ℕ) (answer : Result Done Refusal)
    → event ≡ Send node to → None ≡ refused rules.players m event
    → ((done : Done) × (answer ≡ Ok done) × IsAfter state rules new (on_event rules m (Send node to)) done)
    ⊎ IsLeftOut old new true answer → IsApplied state rules old new m event answer
after_send state rules old m new event node to answer same is (inl (done, answered, after)) =
    inl (rw answered (after_event state rules new m event (Send node to) same done is after))
after_send state rules old m new event node to answer same is (inr left) =
    inr (sym is, record { asks = rw same refl; same = left.same; answered = left.answered })

-- an event that names one node, by the step of that node
pub after_step : {W S A : Type 0} (state : W → S) (rules : Rules S) (g : Contents W) (m : machine.Game)
    (event named : Event) (place : ℕ) (old new : Node W) (next : machine_node.Node × A) (answer : A)
    (done : A → Done)
    → Represents state rules g m → None ≡ refused rules.players m event → IsAddressed g event → event ≡ named
    → (IsAddressed g named → place < length g.nodes) → old ≡ slice_index_or g.nodes place old
    → (node.Represents state rules place (node.contents old) (m.nodes place)
    → step.IsAfter state rules place (node.contents new) next (λ x. answer ≡ x))
    → ◌≡◌ {A = machine.Game × Done} (on_event rules m named) (with_node m place next.0, done next.1)
    → IsAfter state rules (record g { nodes = set g.nodes place new }) (applied rules m event)
    (Ok (done answer))
after_step {W} state rules g m event named place old new next answer done r told there same names read steps
    is =
    let below = names (subst (IsAddressed g) same there) in
    let after = steps (node_at state rules g m r place old below read) in
    after_event state rules _ m event named same (done answer) told (rw is (record {
      game = places state rules g m place new next.0 r below after.node;
      answered = ap done after.answer;
    }))

-- a node stops
pub stops : {W S : Type 0} (state : W → S) (rules : Rules S) (g : Contents W) (m : machine.Game) (place : ℕ)
    → Represents state rules g m → place < length g.stopped
    → IsAfter state rules (record g { stopped = set g.stopped place true })
    (record m { stopped = put m.stopped place true }, Done.Stopped) Done.Stopped
stops state rules g m place r below = grind (arith, moved, get_or-set_same, get_or-set_other)
