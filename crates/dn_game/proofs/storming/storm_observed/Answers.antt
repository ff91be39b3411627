-- A schedule stops nobody.
use Rattle.std.proofs.Common.{◌≡◌, ◌≤◌, length, arith, ℕ, Bool, true, false, List, [], ◌∷◌, Option, Some, Result, refl, ap, sym, ◌∙◌, option_map}
use Rattle.rand_pcg.specs.Lcg.{Lcg}
use Rattle.dn_machine.specs.{declared.events.Done.Done, declared.events.Event.Event, declared.events.Event.TheVariants.Stop, declared.events.Refusal.Refusal, Game.{Game, opening_game, applied}, Worlds.Rules}
use Rattle.dn_game.specs.{Played.Answers, Schedule.{word, behind, behind_three, generator_of, event_of, scheduled, AllStopped}, Contents.contents, Stormed.{Follows, IsStormed}, declared.played.Played.Played, Opening.rules_in}
use Rattle.dn_setup.specs.Settings.{Settings}
use Rattle.dn_demo.specs.Recorded.{capacity}
use Rattle.dn_game.proofs.{Answering.as_many, Observed.{follows_plays, stormed_more, observes_more, stormed_agrees}, Giving.{given_more, same_at}, Rounding.{none_within, stays}, Framing.limits_stay}
use Rattle.dn_game.proofs.{storming.storm_observed.Goals.{in-Some+in_ok-apply_observed, in_default}}
use Rattle.dn_game.proofs.storming.storm_observed.Goals as goal

-- an event that stops a node
abbrev stops : Event → Bool
stops (Stop node) = true
stops _ = false

-- no event of three words is one
event_moves : (players : ℕ) (game : Game) (a c node : ℕ) → stops (event_of players game a c node) ≡ false
event_moves players game a c node = grind arith

given_moves : (players : ℕ) (game : Game) (a c : ℕ) (found : Option ℕ) (event : Event)
    → option_map (event_of players game a c) found ≡ Some event → stops event ≡ false
given_moves players game a c found event e = grind (arith, event_moves)

module _ {S : Type 0} (rules : Rules S) where
  answered : (game next : Game) (event : Event) (answer : Result Done Refusal) → stops event ≡ false
      → Answers rules game event answer next → next.stopped ≡ game.stopped
  unfolding applied
  answered game next event answer moves is = grind arith

  nobody_stops : (generator : Lcg) (events : List Event) (answers : List (Result Done Refusal))
      (rest : Lcg) (game last : Game)
      → Follows rules generator game events answers rest last → last.stopped ≡ game.stopped
  nobody_stops generator [] [] rest game last (left, same) = ap (λ (g : Game). g.stopped) same
  nobody_stops generator [] (a ∷ answers) rest game last way = absurd way
  nobody_stops generator (e ∷ events) [] rest game last way = absurd way
  nobody_stops generator (e ∷ events) (a ∷ answers) rest game last (first, (then, one, way)) =
      nobody_stops (behind_three generator) events answers rest then last way ∙ answered game then e a
      (given_moves rules.players game (word generator) (word (behind (behind generator))) _ e first) one

opening_moves : (settings : Settings) (node : ℕ) → (opening_game settings).stopped node ≡ false
unfolding opening_game
opening_moves settings node = refl

-- so after a storm not all have stopped
storm_goes_on : {W S : Type 0} (state : W → S) (rules : Rules S) (settings : Settings) (seed count : ℕ)
    (played : Played W)
    → IsStormed state rules settings seed count played → 2 ≤ length (contents played.game).nodes
    → AllStopped (contents played.game) → ⊥
storm_goes_on state rules settings seed count played s two all = grind (arith, nobody_stops, opening_moves)

pub loop-init : goal.loop-init
loop-init g c = rw c.new-played.ensures (
  refl,
  (
    record {
      events = [];
      answers = [];
      rest = _;
      last = _;
      follows = (refl, refl);
      counted = refl;
      game = c.in_ok-game.ensures.opened;
      done = refl;
      refused = refl;
    },
    sym c.new-schedule.ensures,
    refl,
    λ i never. same_at _ _ i c.in_ok-game.ensures.given,
  ),
  c.in_ok-game.ensures.limits,
  none_within _ _ c.in_ok-game.ensures.room,
)

pub loop-preserved : goal.loop-preserved
loop-preserved g c =
    let config = c.args.config in
    let players = length c.args.worlds.items in
    let game = rules_in g.W.World.physics config players in
    let s = c.loop.invariant.1.0 in
    let left = c.loop.invariant.1.1 in
    let given = c.next.ensures.given players config.extra (capacity config.limit players) s.last s.game in
    let observes = g.L.Observer.observes in
    elim c.match-next.branch [
      | in-Some+in_ok-apply_observed w ↦
          let next = w.apply_observed.new.self in
          let told = w.in_ok-apply_observed.ensures.told in
          let counted = w.in_ok-apply_observed.ensures.counted in
          let one = told.applied in
          let event = ap (scheduled players s.last) left ∙ sym given ∙ w.in-Some.is in
          let more = stormed_more _ game config.settings c.args.seed c.loop.counter _ told.answer
          c.loop.played next s event
          (one.applied players config.extra (capacity config.limit players) s.last s.game) one.done
          one.refused in
          let heard = observes_more observes s.events s.answers _ _ 0 _ _ _ _ c.loop.invariant.1.2
          (omega (arith, c.loop.invariant.0, s.counted)) told.observed in
          let plays = follows_plays game (generator_of c.args.seed) s.events s.answers s.rest
          (opening_game config.settings) s.last s.follows in
          let given_on = given_more _ _ _ told.answer one.rest c.args.worlds.items s.events s.answers
          (as_many (Answers game) s.events s.answers _ s.last plays) c.loop.invariant.1.3 in
          rw (w.observer-is, w.played-is) (
            omega (arith, counted, c.loop.invariant.0),
            (more, ap behind_three left ∙ sym c.next.ensures.drawn, heard, given_on),
            limits_stay _ _ _ w.apply_observed.ensures.whose c.loop.invariant.2,
            stays _ _ _ _ w.apply_observed.ensures.grown one.rest.more c.loop.invariant.3,
          )
      | in_default w ↦
          absurd (storm_goes_on _ game config.settings c.args.seed c.loop.counter c.loop.played s
          c.loop.played.game.two (c.next.ensures.stopped.0 w.in_default.is))
    ]

pub returns-clause-agreed : goal.returns-clause-agreed
returns-clause-agreed g c =
    let rules = rules_in g.W.World.physics c.args.config (length c.args.worlds.items) in
    stormed_agrees _ rules c.args.config.settings c.loop.played _ _ c.loop.invariant.1.0

pub returns-clause-run : goal.returns-clause-run
returns-clause-run g c =
    let all : c.args.count ≡ c.loop.counter = omega (arith, c.loop-test.false, c.loop.auto.counter-end) in
    rw all (record {
      run = (c.loop.invariant.1.0, c.loop.invariant.1.3);
      observed = c.loop.invariant.1.2;
    })
