-- An event that is applied leads from what a game was to what it is.
use Rattle.std.proofs.Common.{◌≡◌, ◌<◌, ℕ, length, set, None, Result, Ok, inl, slice_index_or}
use Rattle.dn_world.specs.Physics.{Physics}
use Rattle.dn_machine.specs.{declared.events.Done.Done, declared.events.Event.Event, declared.events.Refusal.Refusal, Game.{with_node, Game, on_event, opening_game, refused}, Limits.Limits, Worlds.{rules_of, rules_within}}
use Rattle.dn_machine.proofs.Games.{goes_on}
use Rattle.dn_node.specs.declared.node.Node.{Node}
use Rattle.dn_game.specs.{Applied.{IsAddressed, IsApplied, Tells}, Contents.Contents, Played.Answers, Promised.LeadsOn}
use Rattle.dn_game.proofs.{Answering.{answers_next, answers_one, plays_more}, Applying.after_step}
use Rattle.dn_machine.specs.Node as exact
use Rattle.dn_node.specs.Contents as node_in
use Rattle.dn_node.specs.Steps as step

-- an event that is applied leads on
pub leads_on : {W S : Type 0} (state : W → S) (physics : Physics S) (old new : Contents W) (event : Event)
    (answer : Result Done Refusal)
    → Tells state physics old (λ rules m. IsApplied state rules old new m event answer)
    → LeadsOn state physics old new event answer
leads_on state physics old new event answer is =
    record {
      applied = is;
      carried = record {
        reached = λ players extra capacity settings events r.
            let rules = rules_of physics players extra capacity in
            let one = answers_one state rules old new r.last event answer r.game
            (is players extra capacity r.last r.game) in
            record {
              last = one.0;
              run = goes_on rules settings events event (opening_game settings) r.last one.0 r.run
                  (answers_next rules event answer r.last one.0 one.1);
              game = one.2;
            };
        answered = λ players extra capacity settings events answers r.
            let rules = rules_of physics players extra capacity in
            let one = answers_one state rules old new r.last event answer r.game
            (is players extra capacity r.last r.game) in
            record {
              last = one.0;
              plays = plays_more (Answers rules) events answers event answer (opening_game settings) r.last one.0 r.plays
                  one.1;
              game = one.2;
            };
      };
    }

-- and so does the step of the one node that it names
pub step_leads : {W S A : Type 0} (state : W → S) (physics : Physics S) (g : Contents W) (event named : Event)
    (place : ℕ) (old new : Node W) (by : Limits → ℕ → exact.Node → exact.Node × A) (answer : A)
    (done : A → Done)
    → Tells state physics g (λ rules m. None ≡ refused rules.players m event) → IsAddressed g event
    → event ≡ named → (IsAddressed g named → place < length g.nodes) → old ≡ slice_index_or g.nodes place old
    → ((limits : Limits) (me : ℕ) (n : exact.Node)
    → node_in.Represents state (rules_within physics limits) me (node_in.contents old) n
    → step.IsAfter state (rules_within physics limits) me (node_in.contents new)
    (by limits me n) (λ x. answer ≡ x))
    → ((limits : Limits) (m : Game) → ◌≡◌ {A = Game × Done} (on_event (rules_within physics limits) m named)
    (with_node m place (by limits place (m.nodes place)).0, done (by limits place (m.nodes place)).1))
    → LeadsOn state physics g (record g { nodes = set g.nodes place new }) event (Ok (done answer))
step_leads state physics g event named place old new by answer done told there same names read steps is =
    leads_on state physics g (record g { nodes = set g.nodes place new }) event (Ok (done answer))
    (λ players extra capacity m r.
    let rules = rules_of physics players extra capacity in
    inl (after_step state rules g m event named place old new (by rules.limits place (m.nodes place)) answer done r
    (told players extra capacity m r) there same names read (steps rules.limits place (m.nodes place))
    (is rules.limits m)))
