-- The event of three words.
use Rattle.std.proofs.Common.{◌≡◌, ◌%◌, ℕ, false, length, Option, ap, ◌∙◌, arith, Some, None, slice_index_or, option_map}
use Rattle.rand_pcg.specs.{Lcg.Lcg, Pcg.pcg32}
use Rattle.dn_machine.specs.{Game.Game, Worlds.{Rules, rules_of}}
use Rattle.dn_game.specs.{Contents.{Contents, Represents}, Schedule.{first_moving, event_of, next_event, scheduled}}
use Rattle.dn_game.proofs.schedule.Schedule.next.Goals as goal

module _ (players : ℕ) (m : Game) (g g1 g2 g3 : Lcg) (a b c : ℕ)
    (first : ◌≡◌ {A = ℕ × Lcg} (a, g1) (pcg32 g)) (second : ◌≡◌ {A = ℕ × Lcg} (b, g2) (pcg32 g1))
    (third : ◌≡◌ {A = ℕ × Lcg} (c, g3) (pcg32 g2)) where
  of_words : next_event players m a b c ≡ scheduled players m g
  of_words = grind arith

-- by the player who moves
module _ {W S : Type 0} (state : W → S) (rules : Rules S) (g : Contents W) (m : Game)
    (r : Represents state rules g m) (a b c count : ℕ)
    (counted : count ≡ length g.nodes) (moving : Option ℕ)
    (found : moving ≡ first_moving (length g.nodes) (λ p. slice_index_or g.stopped p false) (b % count)) where
  event_by : option_map (event_of rules.players m a c) moving ≡ next_event rules.players m a b c
  event_by = grind arith

pub returns-in_err-node-clause-given : goal.returns-in_err-node-clause-given
returns-in_err-node-clause-given g c players extra capacity m r =
    let game = rules_of g.W.World.physics players extra capacity in
    c.from_residual.ensures
    ∙ event_by g.W.World.state game _ m r c.next_word-a.result c.next_word-b.result c.next_word-c.result _
    c.players.ensures.value None c.in_err-node.ensures.value
    ∙ of_words players m _ _ _ _ _ _ _ c.next_word-a.ensures c.next_word-b.ensures c.next_word-c.ensures
    ∙ ap (scheduled players m) c.self.view_is

pub returns-clause-given : goal.returns-clause-given
returns-clause-given g c players extra capacity m r =
    let game = rules_of g.W.World.physics players extra capacity in
    ap Some (c.event_of.ensures.told players extra capacity m r)
    ∙ event_by g.W.World.state game _ m r c.next_word-a.result c.next_word-b.result c.next_word-c.result _
    c.players.ensures.value (Some c.in_ok-node.node) c.in_ok-node.ensures.value
    ∙ of_words players m _ _ _ _ _ _ _ c.next_word-a.ensures c.next_word-b.ensures c.next_word-c.ensures
    ∙ ap (scheduled players m) c.self.view_is
