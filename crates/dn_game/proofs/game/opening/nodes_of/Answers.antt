use Rattle.std.proofs.Common.{rules, ◌≡◌, [], ◌∷◌, ◌++◌, length, ap, sym, ◌∙◌, arith, length-append, ◌==◌}
use Rattle.std.proofs.lemmas.{Bool.{cond-true, eq-eqb}, List.Elements.All-push}
use Rattle.dn_lockstep.specs.{declared.config.Config.Config, Contents.Whose}
use Rattle.dn_game.specs.Opening.{rules_in}
use Rattle.dn_game.proofs.Freshening.{each_more, given_more, given_all}
use Rattle.dn_game.proofs.game.opening.nodes_of.Goals as goal

pub loop-world-preserved : goal.loop-world-preserved
loop-world-preserved g c =
    let config = c.args.config in
    let before = c.loop-world.invariant in
    let nodes = c.loop-world.nodes.items in
    let pushed : c.push_reserved.new.self.items ≡ nodes ++ c.in-Ok.node ∷ [] = c.push_reserved.ensures.items in
    let players : c.len-players.result ≡ length c.args.worlds.items = search rules in
    let me : c.len-in-loop-world.result ≡ length nodes = search rules in
    let opened = (rw c.config_of-own.ensures at c.in-Ok.ensures.opened) config.settings
    (λ zero. cond-true (c.len-in-loop-world.result == 0) _ _ (eq-eqb _ 0 zero)) in
    let limit : (g.N.GameNode.whose c.in-Ok.node).limit ≡ config.limit =
    ap (λ (w : Whose). w.limit) c.in-Ok.ensures.whose ∙ ap (λ (own : Config). own.limit) c.config_of-own.ensures in (
      before.0,
      before.1,
      omega (arith, ap length pushed ∙ length-append nodes (c.in-Ok.node ∷ []), before.2, c.in-Some.ensures.steps.1),
      rw pushed (each_more (g.N.GameNode.is_fresh (rules_in g.W.World.physics config (length c.args.worlds.items)).limits
          config.settings) nodes c.in-Ok.node before.3 (rw (players, me) at opened)),
      given_more _ nodes _ _ before.4 _ _ _ _ pushed c.in-Ok.ensures.given c.in-Some.ensures.steps.0,
      rw pushed (All-push (λ n. (g.N.GameNode.whose n).limit ≡ config.limit) nodes c.in-Ok.node before.5 limit),
      c.push_reserved.ensures.capacity ∙ before.6,
    )

pub returns-clause-given : goal.returns-clause-given
returns-clause-given g c = given_all _ c.loop-world.nodes.items _ _ c.loop-world.invariant.4
    (sym c.loop-world.world-iterator.rest.ok.0 ∙ c.in-None.ensures.steps.0)
