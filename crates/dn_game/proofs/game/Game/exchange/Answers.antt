use Rattle.std.proofs.Common.{◌<◌, ◌^◌, length, true≢false, sym, ◌∙◌, arith}
use Rattle.dn_machine.specs.Worlds.{rules_of}
use Rattle.dn_game.proofs.{Arriving.{exchanges, left_out, not_begun}, GoingRound.flights_are, Rounding.{continues_on, continues_one, continues_same}}
use Rattle.dn_game.proofs.game.Game.exchange.Goals as goal

pub returns-clause-good : goal.returns-clause-good
returns-clause-good g c players extra capacity m r =
    let rules = rules_of g.W.World.physics players extra capacity in
    exchanges _ rules _ _ _ m c.args.node c.args.to _ _ _
    (c.in-Ok.ensures.1 ∙ c.flights.ensures ∙ flights_are _ rules _ m r)
    (λ e. true≢false (sym (c.is_left_out.ensures.1 e) ∙ c.if-is_left_out.false))
    c.apply.ensures.rest c.apply-2.ensures.rest (c.apply.ensures.leads.applied players extra capacity m r)
    (c.apply-2.ensures.leads.applied players extra capacity _)

pub returns-then-is_left_out-clause-good : goal.returns-then-is_left_out-clause-good
returns-then-is_left_out-clause-good g c players extra capacity m r =
    let rules = rules_of g.W.World.physics players extra capacity in
    let few : length c.args.self.now.pool.flights < 2 ^ 32 = omega (arith, c.in-Ok.ensures, c.flights.ensures) in
    left_out _ rules c.args.node c.args.to m _ _ c.apply.result few r
    (c.is_left_out.ensures.0 c.if-is_left_out.true) c.apply.ensures.unchanged

pub returns-in_default-clause-good : goal.returns-in_default-clause-good
returns-in_default-clause-good g c players extra capacity m r = grind (arith, not_begun)

pub returns-in_default-clause-continues : goal.returns-in_default-clause-continues
returns-in_default-clause-continues g c = continues_same _

pub returns-then-is_left_out-clause-continues : goal.returns-then-is_left_out-clause-continues
returns-then-is_left_out-clause-continues g c =
    continues_one _ _ c.apply.ensures.whose c.apply.ensures.grown c.apply.ensures.rest.more

pub returns-clause-continues : goal.returns-clause-continues
returns-clause-continues g c =
    let last = c.apply-2.ensures in
    continues_on _ c.apply.new.self _ (continues_one _ _ c.apply.ensures.whose c.apply.ensures.grown c.apply.ensures.rest.more)
    (continues_one _ _ last.whose last.grown last.rest.more)
