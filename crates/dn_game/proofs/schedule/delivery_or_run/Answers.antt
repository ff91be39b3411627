use Rattle.std.proofs.Common.{rules, ◌≡◌, None, sym, ◌∙◌, arith}
use Rattle.dn_machine.specs.Worlds.{rules_of}
use Rattle.dn_game.proofs.GoingRound.{runs_refused, delivers}
use Rattle.dn_game.proofs.schedule.delivery_or_run.Goals as goal

pub returns-clause-told : goal.returns-clause-told
returns-clause-told g c players extra capacity m r =
    delivers g.W.World.state (rules_of g.W.World.physics players extra capacity) _ m r c.args.node c.args.word
    _ _ c.in-Ok.which c.flights-count.ensures (omega (arith, c.if-count-eq0.false)) c.min.ensures
    c.in-Ok.ensures.1 (search rules) _ (c.refused_flight.ensures.told players extra capacity m r) (search rules)

pub returns-then-is_some-clause-told : goal.returns-then-is_some-clause-told
returns-then-is_some-clause-told g c players extra capacity m r =
    runs_refused g.W.World.state (rules_of g.W.World.physics players extra capacity) _ m r c.args.node
    c.args.word _ _ c.in-Ok.which c.flights-count.ensures (omega (arith, c.if-count-eq0.false)) c.min.ensures
    c.in-Ok.ensures.1 (search rules) _ (c.refused_flight.ensures.told players extra capacity m r) (search rules)

pub returns-clause-allowed : goal.returns-clause-allowed
returns-clause-allowed g c players extra capacity m r =
    let none : c.refused_flight.result ≡ None = search rules in
    sym (c.refused_flight.ensures.told players extra capacity m r) ∙ none
