use Rattle.std.proofs.Common.{◌∙◌, ◌<◌, length, refl, rules, arith}
use Rattle.dn_game.proofs.{Packing.receiver_below, Applying.{told_far, told_near}}
use Rattle.dn_game.proofs.game.Game.refused_flight.Goals as goal

pub index-receiver-requires : goal.index-receiver-requires
index-receiver-requires g c =
    let n = c.args.self.now in
    let below : c.args.which < length n.pool.flights = search rules in
    let small = receiver_below n.pool.flights c.args.which (length n.nodes.items) c.record-flight.result.now
    below n.receivers c.record-flight.ensures in
    omega (arith, small, c.from.ensures, n.nodes.ok.0)

pub returns-then-not-is_near-clause-told : goal.returns-then-not-is_near-clause-told
returns-then-not-is_near-clause-told g c players extra capacity m r =
    let below : c.args.which < length c.args.self.now.pool.flights = search rules in
    told_far _ _ _ m r _ below _ c.record-flight.ensures _ _ c.from.ensures c.index-receiver.ensures
    _ c.made.ensures _ c.is_near.ensures.near c.if-not-is_near.true

pub returns-clause-told : goal.returns-clause-told
returns-clause-told g c players extra capacity m r =
    let below : c.args.which < length c.args.self.now.pool.flights = search rules in
    c.refused_stopped.ensures.told ∙ told_near _ _ _ m r _ below _ c.record-flight.ensures _ _ c.from.ensures
    c.index-receiver.ensures _ c.made.ensures _ c.is_near.ensures.near c.if-not-is_near.false _ _
    c.from-2.ensures refl
