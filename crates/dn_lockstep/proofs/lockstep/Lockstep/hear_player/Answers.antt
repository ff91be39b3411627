use Rattle.std.proofs.Common.{arith}
use Rattle.dn_lockstep.specs.Received.{on_player}
use Rattle.dn_lockstep.proofs.{After.{after, by_phase, steps}, Receiving.player_gathers}
use Rattle.dn_lockstep.proofs.lockstep.Lockstep.hear_player.Goals as goal

pub returns-in-Listening-clause-step : goal.returns-in-Listening-clause-step
returns-in-Listening-clause-step c = grind arith

pub returns-in-Gathering-clause-step : goal.returns-in-Gathering-clause-step
returns-in-Gathering-clause-step c = steps c.hear_gathering.ensures.step.same (λ limits me m r.
    let heard = c.hear_gathering.ensures.step.step limits me m r in
    by_phase r c.in-Gathering.is (on_player limits me m c.args.from c.args.packet.now)
    (after _ _ (player_gathers limits me m c.args.from c.args.packet.now) heard.node heard.answer))

pub returns-in-Playing-clause-step : goal.returns-in-Playing-clause-step
returns-in-Playing-clause-step c = steps c.take.ensures.step.same (λ limits me m r.
    by_phase r c.in-Playing.is (on_player limits me m c.args.from c.args.packet.now)
    (c.take.ensures.step.step limits me m r))

pub returns-in-Ended-clause-step : goal.returns-in-Ended-clause-step
returns-in-Ended-clause-step c = steps (c.answer.ensures.step c.in-Ended.field-0).same (λ limits me m r.
    by_phase r c.in-Ended.is (on_player limits me m c.args.from c.args.packet.now)
    ((c.answer.ensures.step c.in-Ended.field-0).step limits me m r))
