use Rattle.std.proofs.Common.{sym, ◌∙◌, arith}
use Rattle.dn_lockstep.proofs.{After.after, Receiving.{read_strange, read_killed, read_player}}
use Rattle.dn_lockstep.proofs.lockstep.Lockstep.hear.Goals as goal

pub returns-then-has_flag-clause-step : goal.returns-then-has_flag-clause-step
returns-then-has_flag-clause-step c told is limits me m r = grind arith

pub returns-then-packet-from-clause-step : goal.returns-then-packet-from-clause-step
returns-then-packet-from-clause-step c told is limits me m r = grind (arith, read_strange, after)

pub returns-then-has_flag-2-clause-step : goal.returns-then-has_flag-2-clause-step
returns-then-has_flag-2-clause-step c told is limits me m r = grind (arith, read_killed, after)

pub returns-clause-step : goal.returns-clause-step
returns-clause-step c told is limits me m r =
    let step = read_player limits me m c.args.from told
    c.args.packet.now (sym c.has_flag.ensures ∙ c.if-has_flag.false)
    (λ e. c.in_default.not-Listening (r.stands.phase ∙ e)) c.if-packet-from.false
    (sym c.has_flag-2.ensures ∙ c.if-has_flag-2.false) in
    let heard = c.hear_player.ensures.step.step limits me m r in
    after _ _ step heard.node heard.answer
