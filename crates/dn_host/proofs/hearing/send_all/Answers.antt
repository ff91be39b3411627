use Rattle.std.proofs.Common.{◌<◌, ◌≤◌, true, false, rules}
use Rattle.dn_session.specs.Session.{meeting}
use Rattle.dn_host.specs.Turns.{SendsNext}
use Rattle.dn_host.proofs.Turned.{all_done, done_again, not_done}
use Rattle.dn_host.proofs.hearing.send_all.Goals as goal

pub loop-sent-init : goal.loop-sent-init
loop-sent-init g c = λ m w all rest. rest

pub loop-sent-preserved : goal.loop-sent-preserved
loop-sent-preserved g c =
    let below : c.loop-sent.sent < 10 = search rules in
    λ m w all rest. c.loop-sent.invariant m w all
    (done_again (SendsNext g.W.Wire.sends) 10 c.loop-sent.sent (meeting c.loop-sent.session) c.loop-sent.wire c.send_next.result
    (meeting c.send_next.new.session) c.send_next.new.wire below c.if-not-send_next.false c.send_next.ensures m w all rest)

pub returns-then-not-send_next : goal.returns-then-not-send_next
returns-then-not-send_next g c =
    let below : c.loop-sent.sent < 10 = search rules in (
      false,
      c.loop-sent.invariant (meeting c.send_next.new.session) c.send_next.new.wire false
          (not_done (SendsNext g.W.Wire.sends) 10 c.loop-sent.sent (meeting c.loop-sent.session) c.loop-sent.wire c.send_next.result
          (meeting c.send_next.new.session) c.send_next.new.wire below c.if-not-send_next.true c.send_next.ensures),
    )

pub returns : goal.returns
returns g c =
    let reached : 10 ≤ c.loop-sent.sent = search rules in (
      true,
      c.loop-sent.invariant (meeting c.loop-sent.session) c.loop-sent.wire true
          (all_done (SendsNext g.W.Wire.sends) 10 c.loop-sent.sent (meeting c.loop-sent.session) c.loop-sent.wire reached),
    )
