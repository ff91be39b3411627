use Rattle.std.proofs.Common.{◌<◌, ◌≤◌, true, false, rules}
use Rattle.dn_session.specs.Session.{meeting}
use Rattle.dn_host.specs.Turns.{HearsNext, Scene}
use Rattle.dn_host.proofs.Turned.{all_done, done_again, not_done}
use Rattle.dn_host.proofs.hearing.hear_all.Goals as goal

pub loop-heard-init : goal.loop-heard-init
loop-heard-init g c = λ b left busy rest. rest

pub loop-heard-preserved : goal.loop-heard-preserved
loop-heard-preserved g c =
    let below : c.loop-heard.heard < 64 = search rules in
    let a : Scene g.row.W.Denot =
    record { session = meeting c.loop-heard.session; game = c.loop-heard.game; wire = c.loop-heard.wire } in
    let d : Scene g.row.W.Denot =
    record { session = meeting c.hear_next.new.session; game = c.hear_next.new.game; wire = c.hear_next.new.wire } in
    λ b left busy rest. c.loop-heard.invariant b left busy (done_again (HearsNext g.W.Wire.sends g.W.Wire.polls c.args.now) 64
    c.loop-heard.heard a c.loop-heard.left c.hear_next.result d c.hear_next.new.left below c.if-not-hear_next.false
    c.hear_next.ensures b left busy rest)

pub returns-then-not-hear_next : goal.returns-then-not-hear_next
returns-then-not-hear_next g c =
    let below : c.loop-heard.heard < 64 = search rules in
    let a : Scene g.row.W.Denot =
    record { session = meeting c.loop-heard.session; game = c.loop-heard.game; wire = c.loop-heard.wire } in
    let b : Scene g.row.W.Denot =
    record { session = meeting c.hear_next.new.session; game = c.hear_next.new.game; wire = c.hear_next.new.wire } in (
      c.hear_next.new.left,
      c.loop-heard.invariant b c.hear_next.new.left false
          (not_done (HearsNext g.W.Wire.sends g.W.Wire.polls c.args.now) 64 c.loop-heard.heard a c.loop-heard.left c.hear_next.result b
          c.hear_next.new.left below c.if-not-hear_next.true c.hear_next.ensures),
    )

pub returns : goal.returns
returns g c =
    let reached : 64 ≤ c.loop-heard.heard = search rules in
    let a : Scene g.row.W.Denot =
    record { session = meeting c.loop-heard.session; game = c.loop-heard.game; wire = c.loop-heard.wire } in (
      c.loop-heard.left,
      c.loop-heard.invariant a c.loop-heard.left true
          (all_done (HearsNext g.W.Wire.sends g.W.Wire.polls c.args.now) 64 c.loop-heard.heard a c.loop-heard.left reached),
    )
