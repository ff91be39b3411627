use Rattle.std.proofs.Common.{◌<◌, ◌≤◌, true, false, rules}
use Rattle.dn_session.specs.Session.{meeting}
use Rattle.dn_host.specs.Turns.{Runs}
use Rattle.dn_host.proofs.Turned.{all_done, done_again, not_done}
use Rattle.dn_host.proofs.game.Game.run_all.Goals as goal

pub loop-ran-init : goal.loop-ran-init
loop-ran-init c = λ b m all rest. rest

pub loop-ran-preserved : goal.loop-ran-preserved
loop-ran-preserved c =
    let below : c.loop-ran.ran < 32 = search rules in
    λ b m all rest. c.loop-ran.invariant b m all
    (done_again (Runs c.args.now) 32 c.loop-ran.ran c.loop-ran.self (meeting c.loop-ran.session) c.run-has_run.result c.note.new.self
    (meeting c.run-has_run.new.session) below c.if-not-has_run.false
    (c.run-has_run.new.self, c.run-has_run.ensures.runs, c.run-has_run.ensures.rest, c.note.ensures) b m all rest)

pub returns-then-not-has_run : goal.returns-then-not-has_run
returns-then-not-has_run c =
    let below : c.loop-ran.ran < 32 = search rules in (
      false,
      c.loop-ran.invariant c.note.new.self (meeting c.run-has_run.new.session) false
          (not_done (Runs c.args.now) 32 c.loop-ran.ran c.loop-ran.self (meeting c.loop-ran.session) c.run-has_run.result c.note.new.self
          (meeting c.run-has_run.new.session) below c.if-not-has_run.true
          (c.run-has_run.new.self, c.run-has_run.ensures.runs, c.run-has_run.ensures.rest, c.note.ensures)),
    )

pub returns : goal.returns
returns c =
    let reached : 32 ≤ c.loop-ran.ran = search rules in (
      true,
      c.loop-ran.invariant c.loop-ran.self (meeting c.loop-ran.session) true
          (all_done (Runs c.args.now) 32 c.loop-ran.ran c.loop-ran.self (meeting c.loop-ran.session) reached),
    )
