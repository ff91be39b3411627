use Rattle.std.proofs.Common.{◌<◌, ◌≤◌, true, false, rules}
use Rattle.dn_session.specs.Session.{meeting}
use Rattle.dn_host.specs.Turns.{Gives}
use Rattle.dn_host.proofs.Turned.{all_done, done_again, not_done}
use Rattle.dn_host.proofs.game.Game.give_all.Goals as goal

pub loop-given-init : goal.loop-given-init
loop-given-init c = λ b m all rest. rest

pub loop-given-preserved : goal.loop-given-preserved
loop-given-preserved c =
    let below : c.loop-given.given < 32 = search rules in
    λ b m all rest. c.loop-given.invariant b m all
    (done_again (Gives c.args.now) 32 c.loop-given.given c.loop-given.self (meeting c.loop-given.session) c.give-was_due.result c.note.new.self
    (meeting c.give-was_due.new.session) below c.if-not-was_due.false
    (c.give-was_due.new.self, c.give-was_due.ensures.gives, c.give-was_due.ensures.due, c.give-was_due.ensures.rest, c.note.ensures) b m all rest)

pub returns-then-not-was_due : goal.returns-then-not-was_due
returns-then-not-was_due c =
    let below : c.loop-given.given < 32 = search rules in (
      false,
      c.loop-given.invariant c.note.new.self (meeting c.give-was_due.new.session) false
          (not_done (Gives c.args.now) 32 c.loop-given.given c.loop-given.self (meeting c.loop-given.session) c.give-was_due.result c.note.new.self
          (meeting c.give-was_due.new.session) below c.if-not-was_due.true
          (c.give-was_due.new.self, c.give-was_due.ensures.gives, c.give-was_due.ensures.due, c.give-was_due.ensures.rest, c.note.ensures)),
    )

pub returns : goal.returns
returns c =
    let reached : 32 ≤ c.loop-given.given = search rules in (
      true,
      c.loop-given.invariant c.loop-given.self (meeting c.loop-given.session) true
          (all_done (Gives c.args.now) 32 c.loop-given.given c.loop-given.self (meeting c.loop-given.session) reached),
    )
