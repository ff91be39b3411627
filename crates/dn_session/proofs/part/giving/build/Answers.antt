use Rattle.std.proofs.Common.{subst, sym}
use Rattle.dn_tic.specs.declared.input.Input.{Input}
use Rattle.dn_session.specs.Playing.{Builds}
use Rattle.dn_session.proofs.part.giving.build.Goals as goal

pub returns-in-Pressed : goal.returns-in-Pressed
returns-in-Pressed c = subst (λ (input : Input). Builds input c.args.link.now c.build.new.self c.build.result) (sym c.in-Pressed.is) (
  c.build.ensures.seal,
  (c.build.ensures.step, c.build.ensures.pace),
  c.build.ensures.others,
  c.build.ensures.peers,
)

pub returns-in-Given : goal.returns-in-Given
returns-in-Given c = subst (λ (input : Input). Builds input c.args.link.now c.give.new.self c.give.result) (sym c.in-Given.is) (
  c.give.ensures.seal,
  (c.give.ensures.step, c.give.ensures.pace),
  c.give.ensures.others,
  c.give.ensures.peers,
)
