use Rattle.std.proofs.Common.{subst}
use Rattle.dn_session.specs.{Playing.PassesTick, Playing.playing, declared.ticks.Ticks.Ticks}
use Rattle.dn_session.proofs.part.Part.give_due.Goals as goal

pub returns : goal.returns
returns c = (
  c.build.new.link,
  c.build.result,
  c.build.ensures,
  subst (λ (ticks : Ticks). PassesTick (record (playing c.args.self.now) { link = c.build.new.link; ticks = ticks })
      (playing c.pass_tick.new.self)) c.resume.ensures c.pass_tick.ensures,
)
