use Rattle.std.proofs.Common.{ap, subst, ◌∙◌, Bool}
use Rattle.dn_session.specs.{Ending.waits, Playing.Playing, Playing.TicksWhen, Playing.playing, Ticks.is_due, declared.ending.Progress.Progress}
use Rattle.dn_session.proofs.part.Part.wait.Goals as goal

pub returns : goal.returns
returns c = (
  playing c.tick_if_due.new.self,
  subst (λ (p : Playing). TicksWhen (is_due c.args.now p.ticks) c.args.now p (playing c.tick_if_due.new.self))
      c.look.ensures c.tick_if_due.ensures,
  ap (λ (p : Progress). record (playing c.tick_if_due.new.self) { progress = p })
      (c.waits-self.ensures ∙ ap (λ (free : Bool). waits free c.args.ending c.args.since c.args.free c.args.now) c.is_unneeded.ensures),
)
