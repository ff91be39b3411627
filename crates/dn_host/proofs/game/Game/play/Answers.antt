use Rattle.dn_session.specs.Session.{meeting}
use Rattle.dn_host.proofs.game.Game.play.Goals as goal

pub returns : goal.returns
returns c = (
  c.give_all.new.self,
  meeting c.give_all.new.session,
  c.give_all.ensures.0,
  c.give_all.ensures.1,
  c.run_all.new.self,
  meeting c.run_all.new.session,
  c.run_all.ensures.0,
  c.run_all.ensures.1,
  c.leave.ensures,
)
