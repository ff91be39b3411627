use Rattle.std.proofs.Common.{Ok, ap, inl, subst}
use Rattle.dn_session.specs.{declared.host.HostConfig.HostConfig, Session.IsHostSession, Session.Meeting}
use Rattle.dn_host.proofs.Hosts.{host_linked, is_host, seated}
use Rattle.dn_host.proofs.host.host_game.Goals as goal

pub returns-in-Ok-clause-played : goal.returns-in-Ok-clause-played
returns-in-Ok-clause-played g c = inl (
  c.in-Some.random,
  c.draw.new.self,
  c.in-Some.ensures,
  c.in-Ok.session,
  subst (λ (config : HostConfig). IsHostSession config (Ok c.in-Ok.session)) c.hosted.ensures c.in-Ok.ensures.made,
  c.play.ensures.played,
)

pub returns-in-Ok-clause-seated : goal.returns-in-Ok-clause-seated
returns-in-Ok-clause-seated g c =
    seated g.W.Wire.sends g.W.Wire.polls g.S.Screen.shows g.S.Screen.waits g.S.Screen.misses g.Y.System.reads g.Y.System.naps c.args.plan.now
    c.in-Ok.session c.args.wire.now c.args.screen.now c.draw.new.self c.play.new.wire c.play.new.screen c.play.new.system
    c.play.result c.play.ensures.played (ap (λ (m : Meeting). is_host m.lobby) c.in-Ok.ensures.made.2)

pub returns-in-Ok-clause-linked : goal.returns-in-Ok-clause-linked
returns-in-Ok-clause-linked g c =
    host_linked g.W.Wire.sends g.W.Wire.polls g.S.Screen.shows g.S.Screen.waits g.S.Screen.misses g.Y.System.reads g.Y.System.naps c.args.plan.now
    c.in-Ok.session c.args.wire.now c.args.screen.now c.draw.new.self c.play.new.wire c.play.new.screen c.play.new.system
    c.play.result c.play.ensures.played (ap (λ (m : Meeting). is_host m.lobby) c.in-Ok.ensures.made.2)
