use Rattle.std.proofs.Common.{◌≢◌, arith}
use Rattle.dn_machine.specs.declared.answers.Heard.{Heard}
use Rattle.dn_lockstep.specs.Contents as lockstep
use Rattle.dn_node.specs.Contents.{contents, with_world}
use Rattle.dn_node.proofs.{Stepping.beside_same, Hearing.{HasHeard, heard_any, heard_near}, node.Node.receive.Given.Over}
use Rattle.dn_node.proofs.node.Node.receive.Goals.{After-begin, After-receive-heard}
use Rattle.dn_node.proofs.node.Node.receive.Goals as goal

-- who has started has begun its world
started : (g : Over) (c : After-begin g)
    → HasHeard g.W.World.state g.W.World.physics (with_world (lockstep.contents c.self.inside.lockstep)
    c.self.inside.world) (contents c.begin.new.self)
    (lockstep.contents c.receive-heard.new.self) c.receive-heard.result
started g c = grind arith

pub returns-in-Started-clause-any : goal.returns-in-Started-clause-any
returns-in-Started-clause-any g c =
    rw (← c.self.view_is) (heard_any (started g (goal.at.returns-in-Started-clause-any g c).After-begin)
    c.receive-heard.ensures.any)

pub returns-in-Started-clause-near : goal.returns-in-Started-clause-near
returns-in-Started-clause-near g c =
    rw (← c.self.view_is) (heard_near (started g (goal.at.returns-in-Started-clause-near g c).After-begin)
    c.receive-heard.ensures.near)

-- who has not has the world that it had
went_on : (g : Over) (c : After-receive-heard g) → c.receive-heard.result ≢ Heard.Started
    → HasHeard g.W.World.state g.W.World.physics (with_world (lockstep.contents c.self.inside.lockstep)
    c.self.inside.world)
    (with_world (lockstep.contents c.receive-heard.new.self) c.self.inside.world)
    (lockstep.contents c.receive-heard.new.self) c.receive-heard.result
went_on g c other = grind arith

pub returns-in_default-clause-any : goal.returns-in_default-clause-any
returns-in_default-clause-any g c =
    rw (← c.self.view_is) (heard_any (went_on g (goal.at.returns-in_default-clause-any g c).After-receive-heard
    c.in_default.not-Started)
    c.receive-heard.ensures.any)

pub returns-in_default-clause-near : goal.returns-in_default-clause-near
returns-in_default-clause-near g c =
    rw (← c.self.view_is) (heard_near (went_on g (goal.at.returns-in_default-clause-near g c).After-receive-heard
    c.in_default.not-Started)
    c.receive-heard.ensures.near)

pub returns-in_default-clause-dropped : goal.returns-in_default-clause-dropped
returns-in_default-clause-dropped g c number e =
    rw (← c.self.view_is) (beside_same _ _ c.self.inside.world (c.receive-heard.ensures.dropped number e))
