use Rattle.std.proofs.Common.{◌≡◌, sym, subst}
use Rattle.dn_tic.specs.declared.input.Input.{Input}
use Rattle.dn_machine.specs.{declared.answers.Made.Made, Sending.on_build}
use Rattle.dn_node.specs.{Contents.contents, Steps.Steps}
use Rattle.dn_netgame.proofs.turns.make.Goals as goal

pub returns-in-Pressed : goal.returns-in-Pressed
returns-in-Pressed g c =
    let P : Input → Type 0 = λ i. Steps g.W.World.state g.W.World.physics (contents c.args.node.now)
    (contents c.build.new.self) (λ rules me m. on_build rules.limits me m i) (λ (made : Made). c.build.result ≡ made) in
    subst P (sym c.in-Pressed.is) c.build.ensures.step

pub returns-in-Given : goal.returns-in-Given
returns-in-Given g c =
    let P : Input → Type 0 = λ i. Steps g.W.World.state g.W.World.physics (contents c.args.node.now)
    (contents c.give.new.self) (λ rules me m. on_build rules.limits me m i) (λ (made : Made). c.give.result ≡ made) in
    subst P (sym c.in-Given.is) c.give.ensures.step
