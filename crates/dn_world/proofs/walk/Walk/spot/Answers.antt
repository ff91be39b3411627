use Rattle.std.proofs.Common.{◌∙◌, arith}
use Rattle.dn_world.specs.Plane.{spot_at}
use Rattle.dn_world.proofs.{Steps.{there, absent, beyond}, walk.Walk.spot.Goals.{else-player-lt4-via-then-player-lt4+else-self-player, else-player-lt4-via-else-player-lt4}}
use Rattle.dn_world.proofs.walk.Walk.spot.Goals as goal

pub returns-then-self-player-clause-value : goal.returns-then-self-player-clause-value
returns-then-self-player-clause-value c = grind (arith, there)

pub returns-else-player-lt4-clause-value : goal.returns-else-player-lt4-clause-value
returns-else-player-lt4-clause-value c =
    let ps = c.self.inside.present in
    let ss = c.self.inside.spots in
    elim c.else-player-lt4.branch [
      | else-player-lt4-via-then-player-lt4+else-self-player w ↦
          absent ps ss c.from-player.result w.if-self-player.false
          ∙ (λ i. spot_at (c.self.view_is i) (c.from-player.ensures i))
      | else-player-lt4-via-else-player-lt4 w ↦
          beyond ps ss c.from-player.result (omega (arith, c.self.told, w.if-player-lt4.false))
          ∙ (λ i. spot_at (c.self.view_is i) (c.from-player.ensures i))
    ]
