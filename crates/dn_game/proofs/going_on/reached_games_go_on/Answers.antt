use Rattle.std.proofs.Common.{◌≡◌, ◌+◌, ℕ, subst, arith}
use Rattle.dn_machine.specs.Worlds.{rules_of}
use Rattle.dn_game.specs.GoingOn.{HasRoom}
use Rattle.dn_game.proofs.Continuing.{continues, gone_on}
use Rattle.dn_game.proofs.going_on.reached_games_go_on.Goals as goal

pub returns-clause-fourteen : goal.returns-clause-fourteen
returns-clause-fourteen g c players extra capacity settings events contents later reached several keys shown
    none tics room all =
    let same : tics + 6 ≡ tics + 1 + 5 = omega arith in
    continues _ (rules_of g.W.World.physics players extra capacity) settings events contents later reached
    several keys 14 shown
    none tics 1 (omega arith) (subst (λ (most : ℕ). HasRoom capacity contents tics most) same room) all

pub returns-clause-goes_on : goal.returns-clause-goes_on
returns-clause-goes_on g c players extra capacity settings events =
    continues _ (rules_of g.W.World.physics players extra capacity) settings events

pub returns-clause-gone_on : goal.returns-clause-gone_on
returns-clause-gone_on g c players extra capacity settings =
    gone_on _ (rules_of g.W.World.physics players extra capacity) settings
