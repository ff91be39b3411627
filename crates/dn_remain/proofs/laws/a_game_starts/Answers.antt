-- The events lead there.
use Rattle.dn_remain.proofs.Example.{starts, last, reaches, started}
use Rattle.dn_remain.proofs.laws.a_game_starts.Goals as goal

pub returns : goal.returns
returns g c settings =
    let p = g.W.World.physics in
    let k = started p settings in
    (starts, last p settings starts, reaches p settings starts, k.0, k.1, k.2, k.3)
