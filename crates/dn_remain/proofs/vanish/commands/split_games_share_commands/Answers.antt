-- What two nodes have of a player in a tic.
use Rattle.dn_remain.proofs.Vanished.Handing.{row_held, shared}
use Rattle.dn_remain.proofs.vanish.commands.split_games_share_commands.Goals as goal

pub returns : goal.returns
returns g c players ahead history x z p tic u v h run l w y i j s t =
    let a = shared players ahead history h run x z p tic u v l w y i j s t in
    (a.0, row_held players ahead history h run z p tic v l y j t, a.1)
