-- Commands agree where lists are handed on.
use Rattle.dn_remain.proofs.Vanished.Handing.{same_commands}
use Rattle.dn_remain.proofs.vanish.commands.commands_agree.Goals as goal

pub returns : goal.returns
returns g c players ahead history x z p tic u v h run l m i n w y f k a b =
    same_commands players ahead history h run x z p tic u v l m i n w y f k a b
