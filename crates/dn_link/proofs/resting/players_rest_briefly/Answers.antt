use Rattle.dn_link.proofs.Briefly.{briefly, third_is_full}
use Rattle.dn_link.proofs.resting.players_rest_briefly.Goals as goal

pub returns : goal.returns
returns c = record { rest = briefly; brief = third_is_full }
