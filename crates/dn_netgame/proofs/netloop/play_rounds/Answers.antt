use Rattle.std.proofs.Common.{rules}
use Rattle.dn_netgame.proofs.netloop.play_rounds.Goals as goal

pub returns-clause-rounds : goal.returns-clause-rounds
returns-clause-rounds g c = search rules
