use Rattle.dn_machine.specs.Worlds.{rules_within}
use Rattle.dn_machine.proofs.Started.{comes_there}
use Rattle.dn_machine.proofs.laws.games_start.Goals as goal

pub returns : goal.returns
returns g c limits settings two = comes_there (rules_within g.W.World.physics limits) settings two
