use Rattle.std.proofs.Common.{arith}
use Rattle.dn_machine.specs.Worlds.{rules_within}
use Rattle.dn_lockstep.proofs.Moving.{read_back}
use Rattle.dn_node.proofs.Running.{world_played, world_recorded}
use Rattle.dn_node.proofs.laws.ended_demos_replay.Goals as goal

pub returns-clause-read : goal.returns-clause-read
returns-clause-read g c limits me n m settings cause r played ended known = grind (arith, read_back)

pub returns-clause-world : goal.returns-clause-world
returns-clause-world g c limits me n m settings r played known =
    world_played _ (rules_within g.W.World.physics limits) me n m settings r played known

pub returns-clause-played : goal.returns-clause-played
returns-clause-played g c limits me n m settings r played known all =
    world_recorded _ (rules_within g.W.World.physics limits) me n m settings r played known all
