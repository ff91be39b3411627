use Rattle.std.proofs.Common.{arith, length-take}
use Rattle.dn_lockstep.proofs.{After.steps, Giving.{no_flight, some_given}}
use Rattle.dn_lockstep.proofs.lockstep.Lockstep.packet.Goals as goal

pub returns-in_default-clause-step : goal.returns-in_default-clause-step
returns-in_default-clause-step c = grind (arith, steps, no_flight)

pub returns-clause-step : goal.returns-clause-step
returns-clause-step c = grind (arith, length-take, steps, some_given)
