use Rattle.std.proofs.Common.{arith}
use Rattle.dn_lockstep.proofs.Changing.{settings_fresh, first_marks, nothing_written}
use Rattle.dn_lockstep.proofs.lockstep.Lockstep.open.Goals as goal

pub returns-clause-opened : goal.returns-clause-opened
returns-clause-opened c settings key = record {
  whose = grind arith;
  stands = grind (arith, settings_fresh);
  commands = grind arith;
  peers = grind arith;
  table = grind (arith, first_marks);
  demo = grind (arith, nothing_written);
}
