use Rattle.std.proofs.Common.{arith, lt-ltb}
use Rattle.dn_lockstep.proofs.{Shown.below, Keeping.get_within}
use Rattle.dn_lockstep.proofs.lockstep.Lockstep.command.Goals.{else-player-self-via-else-player-self}
use Rattle.dn_lockstep.proofs.lockstep.Lockstep.command.Goals as goal

pub returns-then-saturating_sub-self-clause-told : goal.returns-then-saturating_sub-self-clause-told
returns-then-saturating_sub-self-clause-told c limits me m r = grind (arith, below, get_within, lt-ltb)

pub returns-else-player-self-clause-next : goal.returns-else-player-self-clause-next
returns-else-player-self-clause-next c inside next there = grind (arith, else-player-self-via-else-player-self)
