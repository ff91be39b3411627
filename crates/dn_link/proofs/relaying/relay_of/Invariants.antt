use Rattle.dn_lockstep.specs.Contents.{contents}
use Rattle.dn_link.proofs.Handing.{SoFar}
use Rattle.dn_link.proofs.relaying.relay_of.Given as goal

abbrev pub invariant-commands : goal.invariant-commands
invariant-commands l = SoFar (contents l.lockstep) l.fn.player l.fn.start l.done l.commands.items
