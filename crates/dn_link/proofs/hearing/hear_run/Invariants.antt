use Rattle.dn_lockstep.specs.Contents.{contents}
use Rattle.dn_link.proofs.Hearings.{InRun}
use Rattle.dn_link.proofs.hearing.hear_run.Given as goal

abbrev pub invariant-commands : goal.invariant-commands
invariant-commands l =
    InRun l.fn.from l.run (contents l.fn.lockstep) l.done l.start l.rest (contents l.lockstep)
