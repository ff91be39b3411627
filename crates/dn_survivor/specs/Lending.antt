-- What a survivor ends as that lends its lockstep.
use Rattle.std.specs.Borrow.{Lends, Fml, MutBor}
use Rattle.dn_lockstep.specs.declared.lockstep.Lockstep.{Lockstep}
use Rattle.dn_lockstep.specs.contracts.lockstep.Lockstep as lockstep
use Rattle.dn_survivor.specs.declared.survivor.Survivor.{Survivor}
use Rattle.dn_survivor.specs.contracts.survivor.Survivor as survivor

-- the survivor with another lockstep
abbrev pub with_lockstep : Survivor → Lockstep → Survivor
with_lockstep s lockstep = record s { lockstep = lockstep }

-- once the borrow ends, it has the lockstep that it shows last
abbrev pub lends_lockstep : MutBor Survivor → MutBor Lockstep → Fml
lends_lockstep s r = Lends survivor.the_row lockstep.the_row s r (with_lockstep s.now)
