-- `held` lends what lies behind the pointer, and the handle follows it.
use Rattle.zirmegat.proofs.{HolderLends.lends, handle.Handle.held.Statement.statement}
use Rattle.zirmegat.specs.contracts.handle.Handle.held as f
use Rattle.zirmegat.proofs.handle.Handle.held.Code as code

pub held_spec : {M : Type 1} → statement M
held_spec 𝓤 𝓛 𝓜 𝓡 wired = lends 𝓤 𝓛 𝓜 𝓡 f.Key.name (code.unfolded 𝓤 𝓛.H 𝓜 𝓡 wired)
