-- `into_loose` hands over what a handle owns.
use Rattle.zirmegat.proofs.{HolderFunctions.makes_into_loose, handle.Handle.into_loose.Statement.statement}
use Rattle.zirmegat.specs.contracts.handle.Handle.into_loose as f
use Rattle.zirmegat.proofs.handle.Handle.into_loose.Code as code

pub into_loose_spec : {M : Type 1} → statement M
into_loose_spec 𝓤 𝓛 𝓜 𝓡 wired = makes_into_loose 𝓤 𝓛 𝓜 𝓡 f.Key.name (code.unfolded 𝓤 𝓛.H 𝓜 𝓡 wired)
