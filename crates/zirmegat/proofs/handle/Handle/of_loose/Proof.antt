-- `of_loose` keeps the pointer with what it owns.
use Rattle.zirmegat.proofs.{Holders.handle_holder, HolderFunctions.makes_of_loose, handle.Handle.of_loose.Statement.statement}
use Rattle.zirmegat.specs.contracts.handle.Handle.of_loose as f
use Rattle.zirmegat.proofs.handle.Handle.of_loose.Code as code

pub of_loose_spec : {M : Type 1} → statement M
of_loose_spec 𝓤 𝓛 𝓜 𝓡 wired =
    makes_of_loose 𝓤 𝓛 𝓜 𝓡 handle_holder f.Key.name (code.unfolded 𝓤 𝓛.H 𝓜 𝓡 wired)
