-- `none` owns nothing.
use Rattle.zirmegat.proofs.{HolderFunctions.makes_none, slot.Slot.none.Statement.statement}
use Rattle.zirmegat.specs.contracts.slot.Slot.none as f
use Rattle.zirmegat.proofs.slot.Slot.none.Code as code

pub none_spec : {M : Type 1} → statement M
none_spec 𝓤 𝓛 𝓜 𝓡 wired = makes_none 𝓤 𝓛 𝓜 𝓡 f.Key.name (code.unfolded 𝓤 𝓛.H 𝓜 𝓡 wired)
