-- `into_loose` tests for null, and hands over what the pointer owns.
use Rattle.zirmegat.proofs.{SlotFunctions.into_loose, slot.Slot.into_loose.Statement.statement}
use Rattle.zirmegat.specs.contracts.slot.Slot.into_loose as f
use Rattle.zirmegat.proofs.slot.Slot.into_loose.Code as code

pub into_loose_spec : {M : Type 1} → statement M
into_loose_spec 𝓤 𝓛 𝓜 𝓡 wired = into_loose 𝓤 𝓛 𝓜 𝓡 f.Key.name (code.unfolded 𝓤 𝓛.H 𝓜 𝓡 wired)
