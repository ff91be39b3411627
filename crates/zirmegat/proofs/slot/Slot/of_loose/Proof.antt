-- `of_loose` keeps the pointer with what it owns.
use Rattle.zirmegat.proofs.{Holders.slot_holder, HolderFunctions.makes_of_loose, slot.Slot.of_loose.Statement.statement}
use Rattle.zirmegat.specs.contracts.slot.Slot.of_loose as f
use Rattle.zirmegat.proofs.slot.Slot.of_loose.Code as code

pub of_loose_spec : {M : Type 1} → statement M
of_loose_spec 𝓤 𝓛 𝓜 𝓡 wired =
    makes_of_loose 𝓤 𝓛 𝓜 𝓡 slot_holder f.Key.name (code.unfolded 𝓤 𝓛.H 𝓜 𝓡 wired)
