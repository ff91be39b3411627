use Rattle.std.proofs.Common.{◌∙◌, ap, sym}
use mathlib.Core.Logic.{inr}
use Rattle.zirmegat.specs.{Lends.holding, Kinds.lockstep_in}
use Rattle.zirmegat.proofs.OfKinds.{no_lockstep}
use Rattle.zirmegat.proofs.handle.Handle.lockstep.Goals as goal

pub returns-in_default : goal.returns-in_default
returns-in_default c =
    let same = c.held.ensures.value in (
      ap (λ held. inr (holding c.args.self.now held)) same,
      record { writes_back = tt; value = ap lockstep_in (sym same) ∙ no_lockstep _ c.in_default.not-Lockstep },
    )
