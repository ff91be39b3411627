use Rattle.std.proofs.Common.{◌∙◌, ap, refl, sym}
use mathlib.Core.Logic.{inr}
use Rattle.zirmegat.specs.{Lends.holding, Kinds.link_in}
use Rattle.zirmegat.proofs.OfKinds.{no_link}
use Rattle.zirmegat.proofs.handle.Handle.link.Goals as goal

pub returns-in_default : goal.returns-in_default
returns-in_default c =
    let same = c.held.ensures.value in (
      ap (λ held. inr (holding c.args.self.now held)) same,
      record { writes_back = tt; value = ap link_in (sym same) ∙ no_link _ c.in_default.not-Link },
    )

pub returns-in-Link : goal.returns-in-Link
returns-in-Link c =
    let value = ap link_in (sym c.held.ensures.value ∙ c.in-Link.is) in
    rw c.in-Link.is (refl, record { writes_back = tt; value = value })
