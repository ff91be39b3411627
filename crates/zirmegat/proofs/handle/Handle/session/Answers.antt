use Rattle.std.proofs.Common.{◌∙◌, ap, refl, sym}
use mathlib.Core.Logic.{inr}
use Rattle.zirmegat.specs.{Lends.holding, Kinds.session_in}
use Rattle.zirmegat.proofs.OfKinds.{no_session}
use Rattle.zirmegat.proofs.handle.Handle.session.Goals as goal

pub returns-in_default : goal.returns-in_default
returns-in_default c =
    let same = c.held.ensures.value in (
      ap (λ held. inr (holding c.args.self.now held)) same,
      record { writes_back = tt; value = ap session_in (sym same) ∙ no_session _ c.in_default.not-Session },
    )

pub returns-in-Session : goal.returns-in-Session
returns-in-Session c =
    let value = ap session_in (sym c.held.ensures.value ∙ c.in-Session.is) in
    rw c.in-Session.is (refl, record { writes_back = tt; value = value })
