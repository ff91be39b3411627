use Rattle.std.proofs.Common.{sym, refl}
use Rattle.dn_link.specs.Text.{sealed_bytes}
use Rattle.dn_link.proofs.Wholes.{only_bundle}
use Rattle.dn_link.proofs.laws.bundles_are_read_back.Goals as goal

pub returns : goal.returns
returns c = λ sealing bundle game fits to short read is.
    sym (only_bundle sealing (sealed_bytes sealing.seal bundle) bundle
    (record { game = game; fits = fits; short = short; to = to; is = refl }) read is)
