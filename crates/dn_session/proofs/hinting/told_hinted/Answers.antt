use Rattle.std.proofs.Common.{◌≡◌, ap, ◌∙◌, rules}
use Rattle.dn_session.proofs.{Hints.hinted_back, Told.told_hinted}
use Rattle.dn_session.proofs.hinting.told_hinted.Goals as goal

pub returns-in_default : goal.returns-in_default
returns-in_default c = λ hinted is e.
    let same : told_hinted c.args.bytes.now ≡ hinted = ap told_hinted e ∙ hinted_back hinted is in search rules
