use Rattle.std.proofs.Common.{◌≡◌, ap, ◌∙◌, rules}
use Rattle.dn_session.proofs.{Rests.call_back, Told.told_call}
use Rattle.dn_session.proofs.sorts.call_in.Goals as goal

pub returns : goal.returns
returns c = λ call is e.
    let same : told_call c.args.bytes.now ≡ call = ap told_call e ∙ call_back call is in search rules
