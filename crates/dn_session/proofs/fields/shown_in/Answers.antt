use Rattle.std.proofs.Common.{◌≡◌, ap, ◌∙◌, rules}
use Rattle.dn_session.proofs.{Rests.shown_back, Told.told_shown}
use Rattle.dn_session.proofs.fields.shown_in.Goals as goal

pub returns-clause-only : goal.returns-clause-only
returns-clause-only c = λ seat is e.
    let same : told_shown c.args.bytes.now ≡ seat = ap told_shown e ∙ shown_back seat is in search rules
