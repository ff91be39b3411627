use Rattle.std.proofs.Common.{◌≡◌, ◌∷◌, [], List, ℕ, ap, sym, ◌∙◌, rules}
use Rattle.std.specs.Prelude.{slice_index}
use Rattle.dn_session.proofs.{Rests.refused_back, Rests.refused_reason, Told.told_refused}
use Rattle.dn_session.proofs.sorts.refused_in.Goals as goal

pub returns : goal.returns
returns c = λ r is e.
    let why : c.reason_in.result ≡ r.refusal = c.reason_in.ensures r.refusal
    (refused_reason r is ∙ ap (λ (b : List ℕ). slice_index b 36 ∷ slice_index b 37 ∷ []) (sym e)) in
    let same : told_refused c.args.bytes.now ≡ r = ap told_refused e ∙ refused_back r is in search rules
