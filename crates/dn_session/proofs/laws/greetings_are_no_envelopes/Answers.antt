use Rattle.std.proofs.Common.{ℕ, List, ap, ◌≡◌}
use Rattle.std.specs.Prelude.{slice_index}
use Rattle.dn_session.proofs.laws.greetings_are_no_envelopes.Goals as goal

pub returns : goal.returns
returns c = λ seal what rest letter e.
    let second : 4 ≡ 1 = ap (λ (xs : List ℕ). slice_index xs 1) e in cc
