use Rattle.std.proofs.Common.{◌≡◌, ◌∷◌, ◌++◌, [], List, ℕ, ap, sym, ◌∙◌, rules}
use Rattle.std.specs.Prelude.{slice_index}
use Rattle.dn_session.specs.{Terms.IsTerms, Terms.policy_bytes, Terms.terms_bytes, declared.terms.Policy.Policy, declared.terms.Terms.Terms}
use Rattle.dn_session.proofs.{Rests.policy_there, Rests.terms_back, Told.told_terms}
use Rattle.dn_session.proofs.fields.terms_in.Goals as goal

-- with the policy that two of the bytes are read as, what stands there is what was written
there : (bytes : List ℕ) (policy : Policy) (terms : Terms) → IsTerms terms → bytes ≡ terms_bytes terms
    → ((p : Policy) → policy_bytes p ≡ slice_index bytes 14 ∷ slice_index bytes 15 ∷ [] → policy ≡ p)
    → record (told_terms bytes) { policy = policy } ≡ terms
there bytes policy terms is e reads =
    let same : told_terms bytes ≡ terms = ap told_terms e ∙ terms_back terms is in
    let read : policy ≡ terms.policy = reads terms.policy (policy_there terms.policy (terms.identity ++ terms.own)
    ∙ ap (λ (b : List ℕ). slice_index b 14 ∷ slice_index b 15 ∷ []) (sym e)) in
    λ i. record (same i) { policy = read i }

pub returns-in-None-clause-only : goal.returns-in-None-clause-only
returns-in-None-clause-only c = λ terms is e.
    let same = there c.args.bytes.now c.policy_in.result terms is e c.policy_in.ensures in search rules

pub returns-in-Some-clause-only : goal.returns-in-Some-clause-only
returns-in-Some-clause-only c = λ terms is e.
    let same = there c.args.bytes.now c.policy_in.result terms is e c.policy_in.ensures in search rules
