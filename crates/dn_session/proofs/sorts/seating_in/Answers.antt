use Rattle.std.proofs.Common.{◌≡◌, ◌∷◌, [], Some, ap, sym, ◌∙◌, rules}
use Rattle.std.proofs.lemmas.Option.{same_Some}
use Rattle.std.specs.Prelude.{slice_index, ◌==◌}
use Rattle.dn_session.proofs.{Rests.seating_back, Rests.seating_seats, Rests.seating_terms, Told.told_at, Told.told_seating}
use Rattle.dn_session.proofs.sorts.seating_in.Goals as goal

pub returns-in_err-terms-clause-only : goal.returns-in_err-terms-clause-only
returns-in_err-terms-clause-only c = λ s is e.
    let there : c.terms_in.result ≡ Some s.terms =
    c.terms_in.ensures.only s.terms is.terms (ap (told_at 288 70) e ∙ seating_terms s is) in
    search rules

pub returns-clause-only : goal.returns-clause-only
returns-clause-only c = λ s is e.
    let bytes = c.args.bytes.now in
    let same : told_seating bytes ≡ s = ap told_seating e ∙ seating_back s is in
    let there : c.terms_in.result ≡ Some s.terms =
    c.terms_in.ensures.only s.terms is.terms (ap (told_at 288 70) e ∙ seating_terms s is) in
    let terms = same_Some c.in_ok-terms.terms s.terms (sym c.in_ok-terms.was ∙ there) in
    let seats : c.shown_in-one.result ∷ c.shown_in-two.result ∷ c.shown_in-three.result ∷ [] ≡ s.seats =
    seating_seats s is _ _ _
    (λ seat fits at. c.shown_in-one.ensures.only seat fits (ap (told_at 65 358) e ∙ at))
    (λ seat fits at. c.shown_in-two.ensures.only seat fits (ap (told_at 65 423) e ∙ at))
    (λ seat fits at. c.shown_in-three.ensures.only seat fits (ap (told_at 65 488) e ∙ at)) in
    ap Some ((λ i. record {
      number = c.sixteen_at.ensures i;
      count = c.tic_at.ensures i;
      cookie = c.sixteen_at-2.ensures i;
      host = c.sixteen_at-3.ensures i;
      name = c.sixteen_at-4.ensures i;
      seat = slice_index bytes 68;
      begun = slice_index bytes 69 == 1;
      terms = terms i;
      seats = seats i;
    }) ∙ (λ i. record (same i) { terms = s.terms; seats = s.seats }))
