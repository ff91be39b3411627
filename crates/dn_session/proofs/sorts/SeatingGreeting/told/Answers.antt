use Rattle.std.proofs.Common.{◌≡◌, Some, ap, sym, ◌∙◌, rules}
use Rattle.dn_session.specs.Text.{IsSeating, seating_rest}
use Rattle.dn_session.proofs.sorts.SeatingGreeting.told.Goals.{else-fits-via-then-fits+else-eq, else-fits-via-else-fits}
use Rattle.dn_session.proofs.sorts.SeatingGreeting.told.Goals as goal

pub returns-then-eq-clause-is : goal.returns-then-eq-clause-is
returns-then-eq-clause-is c =
    let fits : IsSeating c.in_ok-seating.seating = record {
      number = search rules;
      count = search rules;
      cookie = search rules;
      host = search rules;
      name = search rules;
      seat = sym c.is_joiners_seat-fits.ensures ∙ c.if-fits.true;
      terms = search rules;
      three = search rules;
      seats = search rules;
    } in
    (fits, search rules)

pub returns-clause-only : goal.returns-clause-only
returns-clause-only c = λ s is e.
    let there : c.seating_in.result ≡ Some s = c.seating_in.ensures.only s is e in
    let same : c.in_ok-seating.seating ≡ s = search rules in
    elim c.else-fits.branch [
      | else-fits-via-then-fits+else-eq w ↦
          let written : c.args.bytes.now ≡ w.as_slice.result.now =
          e ∙ ap seating_rest (sym same) ∙ sym w.rest.ensures ∙ sym w.as_slice.ensures.value in
          search rules
      | else-fits-via-else-fits w ↦ search rules
    ]
