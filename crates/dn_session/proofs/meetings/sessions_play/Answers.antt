use Rattle.std.proofs.Common.{◌≡◌, None, sym, subst, arith}
use Rattle.dn_lockstep.specs.{Opening.CanBeAhead, Opening.IsGame}
use Rattle.dn_session.specs.{Parts.limits_of, Parts.links_of, Session.config_for, Terms.IsTerms, Terms.terms_fault, declared.terms.Terms.Terms}
use Rattle.dn_session.proofs.{NewLinks.one_place, NewLinks.place_link, Rosters.fixed, Rosters.ones_game}
use Rattle.dn_session.proofs.meetings.sessions_play.Goals as goal

-- terms without a fault are of a game that a lockstep can have
can_be : (terms : Terms) → terms_fault terms ≡ None → IsGame terms.players × CanBeAhead terms.ahead
can_be terms none = grind arith

pub returns-clause-place : goal.returns-clause-place
returns-clause-place c = one_place

pub returns-clause-made : goal.returns-clause-made
returns-clause-made c = λ secret one side b here player now part fits begun plays is.
    place_link secret one side b here player part.link fits begun plays is.link

pub returns-clause-opens : goal.returns-clause-opens
returns-clause-opens c = λ marking secret one b meetings parts side begun each.
    let place = ones_game one b begun in
    let proper : IsTerms b.terms = subst IsTerms (sym place.3) (fixed one place.0 side place.1).terms in
    let can = can_be b.terms proper.fits in
    let window = c.links_have_windows.ensures (config_for b.terms) b.terms.ahead can.1 in
    record {
      parts = parts;
      are = record {
        links = c.remaining_links_start.ensures marking (limits_of b.terms) b.terms.settings (links_of parts)
            window.0 can.0 window.1 proper.settings
            (λ p low. (each p low).1.opened) (λ p low. (each p low).1.others) (λ p peer low. (each p low).1.peers peer);
        sealed = λ p low. (each p low).1.sealed;
      };
      own = λ p low. (each p low).0;
    }
