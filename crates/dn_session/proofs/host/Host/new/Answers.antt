use Rattle.std.proofs.Common.{rules, refl}
use Rattle.dn_session.proofs.Lobbies.{new_seats}
use Rattle.dn_session.proofs.host.Host.new.Goals as goal

pub returns-clause-fits : goal.returns-clause-fits
returns-clause-fits c = record {
  number = search rules;
  name = search rules;
  terms = record {
    fits = search rules;
    limit = search rules;
    settings = c.settings_fit.ensures;
    identity = search rules;
    own = search rules;
  };
  three = refl;
  seats = new_seats c.args.config.now.terms.players _ _ _ c.seat_for.ensures c.seat_for-2.ensures c.seat_for-3.ensures;
}
