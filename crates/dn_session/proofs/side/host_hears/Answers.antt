use Rattle.std.specs.Option.{option_map}
use Rattle.dn_session.proofs.side.host_hears.Goals as goal

pub returns-clause-hears : goal.returns-clause-hears
returns-clause-hears c = (option_map (λ bytes. bytes.items) c.hear-reply.result, c.hear-reply.ensures.hears, c.addressed.ensures)

pub returns-clause-fits : goal.returns-clause-fits
returns-clause-fits c = c.hear-reply.ensures.fits
