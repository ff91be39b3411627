use Rattle.std.proofs.Common.{subst}
use Rattle.dn_session.specs.{Joining.is_heard, Joining.joining, Roster.IsSide}
use Rattle.dn_session.proofs.Joiners.{deaf_fits}
use Rattle.dn_session.proofs.side.Side.hear.Goals as goal

pub returns-in-Joiner-clause-fits : goal.returns-in-Joiner-clause-fits
returns-in-Joiner-clause-fits c = λ fits. deaf_fits (is_heard c.args.from.now (joining c.in-Joiner.joiner))
    c.args.bytes.now c.args.now (joining c.in-Joiner.joiner) (joining c.hear.new.self) c.hear.ensures.hears c.hear.ensures.deaf
    (subst IsSide c.in-Joiner.is fits)
