use Rattle.std.proofs.Common.{ap, subst, sym, ◌∙◌, Option, List, ℕ}
use Rattle.dn_session.specs.{Joining.joining, Roster.IsJoining, Session.reply_to}
use Rattle.dn_session.proofs.Joiners.{timed_fits}
use Rattle.dn_session.proofs.side.joiner_polls.Goals as goal

pub returns-clause-joiner : goal.returns-clause-joiner
returns-clause-joiner c = c.poll-call.ensures.joiner

pub returns-clause-call : goal.returns-clause-call
returns-clause-call c = c.addressed.ensures
    ∙ ap (λ (call : Option (List ℕ)). reply_to (joining c.args.joiner.now).config.host call) c.poll-call.ensures.call

pub returns-clause-fits : goal.returns-clause-fits
returns-clause-fits c = λ fits. subst IsJoining (sym c.poll-call.ensures.joiner) (timed_fits c.args.now (joining c.args.joiner.now) fits)
