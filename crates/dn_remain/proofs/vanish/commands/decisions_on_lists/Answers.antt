-- Decisions on lists.
use Rattle.dn_remain.proofs.{Vanished.Lists.counts}
use Rattle.dn_remain.proofs.vanish.commands.decisions_on_lists.Goals as goal

pub returns-clause-counted : goal.returns-clause-counted
returns-clause-counted g c players q holder heard = counts players q holder heard
