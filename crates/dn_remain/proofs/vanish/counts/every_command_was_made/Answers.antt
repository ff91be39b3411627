-- Commands are made one by one.
use Rattle.dn_remain.proofs.Vanished.Windows.{made}
use Rattle.dn_remain.proofs.vanish.counts.every_command_was_made.Goals as goal

pub returns : goal.returns
returns c players ahead history p tic run k = made players ahead history run p tic k
