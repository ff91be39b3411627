use Rattle.dn_session.proofs.Probing.{no_more}
use Rattle.dn_session.proofs.laws.probes_answer_datagrams.Goals as goal

pub returns : goal.returns
returns c = no_more
