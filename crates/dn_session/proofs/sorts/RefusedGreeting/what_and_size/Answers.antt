use Rattle.dn_session.proofs.Rests.{length-refused}
use Rattle.dn_session.proofs.sorts.RefusedGreeting.what_and_size.Goals as goal

pub returns-clause-long : goal.returns-clause-long
returns-clause-long c = length-refused
