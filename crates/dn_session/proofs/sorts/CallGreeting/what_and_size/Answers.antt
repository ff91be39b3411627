use Rattle.dn_session.proofs.Rests.{length-call}
use Rattle.dn_session.proofs.sorts.CallGreeting.what_and_size.Goals as goal

pub returns-clause-long : goal.returns-clause-long
returns-clause-long c = length-call
