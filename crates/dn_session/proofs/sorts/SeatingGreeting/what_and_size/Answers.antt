use Rattle.dn_session.proofs.Rests.{length-seating}
use Rattle.dn_session.proofs.sorts.SeatingGreeting.what_and_size.Goals as goal

pub returns-clause-long : goal.returns-clause-long
returns-clause-long c = length-seating
