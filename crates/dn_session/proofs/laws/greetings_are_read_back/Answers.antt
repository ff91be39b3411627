use Rattle.std.proofs.Common.{refl}
use Rattle.dn_session.proofs.laws.greetings_are_read_back.Goals as goal

pub returns-clause-calls : goal.returns-clause-calls
returns-clause-calls c = λ seal call is. (is, refl)

pub returns-clause-seatings : goal.returns-clause-seatings
returns-clause-seatings c = λ seal s is. (is, refl)

pub returns-clause-refusals : goal.returns-clause-refusals
returns-clause-refusals c = λ seal refused is. (is, refl)

pub returns-clause-hints : goal.returns-clause-hints
returns-clause-hints c = λ hinted is. (is, refl)
