use Rattle.dn_session.proofs.{Hints.one_hint, Readings.one_call, Readings.one_refusal, Readings.one_seating}
use Rattle.dn_session.proofs.laws.one_greeting.Goals as goal

pub returns-clause-calls : goal.returns-clause-calls
returns-clause-calls c = one_call

pub returns-clause-seatings : goal.returns-clause-seatings
returns-clause-seatings c = one_seating

pub returns-clause-refusals : goal.returns-clause-refusals
returns-clause-refusals c = one_refusal

pub returns-clause-hints : goal.returns-clause-hints
returns-clause-hints c = one_hint
