use Rattle.std.proofs.Common.{sym, ◌∙◌, inl}
use Rattle.dn_session.proofs.Hints.{one_hint}
use Rattle.dn_session.proofs.reading.read_hinted.Goals as goal

pub returns-in-Some-clause-only : goal.returns-in-Some-clause-only
returns-in-Some-clause-only c = λ read. one_hint _ _ read (inl (sym c.hint_fault.ensures.first ∙ c.in-Some.is))
