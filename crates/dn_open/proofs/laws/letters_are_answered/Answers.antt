use Rattle.dn_open.proofs.Keeping.{letters_answered, letters_answered_once}
use Rattle.dn_open.proofs.laws.letters_are_answered.Goals as goal

pub returns-clause-answered : goal.returns-clause-answered
returns-clause-answered c = letters_answered

pub returns-clause-only : goal.returns-clause-only
returns-clause-only c = letters_answered_once
