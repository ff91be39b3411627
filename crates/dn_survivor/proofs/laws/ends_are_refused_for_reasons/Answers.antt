use Rattle.dn_survivor.proofs.Refusing.{gave_up, reported}
use Rattle.dn_survivor.proofs.laws.ends_are_refused_for_reasons.Goals as goal

pub returns-clause-gave_up : goal.returns-clause-gave_up
returns-clause-gave_up c limits me old new node player other reason mine r own =
    gave_up old new player limits me node other reason mine r own

pub returns-clause-reported : goal.returns-clause-reported
returns-clause-reported c limits me old new node from other report reason mine r own =
    reported old new from report limits me node other reason mine r own
