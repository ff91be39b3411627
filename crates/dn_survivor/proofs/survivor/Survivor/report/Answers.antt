use Rattle.dn_survivor.proofs.survivor.Survivor.report.Goals as goal

pub returns-clause-proper : goal.returns-clause-proper
returns-clause-proper c = record { four = c.set_of.ensures.four; told = c.told.ensures.proper }
