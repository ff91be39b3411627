use Rattle.dn_survivor.proofs.Heard.{not_excluded, packets_dropped, proper, reports_dropped}
use Rattle.dn_survivor.proofs.agreeing.given_reports_are_heard.Goals as goal

pub returns-clause-not_excluded : goal.returns-clause-not_excluded
returns-clause-not_excluded c marking limits settings session which given new game at =
    not_excluded marking limits settings session game which given at new

pub returns-clause-proper : goal.returns-clause-proper
returns-clause-proper c marking limits settings session which given new game at =
    proper marking limits settings session game which given at new

pub returns-clause-dropped : goal.returns-clause-dropped
returns-clause-dropped c marking limits settings session which number given new game at =
    reports_dropped marking limits settings session game which given at new number

pub returns-clause-packets : goal.returns-clause-packets
returns-clause-packets c marking limits settings session which number packet new game at near free by =
    packets_dropped marking limits settings session game which packet at new near free number by
