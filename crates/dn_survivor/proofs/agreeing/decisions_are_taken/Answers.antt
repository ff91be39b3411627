use Rattle.dn_survivor.proofs.Heard.{given_up_taken, reported_taken}
use Rattle.dn_survivor.proofs.agreeing.decisions_are_taken.Goals as goal

pub returns-clause-gave_up : goal.returns-clause-gave_up
returns-clause-gave_up c marking limits settings session here player other new reason game mine =
    given_up_taken marking limits settings session game here mine player other new reason

pub returns-clause-reported : goal.returns-clause-reported
returns-clause-reported c marking limits settings session which other given new reason game at =
    reported_taken marking limits settings session game which given at new other reason
