use Rattle.dn_survivor.proofs.Steps as steps
use Rattle.dn_survivor.proofs.Waries as waries
use Rattle.dn_survivor.proofs.laws.calls_are_wary.Goals as goal

pub returns-clause-gave_up : goal.returns-clause-gave_up
returns-clause-gave_up c limits me old new wary player answer r can =
    waries.gave_up limits me old new wary r player answer can

pub returns-clause-heard : goal.returns-clause-heard
returns-clause-heard c limits me old new wary from report told answer r player other tells can =
    waries.heard limits me old new wary r from report told answer player other tells can

pub returns-clause-ran : goal.returns-clause-ran
returns-clause-ran c limits me old new wary marks ran row r h same =
    steps.runs limits me old new wary r marks ran row h same
