use Rattle.zirmegat.proofs.Calling.{session_lent}
use Rattle.zirmegat.proofs.session_run.zmg_session_run.Goals as goal

pub returns-in-Some : goal.returns-in-Some
returns-in-Some c =
    session_lent c.args.session.now c.in-Some.held.now c.run_when_due.new.held _ _ c.in-Some.ensures.value
    (c.run_when_due.ensures)
