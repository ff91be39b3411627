use Rattle.dn_session.specs.Session.{meeting}
use Rattle.zirmegat.proofs.Calling.{session_lent}
use Rattle.zirmegat.proofs.session_calls.zmg_session_poll.Goals as goal

pub returns-in-Some : goal.returns-in-Some
returns-in-Some c =
    session_lent c.args.session.now c.in-Some.held.now c.begin.new.self _ _ c.in-Some.ensures.value
    (meeting c.poll.new.self, c.begin.result, c.poll.ensures.passes, c.begin.ensures, c.polled_code.ensures)
