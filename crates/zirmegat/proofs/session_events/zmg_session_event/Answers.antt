use Rattle.zirmegat.proofs.Calling.{session_lent}
use Rattle.zirmegat.proofs.session_events.zmg_session_event.Goals as goal

pub returns-in-Some-clause-told : goal.returns-in-Some-clause-told
returns-in-Some-clause-told c =
    session_lent c.args.session.now c.in-Some.held.now c.event.new.self _ _ c.in-Some.ensures.value
    (c.event.result, c.of-told.ensures, (c.event.ensures.event, c.event.ensures.rest))
