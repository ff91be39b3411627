use Rattle.zirmegat.proofs.Calling.{session_lent}
use Rattle.zirmegat.proofs.session_calls.zmg_session_give_up.Goals as goal

pub returns-in-Some : goal.returns-in-Some
returns-in-Some c =
    session_lent c.args.session.now c.in-Some.held.now c.give_up.new.self _ _ c.in-Some.ensures.value
    (c.give_up.result, c.done_code.ensures, c.give_up.ensures)
