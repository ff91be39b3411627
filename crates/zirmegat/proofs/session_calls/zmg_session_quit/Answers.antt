use Rattle.std.proofs.Common.{refl}
use Rattle.zirmegat.proofs.Calling.{session_lent}
use Rattle.zirmegat.proofs.session_calls.zmg_session_quit.Goals as goal

pub returns-in-Some : goal.returns-in-Some
returns-in-Some c =
    session_lent c.args.session.now c.in-Some.held.now c.quit.new.self _ _ c.in-Some.ensures.value
    (refl, c.quit.ensures)
