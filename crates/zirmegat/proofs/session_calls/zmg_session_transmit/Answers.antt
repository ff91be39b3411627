use Rattle.std.specs.Option.{option_map}
use Rattle.dn_session.specs.Passing.{sent_of}
use Rattle.zirmegat.proofs.Calling.{session_lent}
use Rattle.zirmegat.proofs.session_calls.zmg_session_transmit.Goals as goal

pub returns-in-Some-clause-sends : goal.returns-in-Some-clause-sends
returns-in-Some-clause-sends c room =
    session_lent c.args.session.now c.in-Some.held.now c.transmit.new.self _ _ c.in-Some.ensures.value
    (option_map sent_of c.transmit.result, c.transmit.ensures, c.put_sent.ensures)
