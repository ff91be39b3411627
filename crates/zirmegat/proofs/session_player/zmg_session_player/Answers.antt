use Rattle.std.proofs.Common.{refl}
use Rattle.zirmegat.proofs.Calling.{session_lent}
use Rattle.zirmegat.proofs.session_player.zmg_session_player.Goals as goal

pub returns-in-Some-clause-tells : goal.returns-in-Some-clause-tells
returns-in-Some-clause-tells c room =
    session_lent c.args.session.now c.in-Some.held.now c.in-Some.held.now _ _ c.in-Some.ensures.value
    (refl, (refl, c.of.ensures))
