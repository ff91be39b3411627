use Rattle.dn_link.proofs.Leaving.{safe}
use Rattle.dn_link.proofs.remaining.leaving_is_safe.Goals as goal

pub returns : goal.returns
returns c = λ marking limits settings session links player other linked mine below apart free all on.
    let agree = c.survivors_agree.ensures in
    safe marking limits settings session links player other linked
    (agree.agreed marking limits settings session linked.game) (agree.fit marking limits settings session linked.game)
    mine below apart free all on
