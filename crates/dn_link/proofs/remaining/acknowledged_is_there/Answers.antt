use Rattle.dn_link.proofs.Leaving.{acknowledged}
use Rattle.dn_link.proofs.remaining.acknowledged_is_there.Goals as goal

pub returns : goal.returns
returns c = λ marking limits settings session links player other linked mine below apart open_to.
    let agree = c.survivors_agree.ensures in
    acknowledged marking limits settings session links player other linked
    (agree.agreed marking limits settings session linked.game) (agree.fit marking limits settings session linked.game)
    mine below apart open_to
