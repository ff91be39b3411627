use Rattle.dn_remain.specs.Vanished.Calls.{is_heard}
use Rattle.dn_survivor.specs.OfOthers.{nodes_of, own_of}
use Rattle.dn_survivor.proofs.Lowest.{all_pass}
use Rattle.dn_survivor.proofs.others.Others.can_decide.Goals as goal

pub returns : goal.returns
returns c = λ got.
    all_pass c.args.players
    (is_heard c.args.players c.args.me (own_of c.args.self.now got) (nodes_of c.args.self.now)) c.undecided.result
    c.is_none.result (c.undecided.ensures.lacks got) (c.undecided.ensures.none got) c.is_none.ensures
