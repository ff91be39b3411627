use Rattle.std.proofs.Common.{◌∙◌, not}
use Rattle.dn_machine.specs.Node.{lowest}
use Rattle.dn_remain.specs.Vanished.Calls.{is_heard}
use Rattle.dn_survivor.specs.OfOthers.{nodes_of, own_of}
use Rattle.dn_survivor.proofs.Lowest.{first_fails}
use Rattle.dn_survivor.proofs.survivor.Survivor.undecided.Goals as goal

pub returns : goal.returns
returns c =
    let others = c.args.self.now.others in
    first_fails c.players.result
    (is_heard c.players.result c.me.result (own_of others (λ other. 0)) (nodes_of others)) c.undecided.result
    (c.undecided.ensures.lacks (λ other. 0)) (c.undecided.ensures.none (λ other. 0))
    ∙ (λ i. lowest (c.players.ensures i)
    (λ p. not (is_heard (c.players.ensures i) (c.me.ensures i) (own_of others (λ other. 0)) (nodes_of others) p)))
