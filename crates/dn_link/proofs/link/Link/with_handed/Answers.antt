use Rattle.std.proofs.Common.{sym, subst, Bool}
use Rattle.dn_link.specs.{Linking.linked, Surviving.HasTwoBehind}
use Rattle.dn_link.proofs.link.Link.with_handed.Goals as goal

pub returns-then-brief-clause-behind : goal.returns-then-brief-clause-behind
returns-then-brief-clause-behind c =
    subst (λ (b : Bool). HasTwoBehind (linked c.args.self.now) c.args.to b c.args.own.items c.with_newest.result.items)
    (sym c.if-brief.true) c.with_newest.ensures.behind

pub returns-else-brief-clause-behind : goal.returns-else-brief-clause-behind
returns-else-brief-clause-behind c =
    subst (λ (b : Bool). HasTwoBehind (linked c.args.self.now) c.args.to b c.args.own.items c.with_thirds.result.items)
    (sym c.if-brief.false) c.with_thirds.ensures.behind
