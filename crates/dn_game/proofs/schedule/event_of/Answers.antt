use Rattle.std.proofs.Common.{◌∙◌}
use Rattle.dn_game.proofs.GoingRound.{chooses}
use Rattle.dn_game.proofs.schedule.event_of.Goals as goal

pub returns-then-kind-lt14-clause-told : goal.returns-then-kind-lt14-clause-told
returns-then-kind-lt14-clause-told g c players extra capacity m r =
    c.delivery_or_run.ensures.told players extra capacity m r
    ∙ chooses players m c.args.a c.args.c c.args.node c.if-kind-lt5.false c.if-kind-lt9.false
    c.if-kind-lt14.true
