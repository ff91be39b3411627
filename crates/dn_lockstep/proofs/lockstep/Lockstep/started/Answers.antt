use Rattle.std.proofs.Common.{arith, subst}
use Rattle.dn_machine.specs.Game.{fresh}
use Rattle.dn_lockstep.specs.{Contents.contents, Opening.limits_within, Represents.Represents, declared.config.Config.Config}
use Rattle.dn_lockstep.proofs.lockstep.Lockstep.started.Goals as goal

pub returns-clause-opened : goal.returns-clause-opened
returns-clause-opened c =
    c.begin.ensures.begun (limits_within c.args.config c.args.ahead) c.args.config.me (grind arith)
    (subst (λ (x : Config). Represents (limits_within x c.args.ahead) x.me (contents c.in_ok-lockstep.lockstep)
    (fresh c.args.settings x.me)) c.keyed.ensures
    (c.in_ok-lockstep.ensures.opened c.args.settings (λ first. grind arith)))
