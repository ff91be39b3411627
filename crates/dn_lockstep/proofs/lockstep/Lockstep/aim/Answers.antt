use Rattle.std.proofs.Common.{refl, ap, arith, Some}
use Rattle.dn_lockstep.proofs.Giving.{to_itself, to_nobody, aimed, aimed_in, aim_of_set_up}
use Rattle.dn_lockstep.proofs.lockstep.Lockstep.aim.Goals.{then-to-self-via-then-to-self}
use Rattle.dn_lockstep.proofs.lockstep.Lockstep.aim.Goals as goal

pub returns-then-to-self-clause-told : goal.returns-then-to-self-clause-told
returns-then-to-self-clause-told c limits me m r =
    grind (arith, then-to-self-via-then-to-self, aimed, to_itself, to_nobody)

pub returns-in-Listening-clause-told : goal.returns-in-Listening-clause-told
returns-in-Listening-clause-told c limits me m r =
    aimed_in r (omega (arith, c.if-to-self-2.false)) c.if-to-self.false c.in-Listening.is refl

pub returns-in-Gathering-clause-told : goal.returns-in-Gathering-clause-told
returns-in-Gathering-clause-told c limits me m r =
    aimed_in r (omega (arith, c.if-to-self-2.false)) c.if-to-self.false c.in-Gathering.is
    (grind (arith, aim_of_set_up))

pub returns-in-Playing-clause-told : goal.returns-in-Playing-clause-told
returns-in-Playing-clause-told c limits me m r =
    aimed_in r (omega (arith, c.if-to-self-2.false)) c.if-to-self.false c.in-Playing.is
    (ap Some (c.aim_of_commands.ensures.told limits me m r))

pub returns-in-Ended-clause-told : goal.returns-in-Ended-clause-told
returns-in-Ended-clause-told c limits me m r =
    aimed_in r (omega (arith, c.if-to-self-2.false)) c.if-to-self.false c.in-Ended.is
    (c.aim_of_exit.ensures.told c.in-Ended.field-0 limits me m r)
