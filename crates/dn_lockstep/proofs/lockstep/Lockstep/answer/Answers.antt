use Rattle.std.proofs.Common.{refl, ◌≡◌, sym, ◌∙◌, arith}
use Rattle.dn_machine.specs.Hearing.{after_request}
use Rattle.dn_lockstep.specs.{Contents.contents, Tables.peer_at, Received.request_in}
use Rattle.dn_lockstep.proofs.{After.steps, Taking.{IsRead, leaver_asked}, lockstep.Lockstep.answer.Goals.After-ask}
use Rattle.dn_lockstep.proofs.Changing.{AreKept, kept_asked, same_end, gone_still, stays_gone, resends_low}
use Rattle.dn_lockstep.proofs.lockstep.Lockstep.answer.Goals as goal

-- what is kept of the peer, and of them all
asked : (c : After-ask)
    → peer_at c.ask.new.self c.args.from ≡ after_request c.args.self.now.places c.made-made.result
    (peer_at c.args.self.now.peers c.args.from) (request_in c.made-made.result c.args.packet.now)
asked c = grind arith

kept : (c : After-ask)
    → AreKept (peer_at c.args.self.now.peers) (peer_at c.ask.new.self) c.args.from c.made-made.result
kept c = grind (arith, c.made-made.ensures, c.args.self.now.resends c.args.from c.requires.peer, kept_asked)

pub invariant_of-self-clause-endless : goal.invariant_of-self-clause-endless
invariant_of-self-clause-endless c = grind (arith, same_end, kept)

pub invariant_of-self-clause-gone : goal.invariant_of-self-clause-gone
invariant_of-self-clause-gone c plays closed =
    gone_still (kept (goal.at.invariant_of-self-clause-gone c).After-ask) _ _ (c.args.self.now.gone plays closed)

pub invariant_of-self-clause-reached : goal.invariant_of-self-clause-reached
invariant_of-self-clause-reached c p below h =
    c.args.self.now.reached p below (stays_gone (kept (goal.at.invariant_of-self-clause-reached c).After-ask) _ p h)

pub invariant_of-self-clause-resends : goal.invariant_of-self-clause-resends
invariant_of-self-clause-resends c =
    resends_low (kept (goal.at.invariant_of-self-clause-resends c).After-ask) c.made-made.ensures _
    c.args.self.now.resends

-- a start that is not read
pub returns-in-Err-clause-step : goal.returns-in-Err-clause-step
returns-in-Err-clause-step c cause = grind (arith, steps)

pub returns-clause-step : goal.returns-clause-step
returns-clause-step c cause = steps refl (λ limits me m r.
    let read : IsRead (contents c.args.self.now) c.args.from c.args.packet.now c.made-made.result
    c.in_default.field-0 = grind arith in
    leaver_asked r read cause (peer_at c.ask.new.self) c.requires.played
    (sym c.has_flag.ensures ∙ c.if-has_flag.false) (asked (goal.at.returns-clause-step c).After-ask)
    c.ask.ensures.others)
