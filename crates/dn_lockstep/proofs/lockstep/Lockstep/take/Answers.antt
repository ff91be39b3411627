use Rattle.std.proofs.Common.{◌≡◌, ◌≤◌, refl, ◌+◌, false, length, sym, ap, ◌∙◌, arith}
use Rattle.dn_ring.specs.Ring.{Ring}
use Rattle.dn_machine.specs.{Hearing.{after_request, after_exit, is_strange_end}, Running.is_over}
use Rattle.dn_lockstep.specs.{Contents.contents, Tables.{peer_at, ring_at}, Received.request_in}
use Rattle.dn_lockstep.proofs.Changing.{AreKept, kept_asked, kept_told, kept_wanted, same_end, gone_still, stays_gone}
use Rattle.dn_lockstep.proofs.{Changing.resends_low, lockstep.Lockstep.take.Goals.{After-as_slice-commands, After-tell}}
use Rattle.dn_lockstep.proofs.Taking.{rest_length, none_behind, IsRead, over_shows, odd_shows, stale_shows, gap_shows}
use Rattle.dn_lockstep.proofs.{Taking.taken_shows, Shown.{changed, still_counted}, After.steps}
use Rattle.dn_lockstep.proofs.lockstep.Lockstep.take.Goals as goal

-- what was read of the packet, after the first two tests
read : (c : After-as_slice-commands) → IsRead (contents c.args.self.now) c.args.from c.args.packet.now
    c.made-made.result c.in-Ok.start
read c = grind arith

-- what is kept of the peer, once it has asked and told its end
asked : (c : After-tell)
    → peer_at c.tell.new.self c.args.from
    ≡ after_exit (after_request c.args.self.now.places c.made-made.result (peer_at c.args.self.now.peers c.args.from)
    (request_in c.made-made.result c.args.packet.now)) c.has_flag-exit.result
    (c.in-Ok.start + length c.as_slice-commands.result.now)
asked c = grind arith

-- its end is not strange
usual : (c : After-tell)
    → is_strange_end c.has_flag-exit.result c.count-got.result (peer_at c.args.self.now.peers c.args.from).end
    (c.in-Ok.start + length c.as_slice-commands.result.now) ≡ false
usual c = grind arith

-- and what came of it reaches up to the tics that were run, unless it is gone
ahead : (c : After-tell) → is_over (peer_at c.args.self.now.peers c.args.from).end c.args.self.now.ran ≡ false
    → c.args.self.now.ran ≤ c.count-got.result
ahead c present = grind arith

-- so all peers are kept
kept : (c : After-tell)
    → AreKept (peer_at c.args.self.now.peers) (peer_at c.tell.new.self) c.args.from c.made-made.result
kept c =
    let first : AreKept (peer_at c.args.self.now.peers) (peer_at c.ask.new.self) c.args.from
    c.made-made.result = kept_asked _ c.request.result (omega arith) c.ask.ensures.put c.ask.ensures.others in
    grind (arith, kept_told)

pub returns-then-end-self-clause-step : goal.returns-then-end-self-clause-step
returns-then-end-self-clause-step c = steps refl (λ limits me m r.
    over_shows r (read (goal.at.returns-then-end-self-clause-step c).After-as_slice-commands)
    c.as_slice-commands.ensures.value c.if-end-self.true)

pub returns-then-is_strange_end-clause-step : goal.returns-then-is_strange_end-clause-step
returns-then-is_strange_end-clause-step c = steps refl (λ limits me m r.
    odd_shows r (read (goal.at.returns-then-is_strange_end-clause-step c).After-as_slice-commands)
    c.as_slice-commands.ensures.value c.if-end-self.false c.has_flag-exit.ensures c.count-got.ensures (grind arith))

-- old commands

pub invariant_of-self-clause-endless : goal.invariant_of-self-clause-endless
invariant_of-self-clause-endless c = grind (arith, kept, same_end)

pub invariant_of-self-clause-gone : goal.invariant_of-self-clause-gone
invariant_of-self-clause-gone c plays closed =
    let now = kept (goal.at.invariant_of-self-clause-gone c).After-tell in
    gone_still now _ _ (c.args.self.now.gone plays closed)

pub invariant_of-self-clause-reached : goal.invariant_of-self-clause-reached
invariant_of-self-clause-reached c p below h =
    let now = kept (goal.at.invariant_of-self-clause-reached c).After-tell in
    c.args.self.now.reached p below (stays_gone now _ p h)

pub invariant_of-self-clause-resends : goal.invariant_of-self-clause-resends
invariant_of-self-clause-resends c =
    let now = kept (goal.at.invariant_of-self-clause-resends c).After-tell in
    resends_low now c.made-made.ensures _ c.args.self.now.resends

pub returns-then-end-got-clause-step : goal.returns-then-end-got-clause-step
returns-then-end-got-clause-step c = steps refl (λ limits me m r.
    let at = goal.at.returns-then-end-got-clause-step c in
    let stale = stale_shows r (read at.After-as_slice-commands) c.as_slice-commands.ensures.value
    c.if-end-self.false c.has_flag-exit.ensures c.count-got.ensures (usual at.After-tell)
    (asked at.After-tell) (ahead at.After-tell) (peer_at c.tell.new.self) (kept at.After-tell).others
    c.if-end-got.true refl in
    record { node = stale.node; answer = c.left_or.ensures ∙ stale.answer })

-- a gap

pub invariant_of-self-then-start-got-clause-endless : goal.invariant_of-self-then-start-got-clause-endless
invariant_of-self-then-start-got-clause-endless c = grind (arith, kept, same_end, c.args.self.now.endless)

pub invariant_of-self-then-start-got-clause-gone : goal.invariant_of-self-then-start-got-clause-gone
invariant_of-self-then-start-got-clause-gone c plays closed =
    let before = kept (goal.at.invariant_of-self-then-start-got-clause-gone c).After-tell in
    gone_still (kept_wanted before _ c.want.ensures.put c.want.ensures.others) _ _
    (c.args.self.now.gone plays closed)

pub invariant_of-self-then-start-got-clause-reached : goal.invariant_of-self-then-start-got-clause-reached
invariant_of-self-then-start-got-clause-reached c p below h =
    let before = kept (goal.at.invariant_of-self-then-start-got-clause-reached c).After-tell in
    c.args.self.now.reached p below
    (stays_gone (kept_wanted before _ c.want.ensures.put c.want.ensures.others) _ p h)

pub invariant_of-self-then-start-got-clause-resends : goal.invariant_of-self-then-start-got-clause-resends
invariant_of-self-then-start-got-clause-resends c =
    let before = kept (goal.at.invariant_of-self-then-start-got-clause-resends c).After-tell in
    resends_low (kept_wanted before _ c.want.ensures.put c.want.ensures.others) c.made-made.ensures _
    c.args.self.now.resends

pub returns-then-start-got-clause-step : goal.returns-then-start-got-clause-step
returns-then-start-got-clause-step c = steps refl (λ limits me m r.
    let at = goal.at.returns-then-start-got-clause-step c in
    gap_shows r (read at.After-as_slice-commands) c.as_slice-commands.ensures.value c.if-end-self.false
    c.has_flag-exit.ensures c.count-got.ensures (usual at.After-tell) (asked at.After-tell)
    (ahead at.After-tell) (peer_at c.want.new.self)
    (λ p e. c.want.ensures.others p e ∙ (kept at.After-tell).others p e)
    c.if-end-got.false c.if-start-got.true c.want.ensures.put)

-- new commands

pub put_all-requires-clause-no_stop : goal.put_all-requires-clause-no_stop
put_all-requires-clause-no_stop c = grind (arith, none_behind)

pub invariant_of-self-2-clause-endless : goal.invariant_of-self-2-clause-endless
invariant_of-self-2-clause-endless c = grind (arith, kept, same_end, c.args.self.now.endless)

pub invariant_of-self-2-clause-gone : goal.invariant_of-self-2-clause-gone
invariant_of-self-2-clause-gone c plays closed =
    let before = kept (goal.at.invariant_of-self-2-clause-gone c).After-tell in
    gone_still (kept_wanted before _ c.want-2.ensures.put c.want-2.ensures.others) _ _
    (c.args.self.now.gone plays closed)

pub invariant_of-self-2-clause-reached : goal.invariant_of-self-2-clause-reached
invariant_of-self-2-clause-reached c p below h =
    let before = kept (goal.at.invariant_of-self-2-clause-reached c).After-tell in
    still_counted (ring_at c.args.self.now.rings) (ring_at c.put_all.new.self) c.args.from _ _
    c.put_all.ensures.count c.put_all.ensures.others p (grind (arith, c.args.self.now.reached))

pub invariant_of-self-2-clause-window : goal.invariant_of-self-2-clause-window
invariant_of-self-2-clause-window c p h =
    let old = c.args.self.now.window p h in grind (arith, changed, rest_length, kept)

pub invariant_of-self-2-clause-resends : goal.invariant_of-self-2-clause-resends
invariant_of-self-2-clause-resends c p below =
    let before = kept (goal.at.invariant_of-self-2-clause-resends c).After-tell in
    let low = resends_low (kept_wanted before _ c.want-2.ensures.put c.want-2.ensures.others)
    c.made-made.ensures _ c.args.self.now.resends p below in
    let own = ap (λ (x : Ring). x.count)
    (c.put_all.ensures.others c.args.self.now.me (λ e. c.requires.other (sym e))) in
    omega (arith, low, own)

pub returns-clause-step : goal.returns-clause-step
returns-clause-step c = steps refl (λ limits me m r.
    let at = goal.at.returns-clause-step c in
    let taken = taken_shows r (read at.After-as_slice-commands) c.as_slice-commands.ensures.value
    c.if-end-self.false c.has_flag-exit.ensures c.count-got.ensures (usual at.After-tell)
    (asked at.After-tell) (ahead at.After-tell) (peer_at c.want-2.new.self)
    (λ p e. c.want-2.ensures.others p e ∙ (kept at.After-tell).others p e) (ring_at c.put_all.new.self)
    c.if-end-got.false c.if-start-got.false c.want-2.ensures.put c.put_all.ensures.kept c.put_all.ensures.others in
    record { node = taken.node; answer = c.left_or-2.ensures ∙ taken.answer })
