use Rattle.std.proofs.Common.{◌≡◌, ◌-◌, ℕ, Option, refl, ap, sym, ◌∙◌, arith, ◌⊎◌, option_map}
use Rattle.dn_setup.specs.Settings.{bit}
use Rattle.dn_machine.specs.Node as machine
use Rattle.dn_machine.specs.{Limits.Limits, declared.answers.{Cause.Cause, Phase.{Phase, TheVariants.{Playing, Ended}}}}
use Rattle.dn_machine.specs.{declared.peer.Peer.Peer, Sending.{lag, last_sent, after_sent}, Flight.Flight}
use Rattle.dn_lockstep.specs.{Sent.{after_giving, aim_of}, Tables.{ring_at, peer_at}}
use Rattle.dn_lockstep.proofs.{Giving.{own_aim, last_is, sends_in}, After.{along, becomes}, Shown.{made_is, below}}
use Rattle.dn_lockstep.proofs.Changing.{AreKept, same_end, gone_still, stays_gone, resends_low, shows_peer}
use Rattle.dn_lockstep.proofs.lockstep.Lockstep.note_sent.Goals.{After-resend_from}
use Rattle.dn_lockstep.proofs.lockstep.Lockstep.note_sent.Goals as goal

-- a node that plays or has ended keeps from where on it sends next
gives : (limits : Limits) (me : ℕ) (m : machine.Node) (to : ℕ) (phase : Phase)
    → (phase ≡ Playing) ⊎ ((cause : Cause) × (phase ≡ Ended cause))
    → after_giving limits me m to phase ≡ after_sent limits me m to
gives limits me m to phase stage = grind arith

pub returns-in-Playing-clause-step : goal.returns-in-Playing-clause-step
returns-in-Playing-clause-step c = becomes refl (λ limits me m r.
    let n = c.args.self.now in
    let kept = r.peers.known c.args.to (below _ me _ m r c.args.to c.requires.peer.below) in
    let made = made_is _ me _ m r n.me_below in
    let reached = c.requires.reach.low in
    let own = own_aim limits me m c.args.to c.args.aim.now n.phase c.in-Playing.is
    (c.requires.aimed limits me m r ∙ ap (λ (x : machine.Node × Option Flight). option_map aim_of x.1)
    (sends_in limits me _ m c.args.to n.phase r c.requires.peer.below c.requires.peer.other refl)) in
    let end = last_is limits me m c.args.to c.args.aim.now own.0 own.1 (omega arith) own.2 in
    let lags : c.lag.result ≡ lag limits = c.lag.ensures ∙ ap bit r.whose.extra in
    let tic : c.saturating_sub-resend.result ≡ last_sent limits me m c.args.to - lag limits = grind arith in
    let peer = c.resend_from.ensures.put ∙ ap (λ (x : Peer). record x { resend = c.saturating_sub-resend.result })
    kept in
    let step = ap (after_giving limits me m c.args.to) (sym r.stands.phase)
    ∙ gives limits me m c.args.to n.phase c.in-Playing.is
    ∙ ap (λ (k : ℕ). machine.with_peer m c.args.to (record (m.peers c.args.to) { resend = k })) (sym tic) in
    along step (shows_peer r c.args.to _ refl peer c.resend_from.ensures.others))

-- nothing but where its resends start is kept otherwise
kept : (c : After-resend_from) → AreKept (peer_at c.args.self.now.peers) (peer_at c.resend_from.new.self) c.args.to
    (ring_at c.args.self.now.rings c.args.self.now.me).count
kept c = grind (arith, c.requires.reach.low, c.resend_from.ensures.put, c.saturating_sub-resend.ensures)

pub invariant_of-self-clause-endless : goal.invariant_of-self-clause-endless
invariant_of-self-clause-endless c = grind (arith, same_end, c.args.self.now.endless)

pub invariant_of-self-clause-gone : goal.invariant_of-self-clause-gone
invariant_of-self-clause-gone c plays closed =
    gone_still (kept (goal.at.invariant_of-self-clause-gone c).After-resend_from) _ _
    (c.args.self.now.gone plays closed)

pub invariant_of-self-clause-reached : goal.invariant_of-self-clause-reached
invariant_of-self-clause-reached c p below h =
    c.args.self.now.reached p below
    (stays_gone (kept (goal.at.invariant_of-self-clause-reached c).After-resend_from) _ p h)

pub invariant_of-self-clause-resends : goal.invariant_of-self-clause-resends
invariant_of-self-clause-resends c =
    resends_low (kept (goal.at.invariant_of-self-clause-resends c).After-resend_from) refl _ c.args.self.now.resends
