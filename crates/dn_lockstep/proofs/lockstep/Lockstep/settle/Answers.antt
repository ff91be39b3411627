use Rattle.std.proofs.Common.{◌≡◌, ◌<◌, ◌≤◌, ◌-◌, ◌++◌, false, List, length, ℕ, None, subst, refl, sym, ap, ◌∙◌, arith, inl, inr, le-ltb}
use Rattle.dn_tic.specs.declared.command.TicCmd.{TicCmd}
use Rattle.dn_ring.specs.Ring.{Ring}
use Rattle.dn_machine.specs.{declared.peer.Peer.Peer, Running.is_over}
use Rattle.dn_lockstep.specs.{Contents.contents, declared.lockstep.settling.Settled.TheVariants.Taken}
use Rattle.dn_lockstep.specs.{Tables.{peer_at, ring_at, ring_of}, Settling.{is_no_peer, is_other_end, missing}}
use Rattle.dn_lockstep.proofs.{After.steps, Shown.{changed, still_counted}, Gathering.{peer_below, peer_apart}}
use Rattle.dn_lockstep.proofs.Changing.{AreKept, same_end, gone_still, stays_gone, resends_low}
use Rattle.dn_lockstep.proofs.Wholes.{missing_length, kept_settled, past_gap, refused_by, refuses, taken_shows}
use Rattle.dn_lockstep.proofs.lockstep.Lockstep.settle.Goals.{After-want}
use Rattle.dn_lockstep.proofs.lockstep.Lockstep.settle.Goals as goal

peer : (c : After-want) → is_no_peer c.args.self.now.players c.args.self.now.me c.args.player ≡ false
peer c = sym c.is_no_peer.ensures ∙ c.if-is_no_peer.false

same : (c : After-want)
    → is_other_end c.args.self.now.ran (peer_at c.args.self.now.peers c.args.player).end c.args.end ≡ false
same c = grind arith

-- nothing refuses the end
fine : (c : After-want)
    → refused_by (contents c.args.self.now) c.args.player c.args.end c.args.first c.args.commands.now ≡ None
fine c =
    past_gap (contents c.args.self.now) c.args.player c.args.end c.args.first c.args.commands.now _ (peer c) (sym c.is_out.ensures ∙ c.if-is_out.false) c.count-got.ensures c.in-Some.ensures.gap
    c.if-end-got.false (grind arith)

-- it has as many commands more as are missing
many : (c : After-want) → length c.in-Some.new.now ≡ c.args.end - c.count-got.result
many c = grind (arith, missing_length)

mine : (c : After-want) → c.args.player < c.args.self.now.players
mine c = peer_below c.args.self.now.players c.args.self.now.me c.args.player (peer c)

-- what came of the player reaches up to the tics that were run, unless it is gone
ahead : (c : After-want) → is_over (peer_at c.args.self.now.peers c.args.player).end c.args.self.now.ran ≡ false
    → c.args.self.now.ran ≤ c.count-got.result
ahead c present = grind (arith, mine)

-- so all peers are kept
kept : (c : After-want) → AreKept (peer_at c.args.self.now.peers) (peer_at c.want.new.self) c.args.player
    (ring_at c.args.self.now.rings c.args.self.now.me).count
kept c =
    kept_settled c.args.self.now.ran c.args.end (c.args.self.now.resends c.args.player (mine c)) (same c)
    (c.want.ensures.put ∙ ap (λ (x : Peer). record x { want = false }) c.tell.ensures.put)
    (λ p other. c.want.ensures.others p other ∙ c.tell.ensures.others p other)

-- each refusal

pub returns-then-is_no_peer-clause-step : goal.returns-then-is_no_peer-clause-step
returns-then-is_no_peer-clause-step c = refuses _ _ _ _ _ _ (grind arith)

pub returns-then-is_out-clause-step : goal.returns-then-is_out-clause-step
returns-then-is_out-clause-step c = refuses _ _ _ _ _ _ (grind arith)

pub returns-in_default-clause-step : goal.returns-in_default-clause-step
returns-in_default-clause-step c = refuses _ _ _ _ _ _ (grind arith)

pub returns-then-end-got-clause-step : goal.returns-then-end-got-clause-step
returns-then-end-got-clause-step c = refuses _ _ _ _ _ _ (rw (
  sym c.is_no_peer.ensures ∙ c.if-is_no_peer.false,
  sym c.is_out.ensures ∙ c.if-is_out.false,
  rw c.count-got.ensures at c.in-Some.ensures.gap,
) (grind arith))

pub returns-then-end-self-clause-step : goal.returns-then-end-self-clause-step
returns-then-end-self-clause-step c = refuses _ _ _ _ _ _
    (past_gap (contents c.args.self.now) c.args.player c.args.end c.args.first c.args.commands.now _ (sym c.is_no_peer.ensures ∙ c.if-is_no_peer.false) (sym c.is_out.ensures ∙ c.if-is_out.false)
    c.count-got.ensures c.in-Some.ensures.gap c.if-end-got.false (grind arith))

pub returns-then-has_stop-clause-step : goal.returns-then-has_stop-clause-step
returns-then-has_stop-clause-step c = refuses _ _ _ _ _ _
    (past_gap (contents c.args.self.now) c.args.player c.args.end c.args.first c.args.commands.now _ (sym c.is_no_peer.ensures ∙ c.if-is_no_peer.false) (sym c.is_out.ensures ∙ c.if-is_out.false)
    c.count-got.ensures c.in-Some.ensures.gap c.if-end-got.false (grind arith))

pub returns-then-is_other_end-clause-step : goal.returns-then-is_other_end-clause-step
returns-then-is_other_end-clause-step c = refuses _ _ _ _ _ _ (grind (arith, past_gap, le-ltb))

-- the end and the commands are taken

pub invariant_of-self-clause-endless : goal.invariant_of-self-clause-endless
invariant_of-self-clause-endless c = grind (arith, same_end, kept, peer_apart, peer)

pub invariant_of-self-clause-gone : goal.invariant_of-self-clause-gone
invariant_of-self-clause-gone c plays closed =
    gone_still (kept (goal.at.invariant_of-self-clause-gone c).After-want) _ _ (c.args.self.now.gone plays closed)

pub invariant_of-self-clause-reached : goal.invariant_of-self-clause-reached
invariant_of-self-clause-reached c p below h =
    let w = (goal.at.invariant_of-self-clause-reached c).After-want in
    still_counted (ring_at c.args.self.now.rings) (ring_at c.put_all.new.self) c.args.player _ _
    c.put_all.ensures.count c.put_all.ensures.others p (c.args.self.now.reached p below (stays_gone (kept w) _ p h))

pub invariant_of-self-clause-window : goal.invariant_of-self-clause-window
invariant_of-self-clause-window c p h =
    let w = (goal.at.invariant_of-self-clause-window c).After-want in
    let old = c.args.self.now.window p h in
    elim (changed (ring_at c.args.self.now.rings) (ring_at c.put_all.new.self) c.args.player _
    c.put_all.ensures.count c.put_all.ensures.others p) [
      | inl more ↦
          omega (arith, more.1, many w, c.count-got.ensures, c.if-end-self.false, c.if-end-got.false)
      | inr kept ↦ omega (arith, old, kept)
    ]

pub invariant_of-self-clause-resends : goal.invariant_of-self-clause-resends
invariant_of-self-clause-resends c p below =
    let w = (goal.at.invariant_of-self-clause-resends c).After-want in
    let low = resends_low (kept w) refl _ c.args.self.now.resends p below in
    let own = ap (λ (x : Ring). x.count) (c.put_all.ensures.others c.args.self.now.me
    (λ e. peer_apart c.args.self.now.players c.args.self.now.me c.args.player (peer w) (sym e))) in
    omega (arith, low, own)

pub returns-clause-step : goal.returns-clause-step
returns-clause-step c = steps refl (λ limits me m r.
    let w = (goal.at.returns-clause-step c).After-want in
    let got = c.count-got.ensures in
    let taken = taken_shows r c.args.player c.args.end c.args.first c.args.commands.now (fine w)
    (λ e. subst (λ (k : ℕ). c.args.self.now.ran ≤ k) got (ahead w e)) (peer_at c.want.new.self)
    (ring_at c.put_all.new.self) (c.want.ensures.put ∙ ap (λ (x : Peer). record x { want = false }) c.tell.ensures.put)
    (kept w).others
    (λ held e. c.put_all.ensures.kept held e
    ∙ ap (λ (xs : List TicCmd). ring_of (held ++ xs)) (c.in-Some.ensures.found
    ∙ ap (λ (k : ℕ). missing k c.args.end c.args.first c.args.commands.now) got)) c.put_all.ensures.others in
    record { node = taken.node; answer = ap (λ (k : ℕ). Taken (c.args.end - k)) got ∙ taken.answer })

pub returns-clause-refused : goal.returns-clause-refused
returns-clause-refused c h = absurd (h _ refl)
