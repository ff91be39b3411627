use Rattle.std.proofs.Common.{refl, sym, ◌∙◌, ap, arith, rules, inl, inr, Option, None, ℕ, ◌≡◌, w16}
use Rattle.std.proofs.lemmas.Int.{ints, to_z-of_z}
use Rattle.dn_machine.specs.Node as machine
use Rattle.dn_machine.specs.{Running.is_over, declared.peer.Peer.Peer}
use Rattle.dn_lockstep.specs.Tables.{peer_at, ring_at}
use Rattle.dn_ring.specs.Ring.{Ring}
use Rattle.dn_lockstep.proofs.{After.{after, steps}, Shown.{mine, made_is, changed}}
use Rattle.dn_lockstep.proofs.Changing.{build_not, build_full, build_makes, own_ring, shows_commands}
use Rattle.dn_lockstep.proofs.lockstep.Lockstep.make.Goals as goal

pub returns-in_default-clause-step : goal.returns-in_default-clause-step
returns-in_default-clause-step c = steps refl (λ limits me m r.
    after _ _ (build_not limits me m _ (λ e. c.in_default.not-Playing (r.stands.phase ∙ e))) r refl)

pub returns-then-tic-self-clause-step : goal.returns-then-tic-self-clause-step
returns-then-tic-self-clause-step c = grind (arith, steps, made_is, after, build_full)

pub put-requires-clause-no_stop : goal.put-requires-clause-no_stop
put-requires-clause-no_stop c = λ e. omega (arith, ints, c.make-command.ensures.least, e)

pub invariant_of-self-clause-me_below : goal.invariant_of-self-clause-me_below
invariant_of-self-clause-me_below c = c.args.self.now.me_below

pub invariant_of-self-clause-reached : goal.invariant_of-self-clause-reached
invariant_of-self-clause-reached c p below present =
    let n = c.args.self.now in
    let before = n.reached p below present in
    elim (changed (ring_at n.rings) (ring_at c.put.new.self) n.me _
    (ap (λ (k : Ring). k.count) c.put.ensures.put) c.put.ensures.others p) [
      | inl (same, now) ↦ grind arith
      | inr now ↦ omega (arith, now, before)
    ]

pub invariant_of-self-clause-window : goal.invariant_of-self-clause-window
invariant_of-self-clause-window c p below =
    let n = c.args.self.now in
    let before = n.window p below in
    elim (changed (ring_at n.rings) (ring_at c.put.new.self) n.me _
    (ap (λ (k : Ring). k.count) c.put.ensures.put) c.put.ensures.others p) [
      | inl (same, now) ↦ omega (arith, now, n.near, n.twice, n.inside)
      | inr now ↦ omega (arith, now, before)
    ]

pub invariant_of-self-clause-resends : goal.invariant_of-self-clause-resends
invariant_of-self-clause-resends c p below =
    let n = c.args.self.now in
    let before = n.resends p below in
    let now = ap (λ (k : Ring). k.count) c.put.ensures.put in
    omega (arith, now, before)

pub returns-clause-step : goal.returns-clause-step
returns-clause-step c = steps refl (λ limits me m r.
    let n = c.args.self.now in
    let made = c.made-tic.ensures ∙ made_is _ me _ m r n.me_below in
    let endless : machine.ends_of m me ≡ None =
    sym (ap (λ (x : Peer). x.end) (r.peers.known me (mine _ me _ m r n.me_below)))
    ∙ ap (λ (p : ℕ). (peer_at n.peers p).end) (sym r.whose.number) ∙ n.endless in
    let ahead = n.reached n.me n.me_below (ap (λ (o : Option ℕ). is_over o n.ran) n.endless) in
    let marked = to_z-of_z w16 c.get-mark.result (search rules) in
    let ring = own_ring _ me _ m c.args.input c.made-tic.result _ _ _ r n.me_below made
    (omega (arith, c.made-tic.ensures, r.table.ran, ahead))
    (omega (arith, c.made-tic.ensures, r.table.ran, n.near, n.twice, n.inside)) endless (marked ∙ c.get-mark.ensures)
    (c.make-command.ensures.command m.inputs r.commands.hold) c.put.ensures.put in
    grind (arith, after, build_makes, shows_commands))
