use Rattle.std.proofs.Common.{◌≡◌, ◌<◌, ◌+◌, ℕ, Bool, true, false, true≢false, not, List, Option, Some, refl, ap, sym, ◌∙◌, arith, if◌then◌else◌}
use Rattle.dn_tic.specs.declared.command.Move.{Move}
use Rattle.dn_demo.specs.{Text.{IsRow}, declared.recorder.Stage.Stage}
use Rattle.dn_demo.specs.declared.recorder.Stage.TheVariants.{Open, Closed}
use Rattle.dn_machine.specs.{declared.answers.Ran.Ran, Node.{is_whole, lacks}, Running.{row_held, marks_kept}}
use Rattle.dn_lockstep.specs.{Contents.{contents, whose}, Tables.{peer_at, ring_at}}
use Rattle.dn_lockstep.specs.{Rows.{has_gone, seats_of}, Steps.{marks_in, with_row}}
use Rattle.dn_lockstep.proofs.{After.{after, steps}, Seats.{row_is, seat_held, seat_empty, full_is, fits, here_all}}
use Rattle.dn_lockstep.proofs.{Changing.{over_later, gone_later}, Moving.{IsWritten, shows_moved}}
use Rattle.dn_lockstep.proofs.{DemosAgreeing.{size_more, row_fits}, Running.{row_full, row_moves, kept_here}}
use Rattle.dn_lockstep.proofs.lockstep.Lockstep.run_row.Goals.{After-stamp}
use Rattle.dn_lockstep.proofs.lockstep.Lockstep.run_row.Goals as goal

opened : (c : After-stamp) → c.fill_row-whole.result ≡ true → c.args.self.now.demo.stage ≡ Open
opened c e = grind arith

-- a row of these players is one of the game's
row_of_game : {players all : ℕ} {row held : List (Option Move)} → players ≡ all → row ≡ held
    → IsRow (seats_of players) row → IsRow (seats_of all) held
row_of_game {players} {all} {row} {held} same is fits = grind (arith, fits)

-- and there is room for it
below : (c : After-stamp) → c.fill_row-whole.result ≡ true → c.args.self.now.ran < c.args.self.now.capacity
below c e = grind (arith, fits, opened)

pub returns-then-tic-full_at-clause-step : goal.returns-then-tic-full_at-clause-step
returns-then-tic-full_at-clause-step c = steps c.finish.ensures.same (λ limits me m r.
    let n = c.args.self.now in
    let row = c.fill_row-whole.ensures.row ∙ row_is r (fits n) c.requires.there in
    let full = full_is r (fits n) c.requires.there c.full_at.ensures c.fill_row-whole.ensures.whole row in
    grind (arith, after, row_full))

pub returns-then-tic-full_at-clause-full : goal.returns-then-tic-full_at-clause-full
returns-then-tic-full_at-clause-full c e limits me m r =
    c.fill_row-whole.ensures.row ∙ row_is r (fits c.args.self.now) c.requires.there

pub write-requires-clause-room : goal.write-requires-clause-room
write-requires-clause-room c e =
    let at = goal.at.write-requires-clause-room c in
    grind (arith, opened at.After-stamp e, row_fits)

-- the demo after the tic is open where the row is whole
stage_whole : (b : Bool) (stage : Stage) → stage ≡ (if b then Open else Closed) → stage ≡ Open → b ≡ true
stage_whole b stage e o = grind arith

stage_lacks : (b : Bool) (stage : Stage) → stage ≡ (if b then Open else Closed) → stage ≡ Closed → b ≡ false
stage_lacks b stage e o = grind arith

pub invariant_of-self-2-clause-ran_fits : goal.invariant_of-self-2-clause-ran_fits
invariant_of-self-2-clause-ran_fits c = grind (arith, fits, below)

pub invariant_of-self-2-clause-begun : goal.invariant_of-self-2-clause-begun
invariant_of-self-2-clause-begun c on e = grind arith

pub invariant_of-self-2-clause-gone : goal.invariant_of-self-2-clause-gone
invariant_of-self-2-clause-gone c on closed =
    let n = c.args.self.now in
    let lacks = stage_lacks c.fill_row-whole.result _ c.write.ensures.stage closed in
    let gone = not-false-true (has_gone (peer_at n.peers) n.players n.ran)
    (sym c.fill_row-whole.ensures.nobody ∙ lacks) in
    gone_later (peer_at n.peers) n.players n.ran (n.ran + 1) (omega arith) gone
  where
    not-false-true : (b : Bool) → not b ≡ false → b ≡ true
    not-false-true true e = refl
    not-false-true false e = absurd (true≢false e)

pub invariant_of-self-2-clause-fits : goal.invariant_of-self-2-clause-fits
invariant_of-self-2-clause-fits c on is_open = grind (arith, below)

pub invariant_of-self-2-clause-seats : goal.invariant_of-self-2-clause-seats
invariant_of-self-2-clause-seats c on is_open = grind (arith, stage_whole, opened)

pub invariant_of-self-2-clause-size : goal.invariant_of-self-2-clause-size
invariant_of-self-2-clause-size c on is_open =
    let whole = stage_whole c.fill_row-whole.result _ c.write.ensures.stage is_open in
    grind (arith, opened (goal.at.invariant_of-self-2-clause-size c).After-stamp whole, size_more)

pub invariant_of-self-2-clause-reached : goal.invariant_of-self-2-clause-reached
invariant_of-self-2-clause-reached c p inside stays =
    let n = c.args.self.now in
    let present = over_later (peer_at n.peers p).end n.ran (n.ran + 1) (omega arith) stays in
    omega (arith, here_all (ring_at n.rings) (peer_at n.peers) n.players n.ran c.requires.there p inside present)

pub returns-clause-step : goal.returns-clause-step
returns-clause-step c = steps (ap (λ (k : ℕ). record (whose (contents c.args.self.now)) { limit = k }) c.write.ensures.limit) (λ limits me m r.
    let n = c.args.self.now in
    let on = c.requires.plays in
    let row = c.fill_row-whole.ensures.row ∙ row_is r (fits n) c.requires.there in
    let full = full_is r (fits n) c.requires.there c.full_at.ensures c.fill_row-whole.ensures.whole row in
    let whole : c.fill_row-whole.result ≡ is_whole limits.players (row_held limits m) =
    c.fill_row-whole.ensures.whole ∙ (λ i. is_whole (r.whose.players i) (row i)) in
    let opens = opened (goal.at.returns-clause-step c).After-stamp in
    let written : IsWritten limits n.demo c.write.new.demo (row_held limits m) = grind (arith, fits, row_of_game) in
    let moves = row_moves limits m (marks_in c.args.marks.now) (λ e. c.if-tic-full_at.false (r.table.ran ∙ e ∙ sym full)) in
    after _ _ (ap (with_row limits m) moves)
    (shows_moved limits me _ m (row_held limits m) (marks_kept limits m (marks_in c.args.marks.now)) _ _ r on (n.plays on) (n.known (n.plays on))
    (λ p inside present. c.stamp.ensures.marks p (omega (arith, inside, n.few))
    (ap (λ (x : List (Option Move)). lacks x p) row
    ∙ seat_held r (fits n) c.requires.there p inside (omega (arith, inside, n.few)) present)
    ∙ sym (kept_here limits m (marks_in c.args.marks.now) p (omega (arith, inside, r.whose.players)) present))
    (λ p j inside gone. c.stamp.ensures.absent p j (omega (arith, inside, n.few))
    (ap (λ (x : List (Option Move)). lacks x p) row
    ∙ seat_empty r (fits n) c.requires.there p inside (omega (arith, inside, n.few)) gone))
    c.stamp.ensures.others written) (ap Ran.Ran r.table.ran, ap (λ (x : List (Option Move)). Some x) row))
