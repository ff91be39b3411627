use Rattle.std.proofs.Common.{◌≡◌, ℕ, Bool, false, ap, sym, ◌∙◌, arith, slice_index_or}
use Rattle.dn_machine.specs.Node.{lowest}
use Rattle.dn_lockstep.proofs.Lowest.{lowest_zero}
use Rattle.dn_game.proofs.GoingRound.{moves, goes_past, moving_found, moving_none, all_stopped}
use Rattle.dn_game.proofs.schedule.first_moving.Goals as goal

pub loop-step-init : goal.loop-step-init
loop-step-init g c = lowest_zero _

pub loop-step-preserved : goal.loop-step-preserved
loop-step-preserved g c = grind (arith, goes_past)

pub returns-then-not-stopped-clause-value : goal.returns-then-not-stopped-clause-value
returns-then-not-stopped-clause-value g c = grind (arith, moving_found)

pub returns-clause-value : goal.returns-clause-value
returns-clause-value g c = grind (arith, moving_none)

pub returns-clause-none : goal.returns-clause-none
returns-clause-none g c none =
    let stopped : ℕ → Bool = λ p. slice_index_or c.args.game.now.stopped p false in
    let all : c.loop-step.step ≡ c.players-players.result =
    omega (arith, c.loop-step-test.false, c.loop-step.auto.step-end) in
    let every = ap (λ (k : ℕ). lowest k (moves c.players-players.result c.args.from stopped)) (sym all)
    ∙ c.loop-step.invariant in
    let seen = all_stopped c.players-players.result c.args.from stopped
    (omega (arith, c.requires, c.players-players.ensures.value)) every in
    λ node below. seen node (omega (arith, below, c.players-players.ensures.value))
