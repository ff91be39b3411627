use Rattle.std.proofs.Common.{◌≡◌, ℕ, false, None, slice_index_or}
use Rattle.dn_machine.specs.Node.{lowest}
use Rattle.dn_game.proofs.GoingRound.{moves}
use Rattle.dn_game.proofs.schedule.first_moving.Given as goal

abbrev pub invariant-loop-step : goal.invariant-loop-step
invariant-loop-step g l =
    lowest l.step (moves l.players l.from (λ (p : ℕ). slice_index_or l.game.stopped p false)) ≡ None
