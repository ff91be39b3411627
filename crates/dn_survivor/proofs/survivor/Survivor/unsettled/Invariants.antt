use Rattle.std.proofs.Common.{◌≡◌, ◌<◌, ℕ, false}
use Rattle.dn_survivor.specs.Surviving.{surviving, is_unsettled}
use Rattle.dn_survivor.proofs.survivor.Survivor.unsettled.Given as goal

abbrev pub invariant-loop-player : goal.invariant-loop-player
invariant-loop-player l = (p : ℕ) → p < l.player → is_unsettled (surviving l.fn.self) p ≡ false
