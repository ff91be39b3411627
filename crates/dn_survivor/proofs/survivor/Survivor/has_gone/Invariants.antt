use Rattle.std.proofs.Common.{◌≡◌, ◌<◌, ℕ, false}
use Rattle.dn_survivor.specs.Surviving.{surviving, has_given_up}
use Rattle.dn_survivor.proofs.survivor.Survivor.has_gone.Given as goal

abbrev pub invariant-loop-player : goal.invariant-loop-player
invariant-loop-player l = (p : ℕ) → p < l.player → has_given_up (surviving l.fn.self) p ≡ false
