use Rattle.std.proofs.Common.{◌<◌, ℕ}
use Rattle.dn_inspect.specs.Differing.{IsSameTic}
use Rattle.dn_inspect.proofs.difference.first_tic.Given as goal

abbrev pub invariant-loop-tic : goal.invariant-loop-tic
invariant-loop-tic l = (t : ℕ) → t < l.tic → IsSameTic l.one l.other t
