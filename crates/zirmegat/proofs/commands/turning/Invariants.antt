use Rattle.std.proofs.Common.{◌≡◌, ◌≤◌, ◌-◌}
use Rattle.dn_tic.specs.Inputs.{hold_of}
use Rattle.zirmegat.specs.Commands.{most_held}
use Rattle.zirmegat.proofs.Turning.{turns}
use Rattle.zirmegat.proofs.commands.turning.Given as goal

abbrev pub invariant-loop-count : goal.invariant-loop-count
invariant-loop-count l = record {
  held : l.builder ≡ hold_of (turns l.count);
  left : l.left ≡ 4;
  within : l.count ≤ l.most;
  most : l.most ≡ most_held l.fn.hold;
  few : l.most ≤ 6;
}

abbrev pub decreases-loop-count : goal.decreases-loop-count
decreases-loop-count l = l.most - l.count
