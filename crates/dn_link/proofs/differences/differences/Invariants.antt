use Rattle.std.proofs.Common.{◌≡◌, ◌≤◌, ◌+◌, ◌*◌, ◌/◌, ◌++◌, length}
use Rattle.dn_link.specs.Differences.{differences, run_differences}
use Rattle.dn_link.proofs.differences.differences.Given as goal

abbrev pub invariant-commands : goal.invariant-commands
invariant-commands l = record {
  so_far : l.bytes.items ++ differences (length l.rest / 8) l.before l.rest ≡ run_differences l.fn.commands;
  room : length l.bytes.items + 9 * (length l.rest / 8) ≤ 216;
}

abbrev pub decreases-commands : goal.decreases-commands
decreases-commands l = length l.rest
