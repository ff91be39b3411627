use Rattle.std.proofs.Common.{◌≡◌, ◌-◌, ◌*◌, ◌++◌, length}
use Rattle.dn_link.specs.Differences.{zeros}
use Rattle.dn_link.specs.Told.{told_differences}
use Rattle.dn_link.proofs.differences.differences_in.Given as goal

abbrev pub invariant-commands : goal.invariant-commands
invariant-commands l = record {
  so_far : l.commands.items ++ told_differences (l.fn.count - l.done) l.before l.rest ≡ told_differences l.fn.count zeros l.fn.bytes;
  many : length l.commands.items ≡ 8 * l.done;
}
