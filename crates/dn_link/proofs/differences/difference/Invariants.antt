use Rattle.std.proofs.Common.{◌≡◌, ◌≤◌, ◌+◌, ◌++◌, drop, length}
use Rattle.dn_link.specs.Differences.{changed, difference}
use Rattle.dn_link.proofs.differences.difference.Given as goal

abbrev pub invariant-bytes : goal.invariant-bytes
invariant-bytes l = record {
  so_far : l.bytes.items ++ changed (drop l.place l.fn.before) (drop l.place l.fn.command) ≡ difference l.fn.before l.fn.command;
  few : length l.bytes.items ≤ 1 + l.place;
}
