use Rattle.std.proofs.Common.{◌≡◌, ◌++◌, drop, length, take}
use Rattle.dn_link.specs.Told.{told_changed, told_command}
use Rattle.dn_link.proofs.differences.command_in.Given as goal

abbrev pub invariant-bytes : goal.invariant-bytes
invariant-bytes l = record {
  so_far : take l.place l.command ++ told_changed l.bits (drop l.place l.command) l.rest ≡ told_command l.fn.before l.fn.bytes;
  eight : length l.command ≡ 8;
}
