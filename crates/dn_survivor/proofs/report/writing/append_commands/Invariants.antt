use Rattle.std.proofs.Common.{◌≡◌, ◌+◌, ◌*◌, ◌++◌, length, take, flat_map}
use Rattle.dn_tic.specs.Command.{command_bytes}
use Rattle.dn_survivor.proofs.report.writing.append_commands.Given as goal

abbrev pub invariant-loop-command : goal.invariant-loop-command
invariant-loop-command l = record {
  so_far : l.bytes.items ≡ l.fn.bytes.items ++ flat_map command_bytes (take l.command-index l.commands);
  long : length l.bytes.items ≡ length l.fn.bytes.items + 8 * l.command-index;
}
