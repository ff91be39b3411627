use Rattle.std.proofs.Common.{◌≡◌, ◌+◌, ◌*◌, ◌++◌, length, All, flat_map}
use Rattle.dn_tic.specs.Command.{command_bytes, IsCommand}
use Rattle.dn_survivor.proofs.report.reading.commands_in.Given as goal

abbrev pub invariant-loop-command : goal.invariant-loop-command
invariant-loop-command l = record {
  spelled : l.bytes ≡ flat_map command_bytes l.found.items ++ l.rest;
  valid : All IsCommand l.found.items;
  counted : 8 * length l.found.items + length l.rest ≡ length l.bytes;
}

abbrev pub decreases-loop-command : goal.decreases-loop-command
decreases-loop-command l = length l.rest
