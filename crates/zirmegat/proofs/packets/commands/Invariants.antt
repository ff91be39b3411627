use Rattle.std.proofs.Common.{◌≡◌, ◌++◌, ◌≤◌, length, map, drop}
use Rattle.zirmegat.specs.Fields.{sent_in}
use Rattle.zirmegat.proofs.packets.commands.Given as goal

abbrev pub invariant-loop-command : goal.invariant-loop-command
invariant-loop-command l = record {
  found : l.found.items ++ map sent_in (drop l.command-index l.fields) ≡ map sent_in l.fields;
  counted : length l.found.items ≡ l.command-index;
  few : length l.fields ≤ 12;
}
