use Rattle.std.proofs.Common.{◌≡◌, ◌-◌, ◌≤◌, All}
use Rattle.dn_tic.specs.Command.{IsCommand}
use Rattle.std.specs.List.{filter_map, range_with_len}
use Rattle.dn_lockstep.specs.{Contents.contents, Told.command_told}
use Rattle.dn_survivor.proofs.survivor.Survivor.last_commands.Given as goal

abbrev pub invariant-loop-tic : goal.invariant-loop-tic
invariant-loop-tic l = record {
  from : l.count - 24 ≤ l.tic;
  commands : l.commands.items ≡ filter_map (command_told (contents l.fn.self.lockstep) l.player)
      (range_with_len (l.count - 24) (l.tic - (l.count - 24)));
  valid : All IsCommand l.commands.items;
}
