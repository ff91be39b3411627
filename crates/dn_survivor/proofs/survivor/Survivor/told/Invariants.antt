use Rattle.std.proofs.Common.{◌≡◌, All}
use Rattle.dn_survivor.specs.{ReportBytes.IsTail, Telling.told_in}
use Rattle.std.specs.List.{filter_map, range_with_len}
use Rattle.dn_lockstep.specs.Contents.{contents}
use Rattle.dn_survivor.proofs.survivor.Survivor.told.Given as goal

abbrev pub invariant-loop-player : goal.invariant-loop-player
invariant-loop-player l = record {
  told : l.told.items ≡ filter_map (told_in (contents l.fn.self.lockstep) l.to) (range_with_len 0 l.player);
  proper : All IsTail l.told.items;
}
