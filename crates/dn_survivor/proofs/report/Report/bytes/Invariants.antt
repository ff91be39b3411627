use Rattle.std.proofs.Common.{◌≡◌, ◌≤◌, ◌+◌, ◌*◌, ◌++◌, ◌∷◌, [], length, take, flat_map}
use Rattle.dn_survivor.specs.ReportBytes.{first_byte, tail_bytes}
use Rattle.dn_survivor.proofs.report.Report.bytes.Given as goal

abbrev pub invariant-loop-tail : goal.invariant-loop-tail
invariant-loop-tail l = record {
  so_far : l.bytes.items ≡ (first_byte l.fn.self ∷ []) ++ flat_map tail_bytes (take l.tail-index l.tail-items);
  long : length l.bytes.items ≤ 1 + 198 * l.tail-index;
}
