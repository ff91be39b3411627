use Rattle.std.proofs.Common.{◌≡◌, length, map}
use Rattle.dn_inspect.specs.Formats.{begun}
use Rattle.dn_inspect.proofs.formats.begun.Given as goal

abbrev pub invariant-loop-table : goal.invariant-loop-table
invariant-loop-table l =
    begun (map (λ row. (row.0.now, row.1.now)) l.table) l.bytes
    ≡ begun (map (λ row. (row.0.now, row.1.now)) l.initial.table) l.bytes

abbrev pub decreases-loop-table : goal.decreases-loop-table
decreases-loop-table l = length l.table
