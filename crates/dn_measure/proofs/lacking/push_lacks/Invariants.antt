use Rattle.std.proofs.Common.{◌≡◌, ◌++◌, ◌≤◌, drop, length}
use Rattle.std.specs.String.{string_bytes}
use Rattle.dn_measure.specs.Lacking.{lack_lines}
use Rattle.dn_measure.proofs.lacking.push_lacks.Given as goal

abbrev pub invariant-loop-lack : goal.invariant-loop-lack
invariant-loop-lack l =
    (string_bytes l.text ++ lack_lines l.summary (drop l.lack-index l.lacks)
    ≡ string_bytes l.fn.text ++ lack_lines l.summary l.lacks)
    × (l.lack-index ≤ length l.lacks)
