use Rattle.std.proofs.Common.{◌≡◌, ◌++◌, length}
use Rattle.dn_demo.specs.Layout.{layout_by}
use Rattle.dn_demo.specs.Text.{commands_of}
use Rattle.dn_inspect.proofs.writing.push_rows.Given as goal

abbrev pub invariant-loop-row : goal.invariant-loop-row
invariant-loop-row l =
    l.bytes.items ++ commands_of (layout_by l.long) l.rest
    ≡ l.initial.bytes.items ++ commands_of (layout_by l.long) l.initial.rest

abbrev pub decreases-loop-row : goal.decreases-loop-row
decreases-loop-row l = length l.rest
