use Rattle.std.proofs.Common.{◌≡◌, ◌++◌, ◌≤◌, drop, length}
use Rattle.std.specs.String.{string_bytes}
use Rattle.dn_measure.specs.Fields.{labelled, fields_of}
use Rattle.dn_measure.proofs.fields.push_fields.Given as goal

abbrev pub invariant-loop-label : goal.invariant-loop-label
invariant-loop-label l =
    (string_bytes l.text ++ labelled (fields_of (drop l.label-index l.fields))
    ≡ string_bytes l.fn.text ++ labelled (fields_of l.fields))
    × (l.label-index ≤ length l.fields)
