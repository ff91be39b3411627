use Rattle.std.proofs.Common.{◌≡◌, length, drop}
use Rattle.dn_demo.specs.{Layout.layout_of, Places.place, Places.HasNoMarker}
use Rattle.dn_demo.proofs.reading.commands_before_marker.Given as goal

abbrev pub invariant-loop-rest : goal.invariant-loop-rest
invariant-loop-rest l = record {
  rest : l.rest ≡ drop (place (layout_of l.fn.layout) l.commands) l.fn.bytes;
  none : HasNoMarker (layout_of l.fn.layout) l.fn.bytes l.commands;
}

abbrev pub decreases-loop-rest : goal.decreases-loop-rest
decreases-loop-rest l = length l.rest
