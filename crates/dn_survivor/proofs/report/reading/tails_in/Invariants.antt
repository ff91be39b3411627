use Rattle.std.proofs.Common.{◌≡◌, ◌++◌, length, flat_map}
use Rattle.dn_survivor.specs.{ReportBytes.tail_bytes, ReportBytes.AreTold, ReportBytes.next_after}
use Rattle.dn_survivor.proofs.report.reading.tails_in.Given as goal

abbrev pub invariant-loop-rest : goal.invariant-loop-rest
invariant-loop-rest l = record {
  so_far : l.bytes ≡ flat_map tail_bytes l.found.items ++ l.rest;
  are : AreTold l.found.items;
  next : l.least ≡ next_after 0 l.found.items;
}

abbrev pub decreases-loop-rest : goal.decreases-loop-rest
decreases-loop-rest l = length l.rest
