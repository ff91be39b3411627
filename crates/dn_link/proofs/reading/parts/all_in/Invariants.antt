use Rattle.std.proofs.Common.{◌≡◌, length}
use Rattle.dn_link.proofs.Wholes.{SoFar}
use Rattle.dn_link.proofs.reading.parts.all_in.Given as goal

abbrev pub invariant-parts : goal.invariant-parts
invariant-parts l = record {
  so_far : SoFar l.fn.count l.fn.bytes l.done l.rest l.found.items;
  many : length l.found.items ≡ l.done;
}
