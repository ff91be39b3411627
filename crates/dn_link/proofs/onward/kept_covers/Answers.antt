use Rattle.dn_link.proofs.{Covered.all_covering, Covered.carries, Covered.reaches_given, Covered.all_rising, Covered.few}
use Rattle.dn_link.proofs.onward.kept_covers.Goals as goal

pub returns : goal.returns
returns c = record {
  covers = λ link peer. all_covering link.peers peer;
  rising = λ link peer. all_rising link.peers peer;
  few = λ kept rising. few kept.done kept.packets kept.covered rising;
  carried = carries;
  reaches = reaches_given;
}
