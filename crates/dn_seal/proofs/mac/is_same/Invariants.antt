use Rattle.std.proofs.Common.{◌≡◌, take}
use Rattle.dn_seal.proofs.mac.is_same.Given as goal

abbrev pub invariant-bytes : goal.invariant-bytes
invariant-bytes l = record {
  same : l.differing ≡ 0 → take l.i l.one ≡ take l.i l.other;
  none : l.one ≡ l.other → l.differing ≡ 0;
}
