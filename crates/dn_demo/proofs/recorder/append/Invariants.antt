use Rattle.std.proofs.Common.{◌≡◌, ◌++◌, take, vec_capacity}
use Rattle.dn_demo.proofs.recorder.append.Given as goal

abbrev pub invariant-loop-byte : goal.invariant-loop-byte
invariant-loop-byte l =
    (l.bytes.items ≡ l.fn.bytes.items ++ take l.byte-index l.more)
    × (vec_capacity l.bytes ≡ vec_capacity l.fn.bytes)
