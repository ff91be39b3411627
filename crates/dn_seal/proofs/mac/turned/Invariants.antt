use Rattle.std.proofs.Common.{◌≡◌, length, take}
use Rattle.dn_seal.specs.Hmac.{turned}
use Rattle.dn_seal.proofs.mac.turned.Given as goal

abbrev pub invariant-bytes : goal.invariant-bytes
invariant-bytes l = (length l.out ≡ 64) × (take l.i l.out ≡ turned l.pad (take l.i l.block))
