use Rattle.std.proofs.Common.{◌≡◌, ◌-◌, drop}
use Rattle.dn_link.specs.Differences.{change_bits}
use Rattle.dn_link.proofs.differences.change_bits.Given as goal

abbrev pub invariant-bytes : goal.invariant-bytes
invariant-bytes l = l.bits ≡ change_bits (drop (8 - l.done) l.fn.before) (drop (8 - l.done) l.fn.command)
