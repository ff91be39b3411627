use Rattle.std.proofs.Common.{◌≡◌}
use Rattle.dn_remain.specs.Vanished.Node.{highest, share}
use Rattle.dn_survivor.specs.OfOthers.{told_of, own_of}
use Rattle.dn_survivor.proofs.others.Others.end.Given as goal

abbrev pub invariant-loop-teller : goal.invariant-loop-teller
invariant-loop-teller l = record {
  largest : l.end ≡ highest l.teller
      (share l.fn.me (own_of l.fn.self (λ p. l.fn.own)) (told_of l.fn.self) l.fn.player);
}
