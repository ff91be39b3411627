use Rattle.std.proofs.Common.{◌≡◌, ◌<◌, ℕ, true}
use Rattle.dn_remain.specs.Vanished.Calls.{is_heard}
use Rattle.dn_survivor.specs.OfOthers.{nodes_of, own_of}
use Rattle.dn_survivor.proofs.others.Others.undecided.Given as goal

abbrev pub invariant-loop-player : goal.invariant-loop-player
invariant-loop-player l = record {
  heard : (got : ℕ → ℕ) (lower : ℕ) → lower < l.player
      → is_heard l.fn.players l.fn.me (own_of l.fn.self got) (nodes_of l.fn.self) lower ≡ true;
}
