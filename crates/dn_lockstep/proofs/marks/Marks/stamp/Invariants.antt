use Rattle.std.proofs.Common.{◌≡◌, ◌≢◌, ◌<◌, ◌%◌, ℕ, pos, true, false, get_or}
use Rattle.dn_machine.specs.Node.{lacks}
use Rattle.dn_lockstep.specs.Tables.{slot}
use Rattle.dn_lockstep.proofs.marks.Marks.stamp.Given as goal

abbrev pub invariant-loop-player : goal.invariant-loop-player
invariant-loop-player l = record {
  marks : (p : ℕ) → p < l.player → lacks l.row p ≡ false
      → slot l.self p (l.tic % 12) ≡ get_or l.marks p (pos 0);
  absent : (p j : ℕ) → lacks l.row p ≡ true → slot l.self p j ≡ slot l.initial.self p j;
  others : (p j : ℕ) → j ≢ l.tic % 12 → slot l.self p j ≡ slot l.initial.self p j;
}
