use Rattle.std.proofs.Common.{◌≡◌, length}
use Rattle.dn_inspect.specs.Scripts.{is_near}
use Rattle.dn_inspect.proofs.scripts.is_near.Given as goal

abbrev pub invariant-loop-word : goal.invariant-loop-word
invariant-loop-word l = is_near l.word l.name ≡ is_near l.initial.word l.initial.name

abbrev pub decreases-loop-word : goal.decreases-loop-word
decreases-loop-word l = length l.word
