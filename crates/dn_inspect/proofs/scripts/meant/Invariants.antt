use Rattle.std.proofs.Common.{◌≡◌, length, map}
use Rattle.dn_inspect.specs.Scripts.{meant}
use Rattle.dn_inspect.proofs.scripts.meant.Given as goal

abbrev pub invariant-loop-events : goal.invariant-loop-events
invariant-loop-events l =
    meant (map (λ row. (row.0.now, row.1.now)) l.events) l.word
    ≡ meant (map (λ row. (row.0.now, row.1.now)) l.initial.events) l.word

abbrev pub decreases-loop-events : goal.decreases-loop-events
decreases-loop-events l = length l.events
