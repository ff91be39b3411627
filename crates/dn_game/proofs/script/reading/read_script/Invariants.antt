use Rattle.std.proofs.Common.{length}
use Rattle.dn_game.proofs.Scripts.{HaveRead}
use Rattle.dn_game.proofs.script.reading.read_script.Given as goal

abbrev pub invariant-loop-line : goal.invariant-loop-line
invariant-loop-line l = HaveRead l.text (length l.yielded) l.number l.events.items
