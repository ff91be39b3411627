use Rattle.dn_game.proofs.Scripts.{AreDigits}
use Rattle.dn_game.proofs.script.words.number.Given as goal

abbrev pub invariant-loop-byte : goal.invariant-loop-byte
invariant-loop-byte l = AreDigits l.word l.byte-index l.number
