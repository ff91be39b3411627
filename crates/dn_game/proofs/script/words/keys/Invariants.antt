use Rattle.dn_game.proofs.Scripts.{AreLettersUpTo}
use Rattle.dn_game.proofs.script.words.keys.Given as goal

abbrev pub invariant-loop-byte : goal.invariant-loop-byte
invariant-loop-byte l = AreLettersUpTo l.word l.byte-index l.bits
