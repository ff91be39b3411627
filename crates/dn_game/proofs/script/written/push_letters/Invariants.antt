use Rattle.std.proofs.Common.{◌≡◌, ◌++◌, take}
use Rattle.std.specs.String.{string_bytes}
use Rattle.dn_game.specs.Scripts.{letters, letters_down}
use Rattle.dn_game.proofs.script.written.push_letters.Given as goal

abbrev pub invariant-loop-place : goal.invariant-loop-place
invariant-loop-place l = string_bytes l.text ≡ string_bytes l.initial.text ++ letters_down l.bits
    (take l.place letters)
