-- Queues in memory.
use Rattle.std.proofs.Common.{◌≡◌, ℕ, ◌≤◌, ◌+◌, ◌↔◌, List, [], ◌++◌, length, take, min, Result, Ok, Err, arith, rules}
use Rattle.std.proofs.{Common.{IsOk, OnOk}, lemmas.List.{take_min, length-take}}
use Rattle.dn_netgame.proofs.line.hub.datagram.Goals as goal

-- what holds of an answer that is Ok
at_ok : {A F P : Type 0} (r : Result A F) → IsOk r → OnOk r P → P
at_ok (Ok done) ok p = p
at_ok (Err fault) ok p = absurd (search (rules, ok))

front_kept : {F : Type 0} (count : ℕ) (bytes start items : List ℕ) (r : Result (Unit {0}) F)
    → count ≡ min 105 (length bytes) → start ≡ []
    → IsOk r ↔ (length start + length (take count bytes) ≤ 105) → OnOk r (items ≡ start ++ take count bytes)
    → items ≡ take 105 bytes
front_kept count bytes start items r least empty fits kept = grind (arith, length-take, at_ok, take_min)

pub returns : goal.returns
returns c = grind (arith, front_kept)
