-- Three players, one of whom vanishes: player 2 gets its only command from player 1's report, and runs on.
use Rattle.std.proofs.Common.{◌≡◌, ℕ, ◌+◌, ◌<◌, refl, arith, inl, List, [], ◌∷◌, ◌++◌, true, false, Some, true≢false}
use Rattle.dn_machine.specs.{Running.is_over, Node.put}
use Rattle.dn_remain.specs.Vanished.{Node.{Node, fresh, ran, now, HasHeard, highest, decided}, Promise.lacks_at}
use Rattle.dn_remain.specs.Vanished.Steps.{Act, Make, Take, Run, GiveUp, Decide, Acts, Step, IsRun}

step : (nodes : ℕ → Node) (older : List (ℕ → Node)) (q : ℕ) (act : Act) (new : Node) → q < 3
    → (nodes q).left ≡ false → Acts 3 5 (nodes ∷ older) q act new → Step 3 5 (nodes ∷ older) (put nodes q new)
step nodes older q act new l h a = grind arith

abbrev n0 : ℕ → Node
n0 = λ node. fresh

abbrev n1 : ℕ → Node
n1 = put n0 0 (record (n0 0) { got = put (n0 0).got 0 ((n0 0).got 0 + 1) })

abbrev n2 : ℕ → Node
n2 = put n1 1 (record (n1 1) { got = put (n1 1).got 0 1 })

abbrev n3 : ℕ → Node
n3 = put n2 1 (record (n2 1) { got = put (n2 1).got 1 ((n2 1).got 1 + 1) })

abbrev n4 : ℕ → Node
n4 = put n3 1 (record (n3 1) { got = put (n3 1).got 1 ((n3 1).got 1 + 1) })

abbrev n5 : ℕ → Node
n5 = put n4 2 (record (n4 2) { got = put (n4 2).got 2 ((n4 2).got 2 + 1) })

abbrev n6 : ℕ → Node
n6 = put n5 2 (record (n5 2) { got = put (n5 2).got 2 ((n5 2).got 2 + 1) })

abbrev n7 : ℕ → Node
n7 = put n6 2 (record (n6 2) { got = put (n6 2).got 1 2 })

abbrev n8 : ℕ → Node
n8 = put n7 1 (record (n7 1) { gone = put (n7 1).gone 0 true })

abbrev n9 : ℕ → Node
n9 = put n8 2 (record (n8 2) { gone = put (n8 2).gone 0 true })

abbrev n10 : ℕ → Node
n10 = put n9 2 (decided 3 2 (n9 2) n9)

abbrev n11 : ℕ → Node
n11 = put n10 2 (record (n10 2) { rows = (n10 2).rows ++ (λ p. is_over ((n10 2).ends p) (ran (n10 2))) ∷ [] })

abbrev n12 : ℕ → Node
n12 = put n11 2 (record (n11 2) { rows = (n11 2).rows ++ (λ p. is_over ((n11 2).ends p) (ran (n11 2))) ∷ [] })

hears : HasHeard 3 (n9 ∷ n8 ∷ n7 ∷ n6 ∷ n5 ∷ n4 ∷ n3 ∷ n2 ∷ n1 ∷ n0 ∷ []) 2 (n9 2) n9
hears is l n o = grind (arith, true≢false)

runs0 : (p : ℕ) → p < 3 → is_over ((n10 2).ends p) (ran (n10 2)) ≡ false → ran (n10 2) < (n10 2).got p
unfolding highest
runs0 p l h = grind arith

runs1 : (p : ℕ) → p < 3 → is_over ((n11 2).ends p) (ran (n11 2)) ≡ false → ran (n11 2) < (n11 2).got p
unfolding highest
runs1 p l h = grind (arith, true≢false)

run1 : IsRun 3 5 (n1 ∷ n0 ∷ [])
run1 = (step n0 ([]) 0 Make (record (n0 0) { got = put (n0 0).got 0 ((n0 0).got 0 + 1) }) (omega arith) refl (omega arith, refl), refl)

run2 : IsRun 3 5 (n2 ∷ n1 ∷ n0 ∷ [])
run2 = (step n1 (n0 ∷ []) 1 Take (record (n1 1) { got = put (n1 1).got 0 1 }) (omega arith) refl (0, 1, n1 0, (0, inl refl, inl refl), refl, refl, omega arith, omega arith, refl), run1)

run3 : IsRun 3 5 (n3 ∷ n2 ∷ n1 ∷ n0 ∷ [])
run3 = (step n2 (n1 ∷ n0 ∷ []) 1 Make (record (n2 1) { got = put (n2 1).got 1 ((n2 1).got 1 + 1) }) (omega arith) refl (omega arith, refl), run2)

run4 : IsRun 3 5 (n4 ∷ n3 ∷ n2 ∷ n1 ∷ n0 ∷ [])
run4 = (step n3 (n2 ∷ n1 ∷ n0 ∷ []) 1 Make (record (n3 1) { got = put (n3 1).got 1 ((n3 1).got 1 + 1) }) (omega arith) refl (omega arith, refl), run3)

run5 : IsRun 3 5 (n5 ∷ n4 ∷ n3 ∷ n2 ∷ n1 ∷ n0 ∷ [])
run5 = (step n4 (n3 ∷ n2 ∷ n1 ∷ n0 ∷ []) 2 Make (record (n4 2) { got = put (n4 2).got 2 ((n4 2).got 2 + 1) }) (omega arith) refl (omega arith, refl), run4)

run6 : IsRun 3 5 (n6 ∷ n5 ∷ n4 ∷ n3 ∷ n2 ∷ n1 ∷ n0 ∷ [])
run6 = (step n5 (n4 ∷ n3 ∷ n2 ∷ n1 ∷ n0 ∷ []) 2 Make (record (n5 2) { got = put (n5 2).got 2 ((n5 2).got 2 + 1) }) (omega arith) refl (omega arith, refl), run5)

run7 : IsRun 3 5 (n7 ∷ n6 ∷ n5 ∷ n4 ∷ n3 ∷ n2 ∷ n1 ∷ n0 ∷ [])
run7 = (step n6 (n5 ∷ n4 ∷ n3 ∷ n2 ∷ n1 ∷ n0 ∷ []) 2 Take (record (n6 2) { got = put (n6 2).got 1 2 }) (omega arith) refl (1, 2, n6 1, (1, inl refl, inl refl), refl, refl, omega arith, omega arith, refl), run6)

run8 : IsRun 3 5 (n8 ∷ n7 ∷ n6 ∷ n5 ∷ n4 ∷ n3 ∷ n2 ∷ n1 ∷ n0 ∷ [])
run8 = (step n7 (n6 ∷ n5 ∷ n4 ∷ n3 ∷ n2 ∷ n1 ∷ n0 ∷ []) 1 GiveUp (record (n7 1) { gone = put (n7 1).gone 0 true }) (omega arith) refl (0, omega arith, (λ e. absurd (omega arith)), refl), run7)

run9 : IsRun 3 5 (n9 ∷ n8 ∷ n7 ∷ n6 ∷ n5 ∷ n4 ∷ n3 ∷ n2 ∷ n1 ∷ n0 ∷ [])
run9 = (step n8 (n7 ∷ n6 ∷ n5 ∷ n4 ∷ n3 ∷ n2 ∷ n1 ∷ n0 ∷ []) 2 GiveUp (record (n8 2) { gone = put (n8 2).gone 0 true }) (omega arith) refl (0, omega arith, (λ e. absurd (omega arith)), refl), run8)

run10 : IsRun 3 5 (n10 ∷ n9 ∷ n8 ∷ n7 ∷ n6 ∷ n5 ∷ n4 ∷ n3 ∷ n2 ∷ n1 ∷ n0 ∷ [])
run10 = (step n9 (n8 ∷ n7 ∷ n6 ∷ n5 ∷ n4 ∷ n3 ∷ n2 ∷ n1 ∷ n0 ∷ []) 2 Decide (decided 3 2 (n9 2) n9) (omega arith) refl (n9, hears, refl), run9)

run11 : IsRun 3 5 (n11 ∷ n10 ∷ n9 ∷ n8 ∷ n7 ∷ n6 ∷ n5 ∷ n4 ∷ n3 ∷ n2 ∷ n1 ∷ n0 ∷ [])
run11 = (step n10 (n9 ∷ n8 ∷ n7 ∷ n6 ∷ n5 ∷ n4 ∷ n3 ∷ n2 ∷ n1 ∷ n0 ∷ []) 2 Run (record (n10 2) { rows = (n10 2).rows ++ (λ p. is_over ((n10 2).ends p) (ran (n10 2))) ∷ [] }) (omega arith) refl (runs0, refl), run10)

run12 : IsRun 3 5 (n12 ∷ n11 ∷ n10 ∷ n9 ∷ n8 ∷ n7 ∷ n6 ∷ n5 ∷ n4 ∷ n3 ∷ n2 ∷ n1 ∷ n0 ∷ [])
run12 = (step n11 (n10 ∷ n9 ∷ n8 ∷ n7 ∷ n6 ∷ n5 ∷ n4 ∷ n3 ∷ n2 ∷ n1 ∷ n0 ∷ []) 2 Run (record (n11 2) { rows = (n11 2).rows ++ (λ p. is_over ((n11 2).ends p) (ran (n11 2))) ∷ [] }) (omega arith) refl (runs1, refl), run11)

pub survived : (history : List (ℕ → Node)) × IsRun 3 5 history × ((now history 2).ends 0 ≡ Some 1)
    × (ran (now history 2) ≡ 2) × (lacks_at (now history 2) 0 0 ≡ false) × (lacks_at (now history 2) 1 0 ≡ true)
    × (lacks_at (now history 2) 1 1 ≡ false)
unfolding highest
survived = (n12 ∷ n11 ∷ n10 ∷ n9 ∷ n8 ∷ n7 ∷ n6 ∷ n5 ∷ n4 ∷ n3 ∷ n2 ∷ n1 ∷ n0 ∷ [], run12, refl, refl, refl, refl, refl)
