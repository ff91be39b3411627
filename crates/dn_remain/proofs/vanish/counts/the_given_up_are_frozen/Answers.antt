-- Of a player whom a node has given up nothing changes but by a decision.
use Rattle.std.proofs.{Common.{◌≡◌, ℕ, refl, sym, ◌∙◌, ap, List, [], ◌∷◌, arith, true, false}, lemmas.Bool.both_ways}
use Rattle.dn_machine.proofs.Put.{put_at, put_off}
use Rattle.dn_remain.specs.Vanished.{Node.{Node, now}, Steps.{Act, Decide, Acts, Step, IsRun}}
use Rattle.dn_remain.proofs.Vanished.{Invariant.IsKept, Always.always}
use Rattle.dn_remain.proofs.vanish.counts.the_given_up_are_frozen.Goals as goal

-- what is asked of the new state
abbrev IsFrozenAt : Node → Node → ℕ → Type 0
IsFrozenAt node new p = (new.got p ≡ node.got p) × (new.ends p ≡ node.ends p)

module _ (players ahead : ℕ) (nodes : ℕ → Node) (older : List (ℕ → Node)) (q : ℕ)
    (kept : IsKept players (nodes ∷ older)) (p : ℕ) (t : (nodes q).gone p ≡ true) where
  -- who is not given up is another
  off : (a : ℕ) → (nodes q).gone a ≡ false → (p ≡ a → ⊥)
  off a f e = both_ways ((nodes q).gone a) f (ap (nodes q).gone (sym e) ∙ t)

  frozen_new : (act : Act) (new : Node) → Acts players ahead (nodes ∷ older) q act new → (act ≡ Decide → ⊥)
      → IsFrozenAt (nodes q) new p
  frozen_new act new a f = grind (arith, put_off, off)

frozen : (players ahead : ℕ) (history : List (ℕ → Node)) (next : ℕ → Node) (p : ℕ)
    → IsRun players ahead history → (step : Step players ahead history next) → (step.act ≡ Decide → ⊥)
    → (now history step.q).gone p ≡ true
    → ((next step.q).got p ≡ (now history step.q).got p) × ((next step.q).ends p ≡ (now history step.q).ends p)
frozen players ahead [] next p run step f t = absurd run
frozen players ahead (nodes ∷ older) next p run step f t =
    let at : next step.q ≡ step.new =
    ap (λ (n : ℕ → Node). n step.q) step.next_is ∙ put_at nodes step.q step.q step.new refl in
    let k = frozen_new players ahead nodes older step.q (always players ahead (nodes ∷ older) run) p t step.act step.new
    step.acts f in
    (ap (λ (n : Node). n.got p) at ∙ k.0, ap (λ (n : Node). n.ends p) at ∙ k.1)

pub returns : goal.returns
returns c players ahead history next p run step f t = frozen players ahead history next p run step f t
