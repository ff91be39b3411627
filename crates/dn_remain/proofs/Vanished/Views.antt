-- States of nodes, and what of them stays when a node steps.
use Rattle.std.proofs.Common.{◌≡◌, ℕ, ◌<◌, ◌≤◌, sym, ◌∙◌, arith, List, ◌∷◌, Bool, true, false}
use Rattle.std.proofs.lemmas.Bool.{both_ways, false_from_ne_true}
use Rattle.dn_remain.specs.Vanished.Node.{Node, now, Was, Same, Within, Stands}
use Rattle.dn_remain.proofs.Vanished.Invariant.{IsBase, IsDecision, IsFrozen, IsLater, HasSource, IsSound, IsKept}

-- who is outside the larger set is outside the smaller
pub outside : (a b : ℕ → Bool) (p : ℕ) → Within a b → b p ≡ false → a p ≡ false
outside a b p h e = false_from_ne_true (a p) (λ t. both_ways (b p) e (h p t))

-- two sets, each within the other
pub both_within : (a b : ℕ → Bool) → Within a b → Within b a → Same a b
both_within a b h k p = grind (arith, outside)

pub same_within : (a b : ℕ → Bool) → Same a b → Within a b
same_within a b s p t = sym (s p) ∙ t

pub same_turned : (a b : ℕ → Bool) → Same a b → Same b a
same_turned a b s p = sym (s p)

pub same_joined : (a b c : ℕ → Bool) → Same a b → Same b c → Same a c
same_joined a b c s t p = s p ∙ t p

pub stands_same : (a b : ℕ → Bool) (w : Node) → Same a b → Stands a w → Stands b w
stands_same a b w s h = grind (arith, same_joined)

-- who is outside the set is so in a state that stands for it
pub stands_outside : (set : ℕ → Bool) (w : Node) (p : ℕ) → Stands set w → set p ≡ false → w.gone p ≡ false
stands_outside set w p h o = grind (arith, outside)

module _ (players : ℕ) where
  -- a floor for a set is one for the same set
  pub base_same : (history : List (ℕ → Node)) (a b : ℕ → Bool) (p e : ℕ) → Same a b
      → IsBase players history a p e → IsBase players history b p e
  base_same history a b p e s h = record {
    bound = λ m k. h.bound m (λ r l o.
        let w = k r l (sym (s r) ∙ o) in
        (w.0, w.1, stands_same b a w.0 (same_turned a b s) w.2, w.3));
  }

  -- every state of a node is an earlier one than itself
  pub later_self : (history : List (ℕ → Node)) (x : ℕ) (u : Node) → IsLater players history x u u
  later_self history x u = grind arith

  pub later_joined : (history : List (ℕ → Node)) (x : ℕ) (u v w : Node) → IsLater players history x u v
      → IsLater players history x v w → IsLater players history x u w
  later_joined history x u v w h k = grind arith

  -- the old history, and the one with these nodes before it
  module _ (history : List (ℕ → Node)) (next : ℕ → Node) (grows : (r p : ℕ) → (now history r).got p ≤ (next r).got p)
      (kept : IsKept players history) where
    -- a floor stays one: a new state of a player has no lower count than an old one that stands for the set
    pub base_kept : (set : ℕ → Bool) (p e : ℕ)
        → ((r : ℕ) → r < players → set r ≡ false → (w : Node) × Was history r w × Stands set w)
        → IsBase players history set p e → IsBase players (next ∷ history) set p e
    base_kept set p e sees h = record {
      bound = λ b k. h.bound b (λ r l o.
          grind (arith, k r l o));
    }

    pub decision_kept : (x : ℕ) (d : Node) → IsDecision players history x d
        → IsDecision players (next ∷ history) x d
    decision_kept x d h = grind (arith, base_kept)

    pub frozen_kept : (x : ℕ) (u v : Node) (p : ℕ) → IsFrozen players history x u v p
        → IsFrozen players (next ∷ history) x u v p
    frozen_kept x u v p h = grind (arith, decision_kept)

    pub later_kept : (x : ℕ) (u v : Node) → IsLater players history x u v → IsLater players (next ∷ history) x u v
    later_kept x u v h = record {
      gone = h.gone;
      got = h.got;
      ends = h.ends;
      left = h.left;
      frozen = λ p t. frozen_kept x u v p (h.frozen p t);
      grown = h.grown;
    }

    -- a node that has left makes no more commands
    pub source_kept : (stays : (p : ℕ) → (now history p).left ≡ true → next p ≡ now history p) (x : ℕ)
        (u : Node) (p e : ℕ) → HasSource players history x u p e → HasSource players (next ∷ history) x u p e
    source_kept stays x u p e h = grind (arith, decision_kept)

    pub sound_kept : (stays : (p : ℕ) → (now history p).left ≡ true → next p ≡ now history p) (x : ℕ)
        (u : Node) → IsSound players history x u → IsSound players (next ∷ history) x u
    sound_kept stays x u h = record {
      own = h.own;
      full = h.full;
      made = λ p. omega (arith, h.made p, grows p p);
      source = λ p e s. source_kept stays x u p e (h.source p e s);
      rows = h.rows;
      ahead = h.ahead;
    }
