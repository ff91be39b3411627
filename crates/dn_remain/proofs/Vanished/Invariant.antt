-- What every step keeps.
use Rattle.std.specs.Prelude.{ℕ, ◌<◌, ◌≤◌, Bool, true, false, List, ◌≡◌, ◌⊎◌, Some, None}
use Rattle.dn_machine.specs.Running.{is_over}
use Rattle.dn_remain.specs.Vanished.{Node.{Node, ran, now, Was, Within, Stands}, Promise.lacks_at}

-- Whatever states one takes that stand for this set, one of each player outside, the highest of their counts
-- is at least this. So whoever decides for the set decides at least this.
pub record IsBase (players : ℕ) (history : List (ℕ → Node)) (set : ℕ → Bool) (p end : ℕ) : Type 0 where
  pub bound : (b : ℕ) → ((r : ℕ) → r < players → set r ≡ false
      → (w : Node) × Was history r w × Stands set w × (w.got p ≤ b))
      → end ≤ b

-- node `x` was in this state right after it had decided
pub record IsDecision (players : ℕ) (history : List (ℕ → Node)) (x : ℕ) (d : Node) : Type 0 where
  pub was : Was history x d
  pub own : d.gone x ≡ false
  pub known : (p : ℕ) → d.gone p ≡ true → d.ends p ≡ Some (d.got p)
  -- of each player outside it had a state that stands for its set, whose counts it reaches
  pub sees : (r : ℕ) → r < players → d.gone r ≡ false
      → (w : Node) × Was history r w × Stands d.gone w × ((p : ℕ) → d.gone p ≡ true → w.got p ≤ d.got p)
  -- and of which none had more of its own commands
  pub reaches : (r : ℕ) → r < players → d.gone r ≡ false
      → (w : Node) × Was history r w × Stands d.gone w × (w.got x ≤ d.got x)
  pub base : (p : ℕ) → d.gone p ≡ true → IsBase players history d.gone p (d.got p)

-- a player's count stayed between two states of node `x`, or the last of them has it from a decision between
abbrev pub IsFrozen : ℕ → List (ℕ → Node) → ℕ → Node → Node → ℕ → Type 0
IsFrozen players history x u v p = (v.got p ≡ u.got p) ⊎ ((d : Node) × IsDecision players history x d
    × Within u.gone d.gone × Within d.gone v.gone × (d.got p ≡ v.got p) × (d.got x ≤ v.got x))

-- rows are added, and none is changed
pub record IsGrown (u v : Node) : Type 0 where
  pub more : ran u ≤ ran v
  pub same : (tic p : ℕ) → tic < ran u → lacks_at v tic p ≡ lacks_at u tic p

-- `v` is a later state of node `x` than `u`, or the same
pub record IsLater (players : ℕ) (history : List (ℕ → Node)) (x : ℕ) (u v : Node) : Type 0 where
  pub gone : Within u.gone v.gone
  pub got : (p : ℕ) → u.got p ≤ v.got p
  pub ends : (p e : ℕ) → u.ends p ≡ Some e → v.ends p ≡ Some e
  pub left : u.left ≡ true → v ≡ u
  pub frozen : (p : ℕ) → u.gone p ≡ true → IsFrozen players history x u v p
  pub grown : IsGrown u v

-- where a node has a player's end from: EXIT, or a decision
abbrev pub HasSource : ℕ → List (ℕ → Node) → ℕ → Node → ℕ → ℕ → Type 0
HasSource players history x u p e = (((now history p).left ≡ true) × (e ≡ (now history p).got p))
    ⊎ ((d : Node) × IsDecision players history x d × (d.gone p ≡ true) × (d.got p ≡ e) × Within d.gone u.gone
    × (d.got x ≤ u.got x))

-- what holds of one state of node `x`
pub record IsSound (players : ℕ) (history : List (ℕ → Node)) (x : ℕ) (u : Node) : Type 0 where
  pub own : u.gone x ≡ false
  pub full : (p e : ℕ) → u.ends p ≡ Some e → u.got p ≡ e
  pub made : (p : ℕ) → u.got p ≤ (now history p).got p
  pub source : (p e : ℕ) → u.ends p ≡ Some e → HasSource players history x u p e
  pub rows : (p tic : ℕ) → p < players → tic < ran u → lacks_at u tic p ≡ is_over (u.ends p) tic
  pub ahead : (p : ℕ) → p < players → u.ends p ≡ None → ran u ≤ u.got p

-- two states of two nodes that had not given up each other: an end that one knows is not below what the other
-- has
abbrev pub IsMet : ℕ → ℕ → Node → Node → Type 0
IsMet x z u v = u.gone z ≡ false → v.gone x ≡ false → (p e : ℕ) → u.ends p ≡ Some e → v.got p ≤ e

pub record IsKept (players : ℕ) (history : List (ℕ → Node)) : Type 0 where
  pub order : (x : ℕ) (u : Node) → Was history x u → IsLater players history x u (now history x)
  pub pairs : (x : ℕ) (u v : Node) → Was history x u → Was history x v
      → IsLater players history x u v ⊎ IsLater players history x v u
  pub sound : (x : ℕ) (u : Node) → Was history x u → IsSound players history x u
  pub met : (x z : ℕ) (u v : Node) → x < players → z < players → (x ≡ z → ⊥) → Was history x u
      → Was history z v → IsMet x z u v
