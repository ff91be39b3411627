-- A call on something that represents nodes is a step of the machine, or tells of its node.
use Rattle.std.specs.Prelude.{◌≡◌, ℕ}
use Rattle.dn_machine.specs.Limits.{Limits}
use Rattle.dn_machine.specs.Node.{Node}

-- a call leaves something that represents the node after a step, and answers as the step does
pub record IsAfter {C A : Type 0} (Represents : C → Node → Type 0) (now : C) (after : Node × A)
    (IsAnswer : A → Type 0) : Type 0 where
  pub node : Represents now after.0
  pub answer : IsAnswer after.1

-- whatever node was represented before, what the step makes of that one is represented afterwards
abbrev pub Simulates : {C A : Type 0} → (Limits → ℕ → C → Node → Type 0) → C → C
    → (Limits → ℕ → Node → Node × A) → (A → Type 0) → Type 0
Simulates {C} {A} Represents old new by IsAnswer =
    (limits : Limits) (me : ℕ) (m : Node) → Represents limits me old m
    → IsAfter (Represents limits me) new (by limits me m) IsAnswer

-- and stays whose it is: of the same game and the same player
pub record Steps {C W A : Type 0} (Represents : Limits → ℕ → C → Node → Type 0) (whose : C → W) (old new : C)
    (by : Limits → ℕ → Node → Node × A) (IsAnswer : A → Type 0) : Type 0 where
  pub same : whose new ≡ whose old
  pub step : Simulates Represents old new by IsAnswer

-- whatever node it represents, this holds of that one
abbrev pub Tells : {C : Type 0} → (Limits → ℕ → C → Node → Type 0) → C → (Limits → ℕ → Node → Type 0) → Type 0
Tells {C} Represents n Fact = (limits : Limits) (me : ℕ) (m : Node) → Represents limits me n m → Fact limits me m
