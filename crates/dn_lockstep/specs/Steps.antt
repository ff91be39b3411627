-- A call on a lockstep is a step of the machine, or tells of its node; and a run, by the marks that the
-- caller hands in.
use Rattle.std.specs.Prelude.{ℕ, ◌≡◌, ◌+◌, ℤ, pos, List, get_or, Option, Some, None}
use Rattle.dn_tic.specs.declared.command.Move.{Move}
use Rattle.dn_machine.specs.Calls as call
use Rattle.dn_machine.specs.Limits.{Limits}
use Rattle.dn_machine.specs.Node as machine
use Rattle.dn_machine.specs.declared.answers.Ran.{Ran}
use Rattle.dn_machine.specs.Running.{row_held}
use Rattle.dn_lockstep.specs.Contents.{Contents, whose}
use Rattle.dn_lockstep.specs.Represents.{Represents}

-- it represents the node after a step, and answers as the step does
abbrev pub IsAfter : {A : Type 0} → Limits → ℕ → Contents → machine.Node × A → (A → Type 0) → Type 0
IsAfter limits me n after IsAnswer = call.IsAfter (Represents limits me) n after IsAnswer

-- whatever node it represented, it represents afterwards what the step makes of that one
abbrev pub Simulates : {A : Type 0} → Contents → Contents → (Limits → ℕ → machine.Node → machine.Node × A)
    → (A → Type 0) → Type 0
Simulates old new by IsAnswer = call.Simulates Represents old new by IsAnswer

-- and stays whose it is
abbrev pub Steps : {A : Type 0} → Contents → Contents → (Limits → ℕ → machine.Node → machine.Node × A)
    → (A → Type 0) → Type 0
Steps old new by IsAnswer = call.Steps Represents whose old new by IsAnswer

-- a step without an answer
abbrev pub Becomes : Contents → Contents → (Limits → ℕ → machine.Node → machine.Node) → Type 0
Becomes old new next = Steps old new (λ limits me m. (next limits me m, tt {0})) (λ done. Unit {0})

-- whatever node it represents, this holds of that one
abbrev pub Tells : Contents → (Limits → ℕ → machine.Node → Type 0) → Type 0
Tells n Fact = call.Tells Represents n Fact

-- each player's mark, as it is handed in
abbrev pub marks_in : List ℤ → ℕ → ℤ
marks_in marks player = get_or marks player (pos 0)

-- the row that an answer tells, of one that was filled in for a tic that was run
abbrev pub told_by : Ran → List (Option Move) → Option (List (Option Move))
told_by (Ran.Ran tic) row = Some row
told_by (Ran.Waiting player) row = None
told_by (Ran.Inconsistent player was should) row = None
told_by Ran.DemoFull row = None
told_by Ran.NotPlaying row = None

-- the row that the caller's world is to move on by: that of a tic that was run
abbrev pub row_told : Limits → machine.Node → Ran → Option (List (Option Move))
row_told limits m ran = told_by ran (row_held limits m)

-- a run of a node, with the row that it tells
abbrev pub with_row : Limits → machine.Node → machine.Node × Ran
    → machine.Node × (Ran × Option (List (Option Move)))
with_row limits m after = (after.0, (after.1, row_told limits m after.1))

-- a run with these marks is the machine's, and tells its row
abbrev pub RunsBy : List ℤ → Contents → Contents → (Limits → machine.Node → (ℕ → ℤ) → machine.Node × Ran)
    → (Ran → Option (List (Option Move)) → Type 0) → Type 0
RunsBy marks old new run IsAnswer =
    Steps old new (λ limits me m. with_row limits m (run limits m (marks_in marks)))
    (λ answer. IsAnswer answer.0 answer.1)

-- where a tic was run, one more is counted
abbrev pub RunsOne : Contents → Contents → Ran → Type 0
RunsOne old new ran = (tic : ℕ) → ran ≡ Ran.Ran tic → new.ran ≡ old.ran + 1

-- who waits for a player stays as it was, and so does the row
abbrev pub WaitsAsItWas : {A : Type 0} → A → A → Ran → List (Option Move) → List (Option Move) → Type 0
WaitsAsItWas old new ran row after = (player : ℕ) → ran ≡ Ran.Waiting player → (new ≡ old) × (after ≡ row)

-- where a mark is off the row stays as it was
abbrev pub TellsNoRow : Ran → List (Option Move) → List (Option Move) → Type 0
TellsNoRow ran row after = (player : ℕ) (was should : ℤ) → ran ≡ Ran.Inconsistent player was should → after ≡ row

-- where the demo is full the row is the one that it has no room for
abbrev pub FillsIn : Contents → Ran → List (Option Move) → Type 0
FillsIn old ran after = ran ≡ Ran.DemoFull → Tells old (λ limits me m. after ≡ row_held limits m)
