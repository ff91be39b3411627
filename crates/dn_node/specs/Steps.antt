-- A call on a node is a step of the machine, or tells of its node; and what a node must know to give a
-- packet.
use Rattle.std.specs.Prelude.{ℕ, List, ◌≡◌, Option}
use Rattle.std.specs.Option.{option_map}
use Rattle.dn_packet.specs.Written.{IsGiven}
use Rattle.dn_world.specs.Physics.{Physics}
use Rattle.dn_machine.specs.declared.answers.Heard.{Heard}
use Rattle.dn_machine.specs.Calls as call
use Rattle.dn_machine.specs.Limits.{Limits}
use Rattle.dn_machine.specs.Worlds.{Rules, rules_within}
use Rattle.dn_machine.specs.Node as machine
use Rattle.dn_lockstep.specs.Hearing as lockstep
use Rattle.dn_lockstep.specs.declared.lockstep.aiming.Aim.{Aim}
use Rattle.dn_lockstep.specs.Giving as giving
use Rattle.dn_lockstep.specs.Sent.{sent_to, bytes_of}
use Rattle.dn_node.specs.Contents.{Contents, locked, whose, Represents}

-- what a node of a world of these physics represents
abbrev pub Shows : {W S : Type 0} → (W → S) → Physics S → Limits → ℕ → Contents W → machine.Node → Type 0
Shows state physics limits me n m = Represents state (rules_within physics limits) me n m

-- it represents the node after a step, and answers as the step does
abbrev pub IsAfter : {W S A : Type 0} → (W → S) → Rules S → ℕ → Contents W → machine.Node × A → (A → Type 0)
    → Type 0
IsAfter state rules me n after IsAnswer = call.IsAfter (Represents state rules me) n after IsAnswer

-- whatever node it represented, it represents afterwards what the step makes of that one, and it stays whose
-- it is
abbrev pub Steps : {W S A : Type 0} → (W → S) → Physics S → Contents W → Contents W
    → (Rules S → ℕ → machine.Node → machine.Node × A) → (A → Type 0) → Type 0
Steps state physics old new by IsAnswer =
    call.Steps (Shows state physics) whose old new (λ limits. by (rules_within physics limits)) IsAnswer

-- whatever node it represents, this holds of that one
abbrev pub Tells : {W S : Type 0} → (W → S) → Physics S → Contents W → (Rules S → ℕ → machine.Node → Type 0)
    → Type 0
Tells state physics n Fact = call.Tells (Shows state physics) n (λ limits. Fact (rules_within physics limits))

-- whatever the bytes are, they are heard as what they are read as
abbrev pub HearsAny : {W S : Type 0} → (W → S) → Physics S → ℕ → List ℕ → Contents W → Contents W → Heard
    → Type 0
HearsAny state physics = lockstep.HearsAnyIn (Shows state physics) locked

-- a flight from no more than 64 tics away is heard as itself
abbrev pub HearsNear : {W S : Type 0} → (W → S) → Physics S → ℕ → List ℕ → Contents W → Contents W → Heard
    → Type 0
HearsNear state physics = lockstep.HearsNearIn (Shows state physics) locked

-- the commands from its start on are all kept
abbrev pub Reaches : {W : Type 0} → Contents W → Aim → Type 0
Reaches n aim = giving.Reaches (locked n) aim

-- who can be given a packet: another player
abbrev pub Gives : {W : Type 0} → Contents W → ℕ → Type 0
Gives n to = giving.Gives (locked n) to

-- the packet that the machine sends is written to the front of a room, and nothing where it sends none
abbrev pub IsSentTo : {W S : Type 0} → (W → S) → Physics S → ℕ → Contents W → Contents W → List ℕ → List ℕ → ℕ
    → Type 0
IsSentTo state physics to old new room written count =
    (given : Option (List ℕ)) × IsGiven given room written count
    × Steps state physics old new (λ rules me m. sent_to to rules.limits me m)
    (λ flight. given ≡ option_map bytes_of flight)
