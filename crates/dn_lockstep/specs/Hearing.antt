-- What is promised of a datagram that is heard.
use Rattle.std.specs.Prelude.{◌≡◌, ◌≢◌, ◌<◌, ℕ, true, List, Result}
use Rattle.dn_packet.specs.declared.packet.Packet.{Packet}
use Rattle.dn_packet.specs.declared.packet.PacketFault.{PacketFault}
use Rattle.dn_packet.specs.Read.{IsReadAs}
use Rattle.dn_packet.specs.Text.{text}
use Rattle.dn_setup.specs.Settings.{Settings}
use Rattle.dn_setup.specs.declared.setup.SetupFault.{SetupFault}
use Rattle.dn_machine.specs.declared.answers.Heard.{Heard}
use Rattle.dn_machine.specs.Flight.{Flight, packet_of, is_near}
use Rattle.dn_machine.specs.Hearing.{on_packet}
use Rattle.dn_machine.specs.Calls as call
use Rattle.dn_machine.specs.Limits.{Limits}
use Rattle.dn_machine.specs.Node.{Node}
use Rattle.dn_lockstep.specs.Contents.{Contents, whose}
use Rattle.dn_lockstep.specs.Sent.{IsFair}
use Rattle.dn_lockstep.specs.Received.{received, IsTold}
use Rattle.dn_lockstep.specs.Represents.{Represents}
use Rattle.dn_lockstep.specs.Told.{made}

-- of a lockstep, or of a node that holds one: whatever the bytes are, they are heard as what they are read as
pub record HearsAnyIn {C : Type 0} (Shows : Limits → ℕ → C → Node → Type 0) (locked : C → Contents)
    (from : ℕ) (bytes : List ℕ) (old new : C) (heard : Heard) : Type 0 where
  pub same : whose (locked new) ≡ whose (locked old)
  pub step : (read : Result Packet PacketFault) (told : Result Settings SetupFault) → IsReadAs bytes read
      → IsTold read told
      → call.Simulates Shows old new (λ limits me m. received limits me m from told read)
      (λ answer. heard ≡ answer)

-- and a flight from no more than 64 tics away is heard as itself
abbrev pub HearsNearIn : {C : Type 0} → (Limits → ℕ → C → Node → Type 0) → (C → Contents) → ℕ → List ℕ → C → C
    → Heard → Type 0
HearsNearIn {C} Shows locked from bytes old new heard =
    (flight : Flight) → IsFair flight → bytes ≡ text (packet_of flight) → flight.from ≡ from
    → from < (locked old).players → from ≢ (locked old).me
    → is_near (made (locked old)) flight ≡ true
    → call.Steps Shows (λ n. whose (locked n)) old new (λ limits me m. on_packet limits me m flight)
    (λ answer. heard ≡ answer)

-- by a lockstep
abbrev pub HearsAny : ℕ → List ℕ → Contents → Contents → Heard → Type 0
HearsAny = HearsAnyIn Represents (λ n. n)

abbrev pub HearsNear : ℕ → List ℕ → Contents → Contents → Heard → Type 0
HearsNear = HearsNearIn Represents (λ n. n)

-- a datagram that is dropped changes nothing
abbrev pub Spares : {A : Type 0} → A → A → Heard → Type 0
Spares old new heard = (number : ℕ) → heard ≡ Heard.Dropped number → new ≡ old
