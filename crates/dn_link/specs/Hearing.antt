-- How the packets of a datagram are heard, and what a lockstep gives to a peer.
use Rattle.std.specs.{Prelude.{◌≡◌, Bool, true, false, List, [], ◌∷◌, ℕ, Option}, Option.option_map}
use Rattle.dn_seal.specs.declared.opened.Opened.{Opened}
use Rattle.dn_machine.specs.Flight.{Flight}
use Rattle.dn_lockstep.specs.{Contents.Contents, Sent.{sent_to, bytes_of}, Steps.Steps}
use Rattle.dn_open.specs.{Arrivals.{HearsOpened, SparesSealed}, declared.hearing.Arrived.Arrived}
use Rattle.dn_link.specs.declared.bundle.Carried.{Carried}

-- this where a test holds, and that where it does not
abbrev pub ByTest : Bool → Type 0 → Type 0 → Type 0
ByTest true This That = This
ByTest false This That = That

-- packets are heard one after the other; what is dropped changes nothing
abbrev pub HearsAll : List Opened → Contents → Contents → Type 0
HearsAll [] old new = new ≡ old
HearsAll (packet ∷ packets) old new =
    (next : Contents) × (answer : Arrived) × HearsOpened packet old next answer × SparesSealed old next answer
    × HearsAll packets next new

-- What a lockstep gives to a peer.

-- a packet that was sent, with its exact numbers
abbrev pub carried_of : Flight → Carried
carried_of flight =
    record { start = flight.start; ask = flight.request; datagram = record { items = bytes_of flight } }

-- the packet that the machine sends
abbrev pub SendsCarried : ℕ → Contents → Contents → Option Carried → Type 0
SendsCarried to old new given =
    Steps old new (λ limits me m. sent_to to limits me m) (λ flight. given ≡ option_map carried_of flight)
