-- Datagrams that a player passes on, between two others.
use Rattle.std.specs.{Prelude.ℕ, Prelude.◌==◌, Prelude.◌&&◌, Prelude.not, Prelude.if◌then◌else◌, Prelude.slice_index, Prelude.List, Prelude.Option, Prelude.None, Option.option_map}
use Rattle.dn_link.specs.{Linked.Linked, Linked.remains, declared.received.Received.Received}
use Rattle.dn_link.specs.declared.bundle.BundleFault.TheVariants as fault
use Rattle.dn_link.specs.declared.received.Received.TheVariants as received
use Rattle.dn_session.specs.{Places.is_this, Places.place_of, declared.greeting.Address.Address, declared.part.sending.Transmit.Transmit, declared.places.Places.Places}

-- bytes, and where they go to
abbrev pub sent_of : Transmit → Address × List ℕ
sent_of transmit = (transmit.to, transmit.bytes.items)

-- where it goes on to, if two other players remain: it came from where its sender receives, and it is known where its
-- receiver does
abbrev pub next_hop : Linked → Places → Address → (from to : ℕ) → Option Address
next_hop link places here from to =
    if not (from == to) && (remains link from && is_this here (place_of from places).address
    && remains link to)
    then (place_of to places).address else None

-- a datagram of this game that names another receiver goes on as it came, unless it is a probe: that is for who
-- receives at the address to which it went
abbrev pub passed_on : Received → Address → List ℕ → Linked → Places → Option (Address × List ℕ)
passed_on (received.Unopened fault.Receiver) here bytes link places =
    if slice_index bytes 18 == 5
    then None
    else option_map (λ to. (to, bytes)) (next_hop link places here (slice_index bytes 10) (slice_index bytes 11))
passed_on received here bytes link places = None
