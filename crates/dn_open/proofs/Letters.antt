-- A packet tells the numbers beside it, and where they are close it is near; and what a node gives that gives none.
use Rattle.std.proofs.Common.{◌≡◌, ◌<◌, ◌≤◌, ℕ, List, refl, ap, sym, ◌∙◌, arith, ◌+◌, ◌/◌, ◌%◌, ◌&&◌, ◌||◌, Bool, true, not, Option, None}
use Rattle.std.specs.Prelude.{slice_index, ◌==◌, bit_and, is_some, if◌then◌else◌}
use Rattle.std.proofs.Math.Nat.{mod-lt}
use Rattle.std.proofs.lemmas.Bool.{eq-eqb}
use Rattle.std.specs.Option.{option_map}
use Rattle.dn_packet.specs.Text.{text}
use Rattle.dn_packet.specs.{declared.packet.Packet.Packet}
use Rattle.dn_packet.specs.Flags as flag
use Rattle.dn_machine.specs.Flight.{Kind, SetUp, Play, Exit, Flight, is_close, is_near, is_request_close, request_byte, request_flag}
use Rattle.dn_lockstep.specs.Sent.{bytes_of, sent_to, aim_of}
use Rattle.dn_lockstep.specs.declared.lockstep.aiming.Aim.{Aim}
use Rattle.dn_lockstep.specs.Contents.{Contents}
use Rattle.dn_lockstep.specs.Steps.{Steps, Tells}
use Rattle.dn_lockstep.proofs.{After.steps, Giving.no_flight}
use Rattle.dn_open.specs.{Arrivals.is_alike, Sealed.opened_of}

-- the upper half of the fourth byte has the flags
pub flags_at : (p : Packet) → p.flags < 16 → slice_index (text p) 3 / 16 ≡ p.flags
flags_at p few = grind (arith, mod-lt)

-- the test of a request, by the flags
abbrev asks_by : ℕ → ℕ → Option ℕ → Bool
asks_by flags low ask =
    low == request_byte ask
    && (if is_some ask then not (bit_and flags flag.retransmit == 0)
    else not (not (bit_and flags flag.retransmit == 0)))

-- the whole test, by the flags and three bytes
abbrev alike_by : Flight → ℕ → ℕ → ℕ → ℕ → Bool
alike_by flight asks low from flags =
    not (bit_and flags flag.set_up == 0)
    || (from == flight.from && (low == flight.start % 256 && asks_by flags asks flight.request))

-- numbers are those that they are
same_number : (n : ℕ) → (n == n) ≡ true
same_number n = eq-eqb n n refl

plays_ask : (ask : Option ℕ) → asks_by (0 + request_flag ask) (request_byte ask) ask ≡ true
plays_ask ask = grind (arith, same_number)

exits_ask : (ask : Option ℕ) → asks_by (8 + request_flag ask) (request_byte ask) ask ≡ true
exits_ask ask = grind (arith, same_number)

-- a packet of commands, by how it asks
passes : (flags : ℕ) (flight : Flight) → asks_by flags (request_byte flight.request) flight.request ≡ true
    → (rest : Bool) → (rest || (flight.from == flight.from && (flight.start % 256 == flight.start % 256
    && asks_by flags (request_byte flight.request) flight.request))) ≡ true
passes flags flight asks rest = grind (arith, same_number)

flags_low : (flags : ℕ) (ask : Option ℕ) → flags ≤ 8 → flags + request_flag ask < 16
flags_low flags ask low = grind arith

pub alike : (flight : Flight) → is_alike (opened_of flight) ≡ true
alike flight = grind (arith, flags_at, flags_low, passes, plays_ask, exits_ask)

-- a packet whose numbers are close is near
pub near_if : (made : ℕ) (flight : Flight) → (is_close made flight.start && is_request_close made flight.request) ≡ true
    → is_near made flight ≡ true
near_if made flight close = go flight.kind
  where
    go : (kind : Kind) → is_near made (record flight { kind = kind }) ≡ true
    go (SetUp settings) = refl
    go Play = close
    go Exit = close

-- a node that gives no packet, for which nothing goes out, whatever would be shown of one
pub gives_none : {A : Type 0} (view : Flight → A) (to : ℕ) (old new : Contents) (given : Option (List ℕ))
    (aim : Option Aim)
    → Steps old new (λ limits me m. sent_to to limits me m) (λ flight. given ≡ option_map bytes_of flight)
    → Tells old (λ limits me m. aim ≡ option_map aim_of (sent_to to limits me m).1) → None ≡ aim
    → Steps old new (λ limits me m. sent_to to limits me m) (λ flight. None ≡ option_map view flight)
gives_none view to old new given aim sent aimed none = steps sent.same (λ limits me m r. record {
  node = (sent.step limits me m r).node;
  answer = sym (ap (option_map view) (no_flight aim_of _ (none ∙ aimed limits me m r)));
})
